use Rattle.code_laws.proofs.laws.talk_joined.Goals as goal
use Rattle.code_laws.proofs.Births.{talk_joins}

pub returns : goal.returns
returns c = talk_joins

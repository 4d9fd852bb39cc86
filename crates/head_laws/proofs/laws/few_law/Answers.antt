use Rattle.head_laws.proofs.laws.few_law.Goals as goal
use Rattle.head_laws.proofs.Few.{few_things}

pub returns : goal.returns
returns c = few_things

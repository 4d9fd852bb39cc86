use Rattle.head_laws.proofs.laws.heads_law.Goals as goal
use Rattle.head_laws.proofs.Heads.{heads_are}

pub returns : goal.returns
returns c = heads_are

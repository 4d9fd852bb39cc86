use Rattle.follow_laws.proofs.laws.index_law.Goals as goal
use Rattle.follow_laws.proofs.Gathered.{index_law}

pub returns : goal.returns
returns c = index_law

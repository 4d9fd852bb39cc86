use Rattle.follow_laws.proofs.laws.contents_law.Goals as goal
use Rattle.follow_laws.proofs.Gathered.{contents_law}

pub returns : goal.returns
returns c = contents_law

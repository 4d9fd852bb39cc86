use Rattle.follow_laws.proofs.laws.assign_law.Goals as goal
use Rattle.follow_laws.proofs.Gathered.{assign_law}

pub returns : goal.returns
returns c = assign_law

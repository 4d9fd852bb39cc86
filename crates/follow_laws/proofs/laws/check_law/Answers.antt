use Rattle.follow_laws.proofs.laws.check_law.Goals as goal
use Rattle.follow_laws.proofs.Gathered.{check_law}

pub returns : goal.returns
returns c = check_law

use Rattle.run_laws.proofs.laws.follows_law.Goals as goal
use Rattle.run_laws.proofs.Following.{follows_law}

pub returns : goal.returns
returns c = follows_law

use Rattle.follow_laws.proofs.laws.request_law.Goals as goal
use Rattle.follow_laws.proofs.Gathered.{request_law}

pub returns : goal.returns
returns c = request_law

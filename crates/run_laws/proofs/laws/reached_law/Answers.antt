use Rattle.run_laws.proofs.laws.reached_law.Goals as goal
use Rattle.run_laws.proofs.Retiming.{reached_law}

pub returns : goal.returns
returns c = reached_law

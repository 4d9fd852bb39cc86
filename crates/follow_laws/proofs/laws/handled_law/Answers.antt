use Rattle.follow_laws.proofs.laws.handled_law.Goals as goal
use Rattle.follow_laws.proofs.HandledRuns.{handled_runs}

pub returns : goal.returns
returns c = handled_runs

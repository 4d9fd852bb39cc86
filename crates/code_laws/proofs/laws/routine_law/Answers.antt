use Rattle.code_laws.proofs.laws.routine_law.Goals as goal
use Rattle.code_laws.proofs.BetweenRuns.{routine_runs}

pub returns : goal.returns
returns c = routine_runs

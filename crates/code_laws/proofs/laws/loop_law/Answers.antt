use Rattle.code_laws.proofs.laws.loop_law.Goals as goal
use Rattle.code_laws.proofs.ControlRuns.{loop_runs}

pub returns : goal.returns
returns c = loop_runs

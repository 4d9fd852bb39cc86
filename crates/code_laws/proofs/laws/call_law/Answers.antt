use Rattle.code_laws.proofs.laws.call_law.Goals as goal
use Rattle.code_laws.proofs.CallRuns.{call_runs}

pub returns : goal.returns
returns c = call_runs

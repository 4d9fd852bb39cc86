use Rattle.code_laws.proofs.laws.same_runs_law.Goals as goal
use Rattle.code_laws.proofs.SameRuns.{same_runs}

pub returns : goal.returns
returns c = same_runs

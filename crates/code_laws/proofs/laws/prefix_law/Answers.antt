use Rattle.code_laws.proofs.laws.prefix_law.Goals as goal
use Rattle.code_laws.proofs.BetweenRuns.{prefix_runs}

pub returns : goal.returns
returns c = prefix_runs

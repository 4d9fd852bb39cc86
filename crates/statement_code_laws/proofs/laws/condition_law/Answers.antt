use Rattle.statement_code_laws.proofs.laws.condition_law.Goals as goal
use Rattle.statement_code_laws.proofs.ConditionRuns.{condition_runs}

pub returns : goal.returns
returns c = condition_runs

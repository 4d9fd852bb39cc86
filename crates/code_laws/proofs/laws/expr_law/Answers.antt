use Rattle.code_laws.proofs.laws.expr_law.Goals as goal
use Rattle.code_laws.proofs.ExprRuns.{expr_runs}

pub returns : goal.returns
returns c = expr_runs

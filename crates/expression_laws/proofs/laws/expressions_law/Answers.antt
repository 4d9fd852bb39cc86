use Rattle.expression_laws.proofs.laws.expressions_law.Goals as goal
use Rattle.expression_laws.proofs.Expressions.{expr_there}

pub returns : goal.returns
returns c = expr_there

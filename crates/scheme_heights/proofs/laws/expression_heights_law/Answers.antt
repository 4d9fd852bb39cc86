use Rattle.scheme_heights.proofs.laws.expression_heights_law.Goals as goal
use Rattle.scheme_heights.proofs.Expressions.{expression_heights_law}

pub returns : goal.returns
returns c = expression_heights_law

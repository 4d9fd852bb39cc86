use Rattle.typed_laws.proofs.laws.typed_law.Goals as goal
use Rattle.typed_laws.proofs.Expressions.{expr_typed_law}

pub returns : goal.returns
returns c = record { expressions = expr_typed_law }

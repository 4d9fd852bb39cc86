-- The ground that expressions are asked against.
use Rattle.std.specs.Prelude.{ℕ}
use Rattle.checks_model.specs.Ground.{Ground}
use Rattle.constant_operators.specs.Grounds.{ground_of, HasGround}
use Rattle.expr_rules.specs.declared.surroundings.Walk.{Walk}

abbrev pub ground_in : Walk → Ground
ground_in w = ground_of w.evaluation.now

-- the evaluation keeps it
abbrev pub HasItsGround : Walk → Type 0
HasItsGround w = HasGround w.evaluation.now

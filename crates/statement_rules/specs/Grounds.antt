-- The ground that statements are asked against.
use Rattle.checks_model.specs.Ground.{Ground}
use Rattle.expr_rules.specs.Grounds.{ground_in, HasItsGround}
use Rattle.statement_rules.specs.declared.walk.Statements.{Statements}

abbrev pub ground_at : Statements → Ground
ground_at s = ground_in s.walk

-- the evaluation keeps it
abbrev pub IsGrounded : Statements → Type 0
IsGrounded s = HasItsGround s.walk

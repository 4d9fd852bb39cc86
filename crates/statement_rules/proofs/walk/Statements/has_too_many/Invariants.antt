use Rattle.std.proofs.Common.{◌≡◌, ◌+◌, ◌≤◌, drop}
use Rattle.std.specs.Prelude.{sum_by}
use Rattle.checks_model.specs.Limits.{scalars_named}
use Rattle.local_names.specs.Found.{names_found}
use Rattle.statement_rules.specs.Grounds.{ground_at, IsGrounded}
use Rattle.statement_rules.proofs.walk.Statements.has_too_many.Given as goal

abbrev pub invariant-loop-local : goal.invariant-loop-local
invariant-loop-local l = (l.sum ≤ 512) × (IsGrounded l.self → l.sum + sum_by (scalars_named (ground_at l.self)) (names_found (drop l.local-index l.locals)) ≡ sum_by (scalars_named (ground_at l.self)) (names_found l.locals))

use Rattle.std.proofs.Common.{◌≡◌, ◌++◌, drop}
use Rattle.chill_tree.specs.ModeTree.{field_trees, field_nodes}
use Rattle.checks_model.specs.Phases.{exprs_of_fields}
use Rattle.statement_rules.specs.Steps.{told_in_exprs}
use Rattle.statement_rules.specs.Grounds.{ground_at, IsGrounded}
use Rattle.statement_rules.proofs.walk.Statements.+base.Given as goal

abbrev pub invariant-tell_in_fields-loop-field : goal.invariant-tell_in_fields-loop-field
invariant-tell_in_fields-loop-field l = IsGrounded l.self →
    l.told ++ told_in_exprs (ground_at l.self) (exprs_of_fields (field_nodes (field_trees (drop l.field-index l.fields)))) ≡ l.fn.told ++ told_in_exprs (ground_at l.self) (exprs_of_fields (field_nodes (field_trees l.fields)))

use Rattle.std.proofs.Common.{◌≡◌, ◌++◌, drop}
use Rattle.std.specs.Prelude.{flat_map}
use Rattle.chill_tree.specs.ExprTree.{range_trees}
use Rattle.checks_model.specs.ActionRules.{told_label}
use Rattle.expr_rules.specs.Views.{own_class}
use Rattle.statement_rules.specs.Grounds.{ground_at, IsGrounded}
use Rattle.statement_rules.proofs.walk.Statements.tell_labels.Given as goal

abbrev pub invariant-loop-label : goal.invariant-loop-label
invariant-loop-label l = IsGrounded l.self →
    l.told ++ flat_map (told_label (ground_at l.self) (own_class l.selector)) (range_trees (drop l.label-index l.labels)) ≡ l.fn.told ++ flat_map (told_label (ground_at l.self) (own_class l.selector)) (range_trees l.labels)

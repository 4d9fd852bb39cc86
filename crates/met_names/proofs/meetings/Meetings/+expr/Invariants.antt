use Rattle.std.proofs.Common.{◌≡◌, ◌++◌, drop}
use Rattle.chill_tree.specs.ExprTree.{expr_trees, range_trees}
use Rattle.met_names.specs.Facts.{told_source}
use Rattle.met_names.specs.Sources.{over_all, over_labels}
use Rattle.met_names.proofs.meetings.Meetings.+expr.Given as goal

-- what is told, and what the rest has, are what all have
abbrev pub invariant-tell_in_all-loop-expr : goal.invariant-tell_in_all-loop-expr
invariant-tell_in_all-loop-expr l =
    l.told ++ over_all (told_source l.self) (expr_trees (drop l.expr-index l.exprs)) ≡ l.fn.told ++ over_all (told_source l.self) (expr_trees l.exprs)

abbrev pub invariant-tell_in_ranges-loop-range : goal.invariant-tell_in_ranges-loop-range
invariant-tell_in_ranges-loop-range l =
    l.told ++ over_labels (told_source l.self) (range_trees (drop l.range-index l.ranges)) ≡ l.fn.told ++ over_labels (told_source l.self) (range_trees l.ranges)

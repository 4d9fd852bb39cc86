use Rattle.std.proofs.Common.{◌≡◌, ◌++◌, drop}
use Rattle.std.specs.Option.{option_copied}
use Rattle.chill_tree.specs.ExprTree.{expr_trees, range_trees}
use Rattle.names_model.specs.ExprMentions.{mentions_of_args, mentions_of_ranges}
use Rattle.reach_parts.proofs.expr.+expr.Given as goal

-- what is added, and what the rest has, are what all have
abbrev pub invariant-add_args-loop-arg : goal.invariant-add_args-loop-arg
invariant-add_args-loop-arg l =
    l.out ++ mentions_of_args (option_copied l.callee) (expr_trees (drop l.arg-index l.args)) ≡ l.fn.out ++ mentions_of_args (option_copied l.callee) (expr_trees l.args)

abbrev pub invariant-add_ranges-loop-range : goal.invariant-add_ranges-loop-range
invariant-add_ranges-loop-range l =
    l.out ++ mentions_of_ranges (range_trees (drop l.range-index l.ranges)) ≡ l.fn.out ++ mentions_of_ranges (range_trees l.ranges)

use Rattle.std.proofs.Common.{◌≡◌, ◌++◌, drop}
use Rattle.chill_tree.specs.ExprTree.{expr_nodes, expr_trees, range_nodes, range_trees}
use Rattle.table_laws.specs.Names.{names_in_each, names_in_ranges}
use Rattle.definition_order.specs.Places.{places_of}
use Rattle.definition_order.proofs.needed.+expr.Given as goal

abbrev pub invariant-add_exprs-loop-expr : goal.invariant-add_exprs-loop-expr
invariant-add_exprs-loop-expr l = l.places ++ places_of (names_in_each (expr_nodes (expr_trees (drop l.expr-index l.exprs)))) ≡ l.fn.places ++ places_of (names_in_each (expr_nodes (expr_trees l.exprs)))

abbrev pub invariant-add_ranges-loop-range : goal.invariant-add_ranges-loop-range
invariant-add_ranges-loop-range l = l.places ++ places_of (names_in_ranges (range_nodes (range_trees (drop l.range-index l.ranges)))) ≡ l.fn.places ++ places_of (names_in_ranges (range_nodes (range_trees l.ranges)))

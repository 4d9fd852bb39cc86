use Rattle.std.proofs.Common.{◌≡◌, ◌+◌, ◌≤◌, drop, map}
use Rattle.text_size.specs.Nodes.{capped}
use Rattle.chill_tree.specs.ExprTree.{expr_trees, range_trees}
use Rattle.text_size.specs.Nodes.{nodes_in_all, nodes_in_labels}
use Rattle.text_size.proofs.nodes.+expression.Given as goal

abbrev pub invariant-nodes_in_all-loop-expr : goal.invariant-nodes_in_all-loop-expr
invariant-nodes_in_all-loop-expr l = record {
  few : l.count ≤ 4294967295;
  sum : capped (l.count + nodes_in_all (expr_trees (drop l.expr-index l.exprs))) ≡ capped (nodes_in_all (expr_trees l.exprs));
}

abbrev pub invariant-nodes_in_ranges-loop-range : goal.invariant-nodes_in_ranges-loop-range
invariant-nodes_in_ranges-loop-range l = record {
  few : l.count ≤ 4294967295;
  sum : capped (l.count + nodes_in_labels (range_trees (drop l.range-index l.ranges))) ≡ capped (nodes_in_labels (range_trees l.ranges));
}

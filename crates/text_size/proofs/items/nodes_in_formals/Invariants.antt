use Rattle.std.proofs.Common.{◌≡◌, ◌+◌, ◌≤◌, drop, map}
use Rattle.text_size.specs.Nodes.{capped}
use Rattle.chill_tree.specs.ItemTree.{item_nodes, item_trees, modulion_tree, signal_tree, param_tree, formal_tree}
use Rattle.text_size.specs.Sizes.{nodes_in_formals}
use Rattle.text_size.proofs.items.nodes_in_formals.Given as goal

abbrev pub invariant-loop-formal : goal.invariant-loop-formal
invariant-loop-formal l = record {
  few : l.count ≤ 4294967295;
  sum : capped (l.count + nodes_in_formals (map formal_tree (drop l.formal-index l.formals))) ≡ capped (nodes_in_formals (map formal_tree l.formals));
}

use Rattle.std.proofs.Common.{◌≡◌, ◌+◌, ◌≤◌, drop, map}
use Rattle.text_size.specs.Nodes.{capped}
use Rattle.chill_tree.specs.ItemTree.{item_nodes, item_trees, modulion_tree, signal_tree, param_tree, formal_tree}
use Rattle.text_size.specs.Sizes.{nodes_in_params}
use Rattle.text_size.proofs.items.nodes_in_params.Given as goal

abbrev pub invariant-loop-param : goal.invariant-loop-param
invariant-loop-param l = record {
  few : l.count ≤ 4294967295;
  sum : capped (l.count + nodes_in_params (map param_tree (drop l.param-index l.params))) ≡ capped (nodes_in_params (map param_tree l.params));
}

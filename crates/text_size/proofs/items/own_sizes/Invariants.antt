use Rattle.std.proofs.Common.{◌≡◌, ◌+◌, ◌≤◌, drop, map}
use Rattle.text_size.specs.Nodes.{capped}
use Rattle.chill_tree.specs.ItemTree.{item_nodes, item_trees, modulion_tree, signal_tree, param_tree, formal_tree}
use Rattle.text_size.specs.Sizes.{own_sizes}
use Rattle.text_size.proofs.items.own_sizes.Given as goal

abbrev pub invariant-loop-item : goal.invariant-loop-item
invariant-loop-item l = record {
  few : l.size ≤ 4294967295;
  sum : capped (l.size + own_sizes (item_trees (drop l.item-index l.items))) ≡ capped (own_sizes (item_trees l.items));
}

use Rattle.std.proofs.Common.{◌≡◌, ◌+◌, ◌≤◌, drop, map}
use Rattle.text_size.specs.Nodes.{capped}
use Rattle.chill_tree.specs.ItemTree.{item_nodes, item_trees, modulion_tree, signal_tree, param_tree, formal_tree}
use Rattle.text_size.specs.Sizes.{items_size}
use Rattle.text_size.proofs.items.+item.Given as goal

abbrev pub invariant-size_of_items-loop-item : goal.invariant-size_of_items-loop-item
invariant-size_of_items-loop-item l = record {
  few : l.size ≤ 4294967295;
  sum : capped (l.size + items_size (item_nodes (item_trees (drop l.item-index l.items)))) ≡ capped (items_size (item_nodes (item_trees l.items)));
}

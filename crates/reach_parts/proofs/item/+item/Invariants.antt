use Rattle.std.proofs.Common.{◌≡◌, ◌++◌, drop}
use Rattle.chill_tree.specs.ItemTree.{item_nodes, item_trees}
use Rattle.names_model.specs.Parts.{part_trees}
use Rattle.names_model.specs.ItemParts.{each_item}
use Rattle.reach_parts.proofs.item.+item.Given as goal

abbrev pub invariant-add_items-loop-item : goal.invariant-add_items-loop-item
invariant-add_items-loop-item l = part_trees l.out ++ each_item (item_nodes (item_trees (drop l.item-index l.items))) ≡ part_trees l.fn.out ++ each_item (item_nodes (item_trees l.items))

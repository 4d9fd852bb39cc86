use Rattle.std.proofs.Common.{◌≡◌, ◌++◌, drop}
use Rattle.chill_tree.specs.ItemTree.{item_nodes, item_trees}
use Rattle.mode_rules.specs.Shared.{each_shared}
use Rattle.mode_rules.proofs.too_many.+item.Given as goal

abbrev pub invariant-add_items-loop-item : goal.invariant-add_items-loop-item
invariant-add_items-loop-item l = l.found ++ each_shared (item_nodes (item_trees (drop l.item-index l.items))) ≡ l.fn.found ++ each_shared (item_nodes (item_trees l.items))

use Rattle.std.proofs.Common.{◌≡◌, ◌++◌, drop}
use Rattle.chill_tree.specs.ItemTree.{item_nodes, item_trees}
use Rattle.process_names.specs.Walk.{over_items}
use Rattle.process_names.proofs.items.+item.Given as goal

abbrev pub invariant-tell_in_items-loop-item : goal.invariant-tell_in_items-loop-item
invariant-tell_in_items-loop-item l =
    l.told ++ over_items l.meetings l.around (item_nodes (item_trees (drop l.item-index l.items))) ≡ l.fn.told ++ over_items l.meetings l.around (item_nodes (item_trees l.items))

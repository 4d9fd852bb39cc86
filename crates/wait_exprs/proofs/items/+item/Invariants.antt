use Rattle.std.proofs.Common.{◌≡◌, ◌++◌, drop}
use Rattle.chill_tree.specs.ItemTree.{item_nodes, item_trees}
use Rattle.wait_exprs.specs.Waits.{waits_in_items}
use Rattle.wait_exprs.specs.Views.{wait_trees}
use Rattle.wait_exprs.proofs.items.+item.Given as goal

abbrev pub invariant-add_in_items-loop-item : goal.invariant-add_in_items-loop-item
invariant-add_in_items-loop-item l =
    wait_trees l.found ++ waits_in_items (item_nodes (item_trees (drop l.item-index l.items))) ≡ wait_trees l.fn.found ++ waits_in_items (item_nodes (item_trees l.items))

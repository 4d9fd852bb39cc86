use Rattle.std.proofs.Common.{◌≡◌, ◌++◌, drop}
use Rattle.chill_tree.specs.ItemTree.{item_nodes, item_trees}
use Rattle.checks_model.specs.Sites.{outermost_locals_in}
use Rattle.local_names.specs.Found.{names_found}
use Rattle.local_names.proofs.items.+item.Given as goal

abbrev pub invariant-add_in_items-loop-item : goal.invariant-add_in_items-loop-item
invariant-add_in_items-loop-item l =
    names_found l.found ++ outermost_locals_in (item_nodes (item_trees (drop l.item-index l.items))) ≡ names_found l.fn.found ++ outermost_locals_in (item_nodes (item_trees l.items))

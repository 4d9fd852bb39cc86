use Rattle.std.proofs.Common.{◌≡◌, ◌++◌, drop, map}
use Rattle.chill_tree.specs.ItemTree.{item_nodes, item_trees}
use Rattle.checks_model.specs.Origins.{origins_of_items}
use Rattle.definition_origins.specs.OriginTrees.{origin_trees}
use Rattle.definition_origins.proofs.items.+item.Given as goal

abbrev pub invariant-add_items-loop-item : goal.invariant-add_items-loop-item
invariant-add_items-loop-item l = origin_trees l.found ++ origins_of_items (item_nodes (item_trees (drop l.item-index l.items))) ≡ origin_trees l.fn.found ++ origins_of_items (item_nodes (item_trees l.items))

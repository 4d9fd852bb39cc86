use Rattle.std.proofs.Common.{◌≡◌, ◌++◌, drop, map}
use Rattle.std.specs.Prelude.{flat_map, option_map, false}
use Rattle.constant_operators.specs.Grounds.{ground_of}
use Rattle.mode_rules.specs.Ready.{IsReady}
use Rattle.chill_tree.specs.ItemTree.{item_nodes, item_trees}
use Rattle.mode_rules.specs.Walk.{over_items}
use Rattle.mode_rules.proofs.items.+item.Given as goal

abbrev pub invariant-tell_in_items-loop-item : goal.invariant-tell_in_items-loop-item
invariant-tell_in_items-loop-item l = IsReady l.ground → l.told ++ over_items (ground_of l.ground) (item_nodes (item_trees (drop l.item-index l.items))) ≡ l.fn.told ++ over_items (ground_of l.ground) (item_nodes (item_trees l.items))

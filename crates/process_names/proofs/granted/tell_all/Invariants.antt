use Rattle.std.proofs.Common.{◌≡◌, ◌++◌, drop}
use Rattle.std.specs.Prelude.{flat_map}
use Rattle.chill_tree.specs.ItemTree.{item_trees}
use Rattle.process_names.specs.Rules.{told_grant_had}
use Rattle.process_names.proofs.granted.tell_all.Given as goal

abbrev pub invariant-loop-item : goal.invariant-loop-item
invariant-loop-item l = l.told ++ flat_map (told_grant_had l.table) (item_trees (drop l.item-index l.items)) ≡ l.fn.told ++ flat_map (told_grant_had l.table) (item_trees l.items)

use Rattle.std.proofs.Common.{◌≡◌, ◌++◌, drop, map}
use Rattle.std.specs.Prelude.{flat_map, option_map, false}
use Rattle.constant_operators.specs.Grounds.{ground_of}
use Rattle.mode_rules.specs.Ready.{IsReady}
use Rattle.chill_tree.specs.ItemTree.{modulion_tree, modulion_item}
use Rattle.mode_rules.specs.Walk.{over_item}
use Rattle.mode_rules.proofs.items.tell_in_modulions.Given as goal

abbrev pub invariant-loop-modulion : goal.invariant-loop-modulion
invariant-loop-modulion l = IsReady l.ground → l.told ++ flat_map (λ m. over_item (ground_of l.ground) (modulion_item m)) (map modulion_tree (drop l.modulion-index l.modulions)) ≡ l.fn.told ++ flat_map (λ m. over_item (ground_of l.ground) (modulion_item m)) (map modulion_tree l.modulions)

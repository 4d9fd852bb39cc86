use Rattle.std.proofs.Common.{◌≡◌, ◌++◌, drop, map}
use Rattle.chill_tree.specs.ItemTree.{modulion_tree}
use Rattle.mode_rules.specs.Shared.{all_shared}
use Rattle.mode_rules.proofs.too_many.add_modulions.Given as goal

abbrev pub invariant-loop-modulion : goal.invariant-loop-modulion
invariant-loop-modulion l = l.found ++ all_shared (map modulion_tree (drop l.modulion-index l.modulions)) ≡ l.fn.found ++ all_shared (map modulion_tree l.modulions)

use Rattle.std.proofs.Common.{◌≡◌, ◌++◌, drop, map}
use Rattle.std.specs.Prelude.{flat_map}
use Rattle.chill_tree.specs.ItemTree.{modulion_tree, modulion_item}
use Rattle.checks_model.specs.Origins.{origins_of_item}
use Rattle.definition_origins.specs.OriginTrees.{origin_trees}
use Rattle.definition_origins.proofs.items.add_modulions.Given as goal

abbrev pub invariant-loop-modulion : goal.invariant-loop-modulion
invariant-loop-modulion l = origin_trees l.found ++ flat_map (λ m. origins_of_item (modulion_item m)) (map modulion_tree (drop l.modulion-index l.modulions)) ≡ origin_trees l.fn.found ++ flat_map (λ m. origins_of_item (modulion_item m)) (map modulion_tree l.modulions)

use Rattle.std.proofs.Common.{◌≡◌, ◌++◌, drop, map}
use Rattle.std.specs.Prelude.{flat_map}
use Rattle.std.specs.Prelude.{true, false}
use Rattle.chill_tree.specs.LocalTree.{mode_definition_tree}
use Rattle.checks_model.specs.Origins.{origins_of_mode}
use Rattle.definition_origins.specs.OriginTrees.{origin_trees}
use Rattle.definition_origins.proofs.locals.add_new_modes.Given as goal

abbrev pub invariant-loop-own : goal.invariant-loop-own
invariant-loop-own l = origin_trees l.found ++ flat_map (origins_of_mode true) (map mode_definition_tree (drop l.own-index l.modes)) ≡ origin_trees l.fn.found ++ flat_map (origins_of_mode true) (map mode_definition_tree l.modes)

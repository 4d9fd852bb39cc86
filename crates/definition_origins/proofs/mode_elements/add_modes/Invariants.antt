use Rattle.std.proofs.Common.{◌≡◌, ◌++◌, drop, map}
use Rattle.std.specs.Prelude.{flat_map}
use Rattle.std.specs.Prelude.{None}
use Rattle.chill_tree.specs.ModeTree.{mode_tree}
use Rattle.checks_model.specs.Origins.{elements_of}
use Rattle.definition_origins.specs.OriginTrees.{origin_trees}
use Rattle.definition_origins.proofs.mode_elements.add_modes.Given as goal

abbrev pub invariant-loop-mode : goal.invariant-loop-mode
invariant-loop-mode l = origin_trees l.found ++ flat_map (elements_of None) (map mode_tree (drop l.mode-index l.modes)) ≡ origin_trees l.fn.found ++ flat_map (elements_of None) (map mode_tree l.modes)

use Rattle.std.proofs.Common.{◌≡◌, ◌++◌, drop, map}
use Rattle.std.specs.Prelude.{flat_map, option_map, false}
use Rattle.constant_operators.specs.Grounds.{ground_of}
use Rattle.mode_rules.specs.Ready.{IsReady}
use Rattle.chill_tree.specs.LocalTree.{mode_definition_tree}
use Rattle.mode_rules.specs.Walk.{over_definition}
use Rattle.mode_rules.proofs.locals.tell_in_modes.Given as goal

abbrev pub invariant-loop-own : goal.invariant-loop-own
invariant-loop-own l = IsReady l.ground → l.told ++ flat_map (over_definition (ground_of l.ground)) (map mode_definition_tree (drop l.own-index l.modes)) ≡ l.fn.told ++ flat_map (over_definition (ground_of l.ground)) (map mode_definition_tree l.modes)

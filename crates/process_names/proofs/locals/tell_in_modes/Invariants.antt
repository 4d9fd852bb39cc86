use Rattle.std.proofs.Common.{◌≡◌, ◌++◌, drop, map}
use Rattle.std.specs.Prelude.{flat_map}
use Rattle.chill_tree.specs.LocalTree.{mode_definition_tree}
use Rattle.process_names.specs.Walk.{over_definition}
use Rattle.process_names.proofs.locals.tell_in_modes.Given as goal

abbrev pub invariant-loop-own : goal.invariant-loop-own
invariant-loop-own l =
    l.told ++ flat_map (over_definition l.meetings) (map mode_definition_tree (drop l.own-index l.modes)) ≡ l.fn.told ++ flat_map (over_definition l.meetings) (map mode_definition_tree l.modes)

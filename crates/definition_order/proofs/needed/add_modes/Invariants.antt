use Rattle.std.proofs.Common.{◌≡◌, ◌++◌, drop, map}
use Rattle.std.specs.Prelude.{flat_map}
use Rattle.chill_tree.specs.ModeTree.{mode_tree}
use Rattle.table_laws.specs.Names.{names_in_mode}
use Rattle.definition_order.specs.Places.{places_of}
use Rattle.definition_order.proofs.needed.add_modes.Given as goal

abbrev pub invariant-loop-mode : goal.invariant-loop-mode
invariant-loop-mode l = l.places ++ places_of (flat_map names_in_mode (map mode_tree (drop l.mode-index l.modes))) ≡ l.fn.places ++ places_of (flat_map names_in_mode (map mode_tree l.modes))

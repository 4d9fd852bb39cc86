use Rattle.std.proofs.Common.{◌≡◌, ◌++◌, drop, map}
use Rattle.std.specs.Prelude.{flat_map}
use Rattle.chill_tree.specs.ModeTree.{mode_tree}
use Rattle.met_names.specs.Facts.{told_source}
use Rattle.met_names.specs.Sources.{over_mode}
use Rattle.process_names.proofs.items.tell_in_all_modes.Given as goal

abbrev pub invariant-loop-mode : goal.invariant-loop-mode
invariant-loop-mode l =
    l.told ++ flat_map (over_mode (told_source l.meetings)) (map mode_tree (drop l.mode-index l.modes)) ≡ l.fn.told ++ flat_map (over_mode (told_source l.meetings)) (map mode_tree l.modes)

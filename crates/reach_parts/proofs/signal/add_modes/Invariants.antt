use Rattle.std.proofs.Common.{◌≡◌, ◌++◌, drop, map}
use Rattle.std.specs.Prelude.{flat_map}
use Rattle.chill_tree.specs.ModeTree.{mode_tree}
use Rattle.names_model.specs.ModeMentions.{mentions_of_mode}
use Rattle.reach_parts.proofs.signal.add_modes.Given as goal

abbrev pub invariant-loop-mode : goal.invariant-loop-mode
invariant-loop-mode l = l.out ++ flat_map mentions_of_mode (map mode_tree (drop l.mode-index l.modes)) ≡ l.fn.out ++ flat_map mentions_of_mode (map mode_tree l.modes)

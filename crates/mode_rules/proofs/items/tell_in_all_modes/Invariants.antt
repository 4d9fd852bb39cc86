use Rattle.std.proofs.Common.{◌≡◌, ◌++◌, drop, map}
use Rattle.std.specs.Prelude.{flat_map, option_map, false}
use Rattle.constant_operators.specs.Grounds.{ground_of}
use Rattle.mode_rules.specs.Ready.{IsReady}
use Rattle.chill_tree.specs.ModeTree.{mode_tree}
use Rattle.mode_rules.specs.Walk.{over_modes}
use Rattle.mode_rules.proofs.items.tell_in_all_modes.Given as goal

abbrev pub invariant-loop-mode : goal.invariant-loop-mode
invariant-loop-mode l = IsReady l.ground → l.told ++ over_modes (ground_of l.ground) (map mode_tree (drop l.mode-index l.modes)) ≡ l.fn.told ++ over_modes (ground_of l.ground) (map mode_tree l.modes)

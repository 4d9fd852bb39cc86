use Rattle.std.proofs.Common.{◌≡◌, ◌++◌, drop, map}
use Rattle.std.specs.Prelude.{flat_map, option_map, false}
use Rattle.constant_operators.specs.Grounds.{ground_of}
use Rattle.mode_rules.specs.Ready.{IsReady}
use Rattle.chill_tree.specs.ItemTree.{signal_tree}
use Rattle.mode_rules.specs.Walk.{over_signal}
use Rattle.mode_rules.proofs.items.tell_in_signals.Given as goal

abbrev pub invariant-loop-signal : goal.invariant-loop-signal
invariant-loop-signal l = IsReady l.ground → l.told ++ flat_map (over_signal (ground_of l.ground)) (map signal_tree (drop l.signal-index l.signals)) ≡ l.fn.told ++ flat_map (over_signal (ground_of l.ground)) (map signal_tree l.signals)

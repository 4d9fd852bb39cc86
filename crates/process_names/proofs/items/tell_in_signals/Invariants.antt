use Rattle.std.proofs.Common.{◌≡◌, ◌++◌, drop, map}
use Rattle.std.specs.Prelude.{flat_map}
use Rattle.chill_tree.specs.ItemTree.{signal_tree}
use Rattle.process_names.specs.Walk.{over_signal}
use Rattle.process_names.proofs.items.tell_in_signals.Given as goal

abbrev pub invariant-loop-signal : goal.invariant-loop-signal
invariant-loop-signal l =
    l.told ++ flat_map (over_signal l.meetings) (map signal_tree (drop l.signal-index l.signals)) ≡ l.fn.told ++ flat_map (over_signal l.meetings) (map signal_tree l.signals)

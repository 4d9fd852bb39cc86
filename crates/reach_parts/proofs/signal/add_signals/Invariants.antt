use Rattle.std.proofs.Common.{◌≡◌, ◌++◌, drop, map}
use Rattle.std.specs.Prelude.{flat_map}
use Rattle.chill_tree.specs.ItemTree.{signal_tree}
use Rattle.names_model.specs.Parts.{part_trees}
use Rattle.names_model.specs.ItemParts.{signal_parts}
use Rattle.reach_parts.proofs.signal.add_signals.Given as goal

abbrev pub invariant-loop-signal : goal.invariant-loop-signal
invariant-loop-signal l = part_trees l.out ++ flat_map signal_parts (map signal_tree (drop l.signal-index l.signals)) ≡ part_trees l.fn.out ++ flat_map signal_parts (map signal_tree l.signals)

use Rattle.std.proofs.Common.{◌≡◌, ◌++◌, drop, map}
use Rattle.std.specs.Prelude.{flat_map}
use Rattle.chill_tree.specs.ItemTree.{signal_tree}
use Rattle.checks_model.specs.Origins.{origins_of_signal}
use Rattle.definition_origins.specs.OriginTrees.{origin_trees}
use Rattle.definition_origins.proofs.items.add_signals.Given as goal

abbrev pub invariant-loop-signal : goal.invariant-loop-signal
invariant-loop-signal l = origin_trees l.found ++ flat_map origins_of_signal (map signal_tree (drop l.signal-index l.signals)) ≡ origin_trees l.fn.found ++ flat_map origins_of_signal (map signal_tree l.signals)

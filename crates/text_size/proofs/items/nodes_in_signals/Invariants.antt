use Rattle.std.proofs.Common.{◌≡◌, ◌+◌, ◌≤◌, drop, map}
use Rattle.text_size.specs.Nodes.{capped}
use Rattle.chill_tree.specs.ItemTree.{item_nodes, item_trees, modulion_tree, signal_tree, param_tree, formal_tree}
use Rattle.text_size.specs.Sizes.{nodes_in_signals}
use Rattle.text_size.proofs.items.nodes_in_signals.Given as goal

abbrev pub invariant-loop-signal : goal.invariant-loop-signal
invariant-loop-signal l = record {
  few : l.count ≤ 4294967295;
  sum : capped (l.count + nodes_in_signals (map signal_tree (drop l.signal-index l.signals))) ≡ capped (nodes_in_signals (map signal_tree l.signals));
}

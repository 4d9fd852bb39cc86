use Rattle.std.proofs.Common.{◌≡◌, ◌+◌, ◌≤◌, drop, map}
use Rattle.text_size.specs.Nodes.{capped}
use Rattle.chill_tree.specs.ModeTree.{mode_tree}
use Rattle.text_size.specs.ModeNodes.{nodes_in_modes}
use Rattle.text_size.proofs.items.nodes_in_modes.Given as goal

abbrev pub invariant-loop-mode : goal.invariant-loop-mode
invariant-loop-mode l = record {
  few : l.count ≤ 4294967295;
  sum : capped (l.count + nodes_in_modes (map mode_tree (drop l.mode-index l.modes))) ≡ capped (nodes_in_modes (map mode_tree l.modes));
}

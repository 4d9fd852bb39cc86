use Rattle.std.proofs.Common.{◌≡◌, ◌+◌, ◌≤◌, drop, map}
use Rattle.text_size.specs.Nodes.{capped}
use Rattle.chill_tree.specs.ItemTree.{item_nodes, item_trees, modulion_tree, signal_tree, param_tree, formal_tree}
use Rattle.text_size.specs.Sizes.{modulions_size}
use Rattle.text_size.proofs.items.size_of_modulions.Given as goal

abbrev pub invariant-loop-own : goal.invariant-loop-own
invariant-loop-own l = record {
  few : l.size ≤ 4294967295;
  sum : capped (l.size + modulions_size (map modulion_tree (drop l.own-index l.modulions))) ≡ capped (modulions_size (map modulion_tree l.modulions));
}

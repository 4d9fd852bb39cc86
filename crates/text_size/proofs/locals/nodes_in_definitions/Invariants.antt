use Rattle.std.proofs.Common.{◌≡◌, ◌+◌, ◌≤◌, drop, map}
use Rattle.text_size.specs.Nodes.{capped}
use Rattle.chill_tree.specs.LocalTree.{mode_definition_tree}
use Rattle.text_size.specs.Sizes.{nodes_in_definitions}
use Rattle.text_size.proofs.locals.nodes_in_definitions.Given as goal

abbrev pub invariant-loop-own : goal.invariant-loop-own
invariant-loop-own l = record {
  few : l.count ≤ 4294967295;
  sum : capped (l.count + nodes_in_definitions (map mode_definition_tree (drop l.own-index l.modes))) ≡ capped (nodes_in_definitions (map mode_definition_tree l.modes));
}

use Rattle.std.proofs.Common.{◌≡◌, ◌+◌, ◌≤◌, drop, map}
use Rattle.text_size.specs.Nodes.{capped}
use Rattle.chill_tree.specs.LocalTree.{declaration_tree}
use Rattle.text_size.specs.Sizes.{nodes_in_declarations}
use Rattle.text_size.proofs.locals.nodes_in_declarations.Given as goal

abbrev pub invariant-loop-own : goal.invariant-loop-own
invariant-loop-own l = record {
  few : l.count ≤ 4294967295;
  sum : capped (l.count + nodes_in_declarations (map declaration_tree (drop l.own-index l.declarations))) ≡ capped (nodes_in_declarations (map declaration_tree l.declarations));
}

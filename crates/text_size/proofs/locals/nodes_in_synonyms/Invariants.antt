use Rattle.std.proofs.Common.{◌≡◌, ◌+◌, ◌≤◌, drop, map}
use Rattle.text_size.specs.Nodes.{capped}
use Rattle.chill_tree.specs.LocalTree.{synonym_tree}
use Rattle.text_size.specs.Sizes.{nodes_in_synonyms}
use Rattle.text_size.proofs.locals.nodes_in_synonyms.Given as goal

abbrev pub invariant-loop-own : goal.invariant-loop-own
invariant-loop-own l = record {
  few : l.count ≤ 4294967295;
  sum : capped (l.count + nodes_in_synonyms (map synonym_tree (drop l.own-index l.synonyms))) ≡ capped (nodes_in_synonyms (map synonym_tree l.synonyms));
}

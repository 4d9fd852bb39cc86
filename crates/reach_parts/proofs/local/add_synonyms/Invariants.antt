use Rattle.std.proofs.Common.{◌≡◌, ◌++◌, drop, map}
use Rattle.chill_tree.specs.LocalTree.{synonym_tree}
use Rattle.names_model.specs.Parts.{part_trees}
use Rattle.names_model.specs.StatementParts.{synonym_part}
use Rattle.reach_parts.proofs.local.add_synonyms.Given as goal

abbrev pub invariant-loop-synonym : goal.invariant-loop-synonym
invariant-loop-synonym l = part_trees l.out ++ map synonym_part (map synonym_tree (drop l.synonym-index l.synonyms)) ≡ part_trees l.fn.out ++ map synonym_part (map synonym_tree l.synonyms)

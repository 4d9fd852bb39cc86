use Rattle.std.proofs.Common.{◌≡◌, ◌++◌, drop, map}
use Rattle.std.specs.Prelude.{flat_map}
use Rattle.chill_tree.specs.LocalTree.{synonym_tree}
use Rattle.checks_model.specs.Origins.{origins_of_synonym}
use Rattle.definition_origins.specs.OriginTrees.{origin_trees}
use Rattle.definition_origins.proofs.locals.add_synonyms.Given as goal

abbrev pub invariant-loop-synonym : goal.invariant-loop-synonym
invariant-loop-synonym l = origin_trees l.found ++ flat_map origins_of_synonym (map synonym_tree (drop l.synonym-index l.synonyms)) ≡ origin_trees l.fn.found ++ flat_map origins_of_synonym (map synonym_tree l.synonyms)

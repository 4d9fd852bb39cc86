use Rattle.std.proofs.Common.{◌≡◌, ◌++◌, drop, map}
use Rattle.std.specs.Prelude.{flat_map}
use Rattle.chill_tree.specs.LocalTree.{synonym_tree}
use Rattle.process_names.specs.Walk.{over_synonym}
use Rattle.process_names.proofs.locals.tell_in_synonyms.Given as goal

abbrev pub invariant-loop-synonym : goal.invariant-loop-synonym
invariant-loop-synonym l =
    l.told ++ flat_map (over_synonym l.meetings) (map synonym_tree (drop l.synonym-index l.synonyms)) ≡ l.fn.told ++ flat_map (over_synonym l.meetings) (map synonym_tree l.synonyms)

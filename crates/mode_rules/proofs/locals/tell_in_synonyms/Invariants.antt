use Rattle.std.proofs.Common.{◌≡◌, ◌++◌, drop, map}
use Rattle.std.specs.Prelude.{flat_map, option_map, false}
use Rattle.constant_operators.specs.Grounds.{ground_of}
use Rattle.mode_rules.specs.Ready.{IsReady}
use Rattle.chill_tree.specs.LocalTree.{synonym_tree}
use Rattle.mode_rules.specs.Walk.{over_synonym}
use Rattle.mode_rules.proofs.locals.tell_in_synonyms.Given as goal

abbrev pub invariant-loop-synonym : goal.invariant-loop-synonym
invariant-loop-synonym l = IsReady l.ground → l.told ++ flat_map (over_synonym (ground_of l.ground)) (map synonym_tree (drop l.synonym-index l.synonyms)) ≡ l.fn.told ++ flat_map (over_synonym (ground_of l.ground)) (map synonym_tree l.synonyms)

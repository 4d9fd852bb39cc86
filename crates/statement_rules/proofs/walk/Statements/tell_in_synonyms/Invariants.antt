use Rattle.std.proofs.Common.{◌≡◌, ◌++◌, drop, map}
use Rattle.chill_tree.specs.LocalTree.{synonym_tree}
use Rattle.checks_model.specs.Sites.{at_synonym}
use Rattle.statement_laws.specs.Steps.{told_at_all}
use Rattle.statement_rules.specs.Grounds.{ground_at, IsGrounded}
use Rattle.statement_rules.proofs.walk.Statements.tell_in_synonyms.Given as goal

abbrev pub invariant-loop-synonym : goal.invariant-loop-synonym
invariant-loop-synonym l = IsGrounded l.self →
    l.told ++ told_at_all (ground_at l.self) (map at_synonym (map synonym_tree (drop l.synonym-index l.synonyms))) ≡ l.fn.told ++ told_at_all (ground_at l.self) (map at_synonym (map synonym_tree l.synonyms))

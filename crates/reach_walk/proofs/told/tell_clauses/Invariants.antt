use Rattle.std.proofs.Common.{◌≡◌, List, ◌++◌, drop}
use Rattle.std.specs.Prelude.{flat_map}
use Rattle.names_model.specs.declared.definition.Definition.{Definition}
use Rattle.names_model.specs.Seeing.{Reach}
use Rattle.names_model.specs.NameRules.{told_mentions}
use Rattle.reach_tables.specs.Scopes.{Shows}
use Rattle.reach_walk.proofs.told.tell_clauses.Given as goal

abbrev pub invariant-loop-clause : goal.invariant-loop-clause
invariant-loop-clause l = (text : List Definition) (r : Reach) → Shows l.book l.scope text r → l.out.items ++ flat_map (λ c. told_mentions text r c.text) (drop l.clause-index l.clauses) ≡ l.fn.out.items ++ flat_map (λ c. told_mentions text r c.text) l.clauses

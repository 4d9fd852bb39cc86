use Rattle.std.proofs.Common.{◌≡◌, List, ◌+◌, ◌<◌, ◌^◌, ◌++◌, drop}
use Rattle.names_model.specs.declared.definition.Definition.{Definition}
use Rattle.names_model.specs.Dependence.{param_groups}
use Rattle.names_model.specs.Seeing.{Reach}
use Rattle.names_model.specs.Sizes.{clauses_size}
use Rattle.reach_tables.specs.Scopes.{Shows}
use Rattle.reach_walk.specs.SameGroups.{SameGroups}
use Rattle.reach_walk.proofs.groups.note_params.Given as goal

abbrev pub invariant-loop-clause : goal.invariant-loop-clause
invariant-loop-clause l = (text : List Definition) (r : Reach) → Shows l.book l.scope text r → l.fn.from + clauses_size l.fn.params < 2 ^ 32 → record {
  next : l.next + clauses_size (drop l.clause-index l.params) ≡ l.fn.from + clauses_size l.fn.params;
  out : SameGroups (l.out.items ++ param_groups text r l.next (drop l.clause-index l.params)) (l.fn.out.items ++ param_groups text r l.fn.from l.fn.params);
}

use Rattle.std.proofs.Common.{◌≡◌, ◌+◌, ◌<◌, ◌^◌, ◌++◌, drop}
use Rattle.names_model.specs.Entries.{param_elements}
use Rattle.names_model.specs.Sizes.{clauses_size}
use Rattle.reach_tables.specs.Places.{singles}
use Rattle.reach_tables.proofs.entries.enter_param_elements.Given as goal

abbrev pub invariant-loop-clause : goal.invariant-loop-clause
invariant-loop-clause l = l.fn.from + clauses_size l.fn.params < 2 ^ 32 → record {
  next : l.next + clauses_size (drop l.clause-index l.params) ≡ l.fn.from + clauses_size l.fn.params;
  out : singles l.out.items ++ param_elements l.next (drop l.clause-index l.params) ≡ singles l.fn.out.items ++ param_elements l.fn.from l.fn.params;
}

use Rattle.std.proofs.Common.{◌≡◌, ◌++◌, ◌<◌, ◌≤◌, ◌^◌, drop}
use Rattle.names_model.specs.Sizes.{clauses_size}
use Rattle.names_model.specs.Definitions.{params_defined}
use Rattle.reach_tables.proofs.definitions.push_params.Given as goal

abbrev pub invariant-loop-clause : goal.invariant-loop-clause
invariant-loop-clause l = clauses_size l.params < 2 ^ 32 → record {
  size : clauses_size (drop l.clause-index l.params) ≤ clauses_size l.params;
  out : l.out.items ++ params_defined l.around l.body (drop l.clause-index l.params) ≡ l.fn.out.items ++ params_defined l.around l.body l.params;
}

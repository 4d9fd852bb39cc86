use Rattle.std.proofs.Common.{◌≡◌, ◌+◌, ◌≤◌, min, drop}
use Rattle.names_model.specs.Sizes.{clauses_size}
use Rattle.names_model.proofs.sizes.clauses_size.Given as goal

abbrev pub invariant-loop-clause : goal.invariant-loop-clause
invariant-loop-clause l = (l.size ≤ 4294967295) × (min (l.size + clauses_size (drop l.clause-index l.clauses)) 4294967295 ≡ min (clauses_size l.clauses) 4294967295)

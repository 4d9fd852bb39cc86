use Rattle.std.proofs.Common.{◌≡◌, ℕ, ◌+◌, ◌≤◌, length, drop}
use Rattle.code_scheme.specs.Pieces.{capped, scalars_from, scalars_code}
use Rattle.expr_gen.proofs.repeating.scalars_size.Given as goal

abbrev pub invariant-loop-scalar : goal.invariant-loop-scalar
invariant-loop-scalar l = record {
  whole : ℕ;
  count : l.run.count ≡ capped whole;
  sum : capped (l.size + length (scalars_from l.run.scalar whole (drop l.scalar-index l.scalars))) ≡ capped (length (scalars_code l.scalars));
  few : l.size ≤ 4294967295;
}

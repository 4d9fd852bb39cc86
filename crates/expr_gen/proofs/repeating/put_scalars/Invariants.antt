use Rattle.std.proofs.Common.{length, drop}
use Rattle.code_scheme.specs.Pieces.{scalars_from, scalars_code}
use Rattle.expr_gen.specs.Putting.{Keeps}
use Rattle.expr_gen.proofs.Appending.{StillTo}
use Rattle.expr_gen.proofs.repeating.put_scalars.Given as goal

abbrev pub invariant-loop-scalar : goal.invariant-loop-scalar
invariant-loop-scalar l = record {
  left : StillTo (λ at. scalars_code l.scalars) (length (scalars_code l.scalars))
      (λ at. scalars_from l.run.scalar l.run.count (drop l.scalar-index l.scalars)) (length (scalars_from l.run.scalar l.run.count (drop l.scalar-index l.scalars)))
      l.initial.draft.code l.draft.code;
  keeps : Keeps l.initial.draft.code l.draft.code;
}

use Rattle.std.proofs.Common.{◌-◌, drop}
use Rattle.code_scheme.specs.Pieces.{pushes, fitted}
use Rattle.expr_gen.specs.Putting.{Keeps}
use Rattle.expr_gen.proofs.Appending.{StillTo}
use Rattle.expr_gen.proofs.copying.put_fitted.Given as goal

abbrev pub invariant-loop-number : goal.invariant-loop-number
invariant-loop-number l = record {
  left : StillTo (λ at. pushes (fitted l.count l.scalars)) l.count (λ at. pushes (fitted (l.count - l.number) (drop l.number l.scalars))) (l.count - l.number) l.initial.draft.code l.draft.code;
  keeps : Keeps l.initial.draft.code l.draft.code;
}

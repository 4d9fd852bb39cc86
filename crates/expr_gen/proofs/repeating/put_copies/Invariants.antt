use Rattle.std.proofs.Common.{length}
use Rattle.expr_gen.specs.Putting.{Keeps}
use Rattle.expr_gen.proofs.Appending.{StillTo}
use Rattle.expr_gen.proofs.Copies.{copies_left}
use Rattle.expr_gen.proofs.repeating.put_copies.Given as goal

abbrev pub invariant-loop-turn : goal.invariant-loop-turn
invariant-loop-turn l = record {
  left : StillTo (λ at. copies_left 0 1 l.elements l.count) (length (copies_left 0 1 l.elements 0))
      (λ at. copies_left l._turn l.there l.elements l.count) (length (copies_left l._turn l.there l.elements 0)) l.initial.draft.code l.draft.code;
  keeps : Keeps l.initial.draft.code l.draft.code;
}

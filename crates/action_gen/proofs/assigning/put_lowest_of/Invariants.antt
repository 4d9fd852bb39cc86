use Rattle.std.proofs.Common.{drop}
use Rattle.code_scheme.specs.StatementPlain.{set_lowest_code, set_lowest_size}
use Rattle.expr_gen.specs.Putting.{Keeps}
use Rattle.expr_gen.proofs.Appending.{StillTo}
use Rattle.action_gen.specs.Puts.{lay_around}
use Rattle.action_gen.proofs.assigning.put_lowest_of.Given as goal

abbrev pub invariant-loop-number : goal.invariant-loop-number
invariant-loop-number l = record {
  left : StillTo (λ at. set_lowest_code (lay_around l.around) l.locals l.value) (set_lowest_size l.locals l.value)
      (λ at. set_lowest_code (lay_around l.around) (drop l.number-index l.locals) l.value) (set_lowest_size (drop l.number-index l.locals) l.value)
      l.initial.draft.code l.draft.code;
  keeps : Keeps l.initial.draft.code l.draft.code;
}

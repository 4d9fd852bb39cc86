use Rattle.std.proofs.Common.{drop}
use Rattle.code_scheme.specs.StatementPlain.{names_code, names_size}
use Rattle.expr_gen.specs.Putting.{Keeps}
use Rattle.expr_gen.proofs.Appending.{StillTo}
use Rattle.action_gen.specs.Puts.{lay_around}
use Rattle.action_gen.proofs.assigning.put_names.Given as goal

abbrev pub invariant-loop-name : goal.invariant-loop-name
invariant-loop-name l = record {
  left : StillTo (λ at. names_code (lay_around l.around) l.around.free l.count l.names) (names_size l.names)
      (λ at. names_code (lay_around l.around) l.around.free l.count (drop l.name-index l.names)) (names_size (drop l.name-index l.names))
      l.initial.draft.code l.draft.code;
  keeps : Keeps l.initial.draft.code l.draft.code;
}

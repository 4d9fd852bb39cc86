use Rattle.std.proofs.Common.{drop, length}
use Rattle.code_scheme.specs.StatementWaits.{sources_code}
use Rattle.expr_gen.specs.Putting.{Keeps}
use Rattle.expr_gen.proofs.Appending.{StillTo}
use Rattle.action_gen.specs.Trees.{receives_of}
use Rattle.action_gen.specs.Puts.{rows_around}
use Rattle.action_gen.proofs.waits.put_sources.Given as goal

abbrev pub invariant-loop-alternative : goal.invariant-loop-alternative
invariant-loop-alternative l = record {
  left : StillTo (λ at. sources_code (rows_around l.around) (receives_of l.alternatives)) (length (sources_code (rows_around l.around) (receives_of l.alternatives)))
      (λ at. sources_code (rows_around l.around) (receives_of (drop l.alternative-index l.alternatives))) (length (sources_code (rows_around l.around) (receives_of (drop l.alternative-index l.alternatives))))
      l.initial.draft.code l.draft.code;
  keeps : Keeps l.initial.draft.code l.draft.code;
}

use Rattle.std.proofs.Common.{drop, length}
use Rattle.code_scheme.specs.StatementWaits.{all_events_code}
use Rattle.expr_gen.specs.Putting.{Keeps}
use Rattle.expr_gen.proofs.Appending.{StillTo}
use Rattle.action_gen.specs.Trees.{delays_of}
use Rattle.action_gen.proofs.waits.put_all_events.Given as goal

abbrev pub invariant-loop-number : goal.invariant-loop-number
invariant-loop-number l = record {
  left : StillTo (λ at. all_events_code 0 (delays_of l.alternatives)) (length (all_events_code 0 (delays_of l.alternatives)))
      (λ at. all_events_code l.number (delays_of (drop l.number l.alternatives))) (length (all_events_code 0 (delays_of (drop l.number l.alternatives))))
      l.initial.draft.code l.draft.code;
  keeps : Keeps l.initial.draft.code l.draft.code;
}

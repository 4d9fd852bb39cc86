use Rattle.std.proofs.Common.{drop, length}
use Rattle.code_scheme.specs.StatementWaits.{events_code}
use Rattle.expr_gen.specs.Putting.{Keeps}
use Rattle.expr_gen.proofs.Appending.{StillTo}
use Rattle.action_gen.proofs.waits.put_events.Given as goal

abbrev pub invariant-loop-event : goal.invariant-loop-event
invariant-loop-event l = record {
  left : StillTo (λ at. events_code l.number l.events) (length (events_code 0 l.events))
      (λ at. events_code l.number (drop l.event-index l.events)) (length (events_code 0 (drop l.event-index l.events)))
      l.initial.draft.code l.draft.code;
  keeps : Keeps l.initial.draft.code l.draft.code;
}

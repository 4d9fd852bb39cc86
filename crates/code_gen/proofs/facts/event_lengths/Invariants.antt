use Rattle.std.proofs.Common.{◌≡◌, take, map}
use Rattle.code_gen.proofs.facts.event_lengths.Given as goal

abbrev pub invariant-loop-event : goal.invariant-loop-event
invariant-loop-event l = l.lengths ≡ map (λ row. row.length) (take l.event-index l.events)

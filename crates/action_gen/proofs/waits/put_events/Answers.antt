use Rattle.std.proofs.Common.{get_or, refl}
use Rattle.expr_gen.proofs.Appending.{kept_on}
use Rattle.action_gen.proofs.Waiting.{event_turn, events_done}
use Rattle.action_gen.proofs.waits.put_events.Goals as goal

pub loop-event-preserved : goal.loop-event-preserved
loop-event-preserved c = record {
  left = event_turn c.args.number c.args.events.now c.loop-event.event-index (get_or c.args.events.now c.loop-event.event-index 0) c.loop-event-test.true refl c.loop-event.invariant.left c.in_ok-put.ensures.puts c.in_ok-put_number.ensures.puts;
  keeps = kept_on c.loop-event.invariant.keeps (kept_on c.in_ok-put.ensures.keeps c.in_ok-put_number.ensures.keeps);
}

pub returns-clause-puts : goal.returns-clause-puts
returns-clause-puts c = events_done c.args.number c.args.events.now c.loop-event.event-index c.loop-event-test.false c.loop-event.invariant.left

use Rattle.wait_queues.proofs.Stepping.{leave_next}
use Rattle.wait_queues.proofs.queues.leave_each.Goals as goal

pub loop-listed-preserved : goal.loop-listed-preserved
loop-listed-preserved c = leave_next c.args.who 0 c.args.places.now c.loop-listed.listed _ c.args.queues.now.items c.loop-listed.queues.items c.leave_at.new.queues.items c.loop-listed-test.true c.leave_at.ensures c.loop-listed.invariant

use Rattle.std.proofs.Common.{◌≡◌, [], replicate, map}
use Rattle.std.specs.VecDeque.{deque_items}
use Rattle.signal_queues.specs.Pending.{AreKept}
use Rattle.signal_queues.proofs.queues.SignalQueues.new.Given as goal

abbrev pub invariant-loop : goal.invariant-loop
invariant-loop l = (map deque_items l.queues.items ≡ replicate l.counter []) × AreKept 0 l.queues.items

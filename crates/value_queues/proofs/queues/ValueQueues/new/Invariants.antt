use Rattle.std.proofs.Common.{◌≡◌, [], replicate, map}
use Rattle.std.specs.VecDeque.{deque_items}
use Rattle.value_queues.proofs.Ordered.{AreFit}
use Rattle.value_queues.proofs.queues.ValueQueues.new.Given as goal

abbrev pub invariant-loop : goal.invariant-loop
invariant-loop l = (map deque_items l.queues.items ≡ replicate l.counter []) × AreFit 0 l.queues.items

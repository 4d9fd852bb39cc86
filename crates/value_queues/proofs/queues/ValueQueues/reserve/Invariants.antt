use Rattle.std.proofs.Common.{◌≡◌, ℕ, ◌<◌, map, slice_get, Some}
use Rattle.std.specs.VecDeque.{deque_items}
use Rattle.value_queues.proofs.Ordered.{Queue, IsFit, AreFit}
use Rattle.value_queues.proofs.queues.ValueQueues.reserve.Given as goal

abbrev pub invariant-loop-buffer : goal.invariant-loop-buffer
invariant-loop-buffer l = record {
  values : map deque_items l.self-inside.queues.items ≡ map deque_items l.initial.self-inside.queues.items;
  fit : AreFit l.self-inside.room l.self-inside.queues.items;
  more : (k : ℕ) (q : Queue) → k < l.buffer → slice_get l.self-inside.queues.items k ≡ Some q → IsFit l.n q;
  same : l.self-inside.room ≡ l.initial.self-inside.room;
}

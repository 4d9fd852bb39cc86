use Rattle.std.proofs.Common.{◌≡◌, ℕ, ◌<◌, map, slice_get, Some}
use Rattle.std.specs.VecDeque.{deque_items}
use Rattle.signal_queues.specs.Pending.{AreKept, IsKept, Queue}
use Rattle.signal_queues.proofs.queues.SignalQueues.reserve.Given as goal

abbrev pub invariant-loop-signal : goal.invariant-loop-signal
invariant-loop-signal l = record {
  queues : map deque_items l.self-inside.queues.items ≡ map deque_items l.initial.self-inside.queues.items;
  kept : AreKept l.self-inside.room l.self-inside.queues.items;
  more : (k : ℕ) (q : Queue) → k < l.signal → slice_get l.self-inside.queues.items k ≡ Some q → IsKept l.n k q;
  same : l.self-inside.room ≡ l.initial.self-inside.room;
  last : l.self-inside.last ≡ l.initial.self-inside.last;
}

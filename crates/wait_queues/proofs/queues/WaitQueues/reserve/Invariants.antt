use Rattle.std.proofs.Common.{◌≡◌, ℕ, ◌<◌, ◌≤◌, map, slice_get, Some}
use Rattle.wait_queues.specs.Waiting.{HaveRoom, SeenWaiters, those_of}
use Rattle.wait_queues.proofs.queues.WaitQueues.reserve.Given as goal

abbrev pub invariant-loop-place : goal.invariant-loop-place
invariant-loop-place l = record {
  waiting : map those_of l.self-inside.queues.items ≡ map those_of l.initial.self-inside.queues.items;
  fit : HaveRoom l.self-inside.room l.self-inside.queues.items;
  more : (k : ℕ) (q : SeenWaiters) → k < l.place → slice_get l.self-inside.queues.items k ≡ Some q → l.n ≤ q.room;
  same : l.self-inside.room ≡ l.initial.self-inside.room;
}

use Rattle.std.proofs.Common.{◌≡◌, ℕ, ◌-◌, ◌≤◌, map, slice_get, Some}
use Rattle.std.specs.Prelude.{IsTrue}
use Rattle.kernel_lists.specs.Best.{precedes_in}
use Rattle.world_model.specs.declared.world.StoredValue.{StoredValue}
use Rattle.value_queues.specs.Queues.{rank_of}
use Rattle.signal_queues.specs.Pending.{value_of}
use Rattle.signal_queues.proofs.queues.place_for.Given as goal

abbrev pub invariant-loop-back : goal.invariant-loop-back
invariant-loop-back l = (k : ℕ) (other : StoredValue) → l.len - l.back ≤ k → slice_get (map value_of l.queue.items) k ≡ Some other → IsTrue (precedes_in l.rank (rank_of other))

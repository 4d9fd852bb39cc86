use Rattle.std.proofs.Common.{◌≡◌, ℕ, ◌-◌, ◌<◌, ◌≤◌, slice_get, Some}
use Rattle.wait_queues.specs.declared.waiters.Waiter.{Waiter}
use Rattle.wait_queues.proofs.waiters.place_for.Given as goal

abbrev pub invariant-loop-back : goal.invariant-loop-back
invariant-loop-back l = (k : ℕ) (other : Waiter) → l.len - l.back ≤ k → slice_get l.waiters.items k ≡ Some other → other.priority < l.priority

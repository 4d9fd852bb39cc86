use Rattle.std.proofs.Common.{◌≡◌, ◌<◌, ◌≤◌, ℕ, Some}
use Rattle.world_model.specs.declared.waiting.Waiter.{Waiter}
use Rattle.world_model.specs.Waiting.{sleeper}
use Rattle.world_check.proofs.choices.no_sleeper_above.Given as goal

abbrev pub invariant-loop-q : goal.invariant-loop-q
invariant-loop-q l = (k : ℕ) (other : Waiter) → k < l.q → sleeper l.world l.event k ≡ Some other → other.priority ≤ l.priority

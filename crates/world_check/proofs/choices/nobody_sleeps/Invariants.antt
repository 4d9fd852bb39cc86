use Rattle.std.proofs.Common.{◌≡◌, ◌<◌, ℕ, None}
use Rattle.world_model.specs.Waiting.{sleeper}
use Rattle.world_check.proofs.choices.nobody_sleeps.Given as goal

abbrev pub invariant-loop-p : goal.invariant-loop-p
invariant-loop-p l = (k : ℕ) → k < l.p → sleeper l.world l.event k ≡ None

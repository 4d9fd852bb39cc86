use Rattle.std.proofs.Common.{◌≡◌, ◌<◌, ℕ, None}
use Rattle.world_model.specs.Waiting.{buffer_receiver}
use Rattle.world_check.proofs.choices.nobody_receives.Given as goal

abbrev pub invariant-loop-p : goal.invariant-loop-p
invariant-loop-p l = (k : ℕ) → k < l.p → buffer_receiver l.world l.buffer k ≡ None

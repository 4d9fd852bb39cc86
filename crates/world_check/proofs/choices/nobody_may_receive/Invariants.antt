use Rattle.std.proofs.Common.{◌≡◌, ◌<◌, ℕ, None}
use Rattle.world_model.specs.Waiting.{signal_receiver}
use Rattle.world_check.proofs.choices.nobody_may_receive.Given as goal

abbrev pub invariant-loop-p : goal.invariant-loop-p
invariant-loop-p l = (k : ℕ) → k < l.p → signal_receiver l.facts l.world l.signal l.to k ≡ None

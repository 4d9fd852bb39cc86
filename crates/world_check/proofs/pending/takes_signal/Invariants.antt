use Rattle.std.proofs.Common.{◌≡◌, ◌<◌, ℕ, Some}
use Rattle.std.specs.Prelude.{slice_get}
use Rattle.world_model.specs.declared.world.PendingSignal.{PendingSignal}
use Rattle.world_check.specs.Pending.{MayTake}
use Rattle.world_check.proofs.pending.takes_signal.Given as goal

abbrev pub invariant-loop-place : goal.invariant-loop-place
invariant-loop-place l = (k : ℕ) (signal : PendingSignal) → k < l.place → slice_get l.world.pending k ≡ Some signal → MayTake l.facts l.world l.who l.signals l.receipt.alternative l.receipt.send l.receipt.scalars.now l.receipt.by signal → ⊥

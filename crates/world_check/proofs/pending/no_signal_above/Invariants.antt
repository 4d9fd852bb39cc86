use Rattle.std.proofs.Common.{◌≡◌, ◌<◌, ◌≤◌, ℕ, Some}
use Rattle.std.specs.Prelude.{slice_get}
use Rattle.world_model.specs.declared.world.PendingSignal.{PendingSignal}
use Rattle.world_check.specs.Pending.{alternative_for}
use Rattle.world_check.proofs.pending.no_signal_above.Given as goal

abbrev pub invariant-loop-place : goal.invariant-loop-place
invariant-loop-place l = (k n : ℕ) (signal : PendingSignal) → k < l.place → slice_get l.world.pending k ≡ Some signal → alternative_for l.facts l.world l.who l.signals signal ≡ Some n → signal.value.priority ≤ l.priority

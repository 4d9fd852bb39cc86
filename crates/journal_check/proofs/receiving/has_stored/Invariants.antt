use Rattle.std.proofs.Common.{◌≡◌, ◌<◌, ℕ, Some}
use Rattle.std.specs.Prelude.{slice_get}
use Rattle.world_model.specs.declared.world.StoredValue.{StoredValue}
use Rattle.journal_check.specs.Receiving.{MayTake}
use Rattle.journal_check.proofs.receiving.has_stored.Given as goal

abbrev pub invariant-loop-place : goal.invariant-loop-place
invariant-loop-place l = (k : ℕ) (value : StoredValue) → k < l.place → slice_get l.values k ≡ Some value → MayTake l.facts l.world l.buffers l.receipt.send l.receipt.scalars.now l.receipt.by value → ⊥

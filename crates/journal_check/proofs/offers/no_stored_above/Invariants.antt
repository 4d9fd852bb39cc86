use Rattle.std.proofs.Common.{◌≡◌, ◌<◌, ◌≤◌, ℕ, Some}
use Rattle.std.specs.Prelude.{slice_get}
use Rattle.world_model.specs.declared.world.StoredValue.{StoredValue}
use Rattle.journal_check.proofs.offers.no_stored_above.Given as goal

abbrev pub invariant-loop-place : goal.invariant-loop-place
invariant-loop-place l = (k : ℕ) (other : StoredValue) → k < l.place → slice_get l.values k ≡ Some other → other.priority ≤ l.priority

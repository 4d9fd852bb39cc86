use Rattle.std.proofs.Common.{ℕ, ◌+◌, ◌<◌, pos}
use Rattle.std.specs.Prelude.{slice_index_or}
use Rattle.kernel_base.specs.Facts.{FitsScalar}
use Rattle.kernel_base.proofs.fitting.fits_write.Given as goal

abbrev pub invariant-loop-i : goal.invariant-loop-i
invariant-loop-i l = (k : ℕ) → k < l.i → FitsScalar l.facts l.place.location (l.place.first + k) (slice_index_or l.scalars k (pos 0))

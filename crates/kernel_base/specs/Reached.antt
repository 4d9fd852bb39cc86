-- Where a walk over the kinds of a value's scalars comes to.
use Rattle.std.specs.Prelude.{◌≡◌, ℕ, ◌+◌, List, length, slice_get, Some}
use Rattle.kernel_base.specs.declared.value.ScalarKind.{ScalarKind}
use Rattle.kernel_base.specs.declared.fitting.Reached.{Reached}
use Rattle.kernel_base.specs.declared.fitting.Reached.TheVariants.{At, Behind}

-- the kind at this index, or how much the index lies behind the last
abbrev pub IsReached : List ScalarKind → ℕ → Reached → Type 0
IsReached kinds index (At kind) = slice_get kinds index ≡ Some kind
IsReached kinds index (Behind rest) = length kinds + rest ≡ index

-- Layouts that scalars fit, and locations with theirs.
use Rattle.std.specs.Prelude.{◌≡◌, ◌<◌, ℕ, ℤ, List, length, slice_get, Some}
use Rattle.chill_base.specs.declared.layout.Bits.{Bits}
use Rattle.kernel_base.specs.declared.value.Value.{Value}
use Rattle.kernel_base.specs.Facts.{IsWithinBits, IsLaidOut}

-- a scalar is within the bits of its place
abbrev pub IsWithinAt : List ℤ → List Bits → ℕ → Type 0
IsWithinAt scalars layout k = (bits : Bits) (number : ℤ) → slice_get layout k ≡ Some bits → slice_get scalars k ≡ Some number → IsWithinBits bits number

-- as many scalars as places, each within its bits
pub record FitLayout (scalars : List ℤ) (layout : List Bits) : Type 0 where
  pub count : length scalars ≡ length layout
  pub within : (k : ℕ) → k < length layout → IsWithinAt scalars layout k

-- a value has the layout of its place
abbrev pub IsLaidOutAt : List Value → List (List Bits) → ℕ → Type 0
IsLaidOutAt values layouts k = (value : Value) (layout : List Bits) → slice_get values k ≡ Some value → slice_get layouts k ≡ Some layout → IsLaidOut value layout

-- each value below a number has its layout
abbrev pub AreLaidOut : List Value → List (List Bits) → Type 0
AreLaidOut values layouts = (k : ℕ) → k < length values → IsLaidOutAt values layouts k

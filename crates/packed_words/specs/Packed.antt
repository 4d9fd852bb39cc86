-- The scalars of a location in the words of its layout.
use Rattle.std.specs.Prelude.{◌≡◌, ℕ, List, ℤ, length, map, slice_get, slice_index_or, Some, All, AllPairs}
use Rattle.chill_base.specs.declared.layout.Bits.{Bits}
use Rattle.kernel_base.specs.Facts.{IsInWord, IsWithinBits, ShareNoBit}
use Rattle.layout_map.specs.Spots.{words_of}
use Rattle.layout_map.specs.Words.{number_in}

-- the number in the bits
abbrev pub number_at : List ℕ → Bits → ℤ
number_at words bits = number_in (slice_index_or words bits.word 0) bits

-- the scalars that words hold by a layout
abbrev pub scalars_in : List ℕ → List Bits → List ℤ
scalars_in words layout = map (number_at words) layout

-- each scalar has bits of its own, in a word
pub record HasOwnBits (layout : List Bits) : Type 0 where
  pub in_words : All IsInWord layout
  pub apart : AllPairs ShareNoBit layout

-- a number that the bits of scalar number k hold
abbrev pub FitsBits : List Bits → ℕ → ℤ → Type 0
FitsBits layout k number = (bits : Bits) → slice_get layout k ≡ Some bits → IsWithinBits bits number

-- as many scalars as the layout has places, each within its bits
pub record AreLaid (layout : List Bits) (scalars : List ℤ) : Type 0 where
  pub count : length scalars ≡ length layout
  pub within : (k : ℕ) (bits : Bits) (number : ℤ) → slice_get layout k ≡ Some bits → slice_get scalars k ≡ Some number → IsWithinBits bits number

-- as many words as the layout needs
pub record IsPacked (layout : List Bits) (words : List ℕ) : Type 0 where
  pub own : HasOwnBits layout
  pub count : length words ≡ words_of layout

-- where the scalars lie, and the scalars
pub record SeenPacked : Type 0 where
  pub layout : List Bits
  pub scalars : List ℤ

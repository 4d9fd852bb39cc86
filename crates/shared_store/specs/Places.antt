-- Places in the store.
use Rattle.std.specs.Prelude.{◌≡◌, ℕ, ◌+◌, ◌<◌, ◌≤◌, List, [], ℤ, length, slice_get, slice_index_or, slice_set, Some}
use Rattle.chill_base.specs.declared.layout.Bits.{Bits}
use Rattle.kernel_base.specs.declared.request.Place.{Place}
use Rattle.kernel_base.specs.Facts.{IsWithinBits}
use Rattle.packed_words.specs.Packed.{SeenPacked}
use Rattle.world_model.specs.Lists.{scalars_at, with_scalars}

-- for each location where its scalars lie, and its scalars
pub record SeenStore : Type 0 where
  pub layouts : List (List Bits)
  pub scalars : List (List ℤ)

abbrev pub layout_in : SeenPacked → List Bits
layout_in location = location.layout

abbrev pub numbers_in : SeenPacked → List ℤ
numbers_in location = location.scalars

-- where the scalars of a location lie
abbrev pub layout_of : SeenStore → ℕ → List Bits
layout_of store location = slice_index_or store.layouts location []

-- the scalars of a location
abbrev pub location_of : List (List ℤ) → ℕ → List ℤ
location_of store location = slice_index_or store location []

-- the place lies in its location
pub record LiesIn (store : List (List ℤ)) (place : Place) : Type 0 where
  pub location : place.location < length store
  pub scalars : place.first + place.count ≤ length (location_of store place.location)

-- the numbers fit the bits of the scalars from number `first` on
abbrev pub FitAt : List Bits → ℕ → List ℤ → Type 0
FitAt layout first numbers = (k : ℕ) (number : ℤ) (bits : Bits) → slice_get numbers k ≡ Some number → slice_get layout (first + k) ≡ Some bits → IsWithinBits bits number

-- each of the scalars fits its bits in the place
abbrev pub FitBits : SeenStore → Place → List ℤ → Type 0
FitBits store place scalars = FitAt (layout_of store place.location) place.first scalars

-- the scalars of a place
abbrev pub read_at : List (List ℤ) → Place → List ℤ
read_at store place = scalars_at (location_of store place.location) place.first place.count

-- these scalars in the place
abbrev pub written_at : List (List ℤ) → Place → List ℤ → List (List ℤ)
written_at store place scalars = slice_set store place.location (with_scalars (location_of store place.location) place.first scalars)

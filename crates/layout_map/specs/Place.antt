-- Places that are written: which are possible, and which share a bit.
use Rattle.std.specs.Prelude.{ℕ, zero, suc, ◌+◌, ◌-◌, ◌*◌, ◌/◌, ◌%◌, min, max, Bool, true, false, ◌&&◌, nat_le, nat_lt, nat_eq, Option, Some, None}
use Rattle.modes.specs.ModeTree.{ModeTree, PlaceTree}
use Rattle.layout_map.specs.declared.scalar.Scalar.{Scalar}
use Rattle.layout_map.specs.Scalar.{scalar_of}

-- bits in order, of one of the first 4,096 words
abbrev pub is_in_word : PlaceTree → Bool
is_in_word p = nat_le p.start p.end && (nat_le p.end 31 && nat_le p.word 4095)

-- enough bits for the scalar
abbrev pub holds : PlaceTree → Option Scalar → Bool
holds p None = false
holds p (Some s) = nat_le s.width (p.end - p.start + 1)

-- a field of the mode may have this place
abbrev pub is_possible : ModeTree → PlaceTree → Bool
is_possible m p = is_in_word p && holds p (scalar_of m)

-- each of so many elements, the first of which begins at the bit, ends in its word, one of the first 4,096
abbrev pub steps_fit : ℕ → ℕ → ℕ → ℕ → Bool
steps_fit zero length step bit = true
steps_fit (suc n) length step bit = (nat_le (bit % 32 + length) 31 && nat_le (bit / 32) 4095) && steps_fit n length step (bit + step)

-- so many elements of the mode may have this place and this step
abbrev pub is_possible_step : ℕ → ModeTree → PlaceTree → ℕ → Bool
is_possible_step n m p d =
    is_possible m p && (nat_lt (p.end - p.start) d && (nat_le d 262144 && steps_fit n (p.end - p.start) d (32 * p.word + p.start)))

-- some bit of a word belongs to both
abbrev pub shares : PlaceTree → PlaceTree → Bool
shares a b = nat_eq a.word b.word && nat_le (max a.start b.start) (min a.end b.end)

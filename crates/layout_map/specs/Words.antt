-- Numbers in the bits of words.
use Rattle.std.specs.Prelude.{ℕ, ◌+◌, ◌-◌, ◌*◌, ◌/◌, ◌%◌, ◌^◌, ◌≤◌, ℤ, pos, neg_ℤ, ◌-ℤ◌, ◌≤ℤ◌, ◌<ℤ◌, int_lt, Bool, ◌&&◌, nat_le, if◌then◌else◌, MatchBool}
use Rattle.chill_base.specs.declared.layout.Bits.{Bits}
use Rattle.modes.specs.Bounds.{natural_of}
use Rattle.layout_map.specs.Scalar.{beyond_of}

-- bits that a word has
pub record IsInWord (bits : Bits) : Type 0 where
  pub ordered : bits.start ≤ bits.end
  pub within : bits.end ≤ 31

-- a number from -(2 ^ top) to 2 ^ top - 1
pub record IsSignedBelow (top : ℕ) (number : ℤ) : Type 0 where
  pub low : neg_ℤ (pos (2 ^ top)) ≤ℤ number
  pub high : number <ℤ pos (2 ^ top)

-- a number from 0 to 2 ^ count - 1
pub record IsUnsignedBelow (count : ℕ) (number : ℤ) : Type 0 where
  pub low : pos 0 ≤ℤ number
  pub high : number <ℤ pos (2 ^ count)

-- a number that these bits hold
pub record IsWithinBits (bits : Bits) (number : ℤ) : Type 0 where
  pub in_word : IsInWord bits
  pub fits : MatchBool bits.signed (IsSignedBelow (bits.end - bits.start) number) (IsUnsignedBelow (bits.end - bits.start + 1) number)

-- so many bits of a word, from one on
abbrev pub field_in : ℕ → ℕ → ℕ → ℕ
field_in word start width = word / 2 ^ start % 2 ^ width

-- a field as a number; a signed one in two's complement
abbrev pub number_of_field : ℕ → Bool → ℕ → ℤ
number_of_field field signed top =
    if signed && nat_le (2 ^ top) field then pos field -ℤ pos (2 * 2 ^ top) else pos field

-- the number in the bits of a word
abbrev pub number_in : ℕ → Bits → ℤ
number_in word b = number_of_field (field_in word b.start (b.end - b.start + 1)) b.signed (b.end - b.start)

-- a number in so many bits of two's complement
abbrev pub coded_in : ℤ → ℕ → ℕ
coded_in value width = if int_lt value (pos 0) then 2 ^ width - 1 - beyond_of value else natural_of value

-- the word with so many bits, from one on, replaced
abbrev pub put_field : ℕ → ℕ → ℕ → ℕ → ℕ
put_field word start width field = word / 2 ^ (start + width) * 2 ^ (start + width) + field * 2 ^ start + word % 2 ^ start

-- the word with the number in the bits
abbrev pub put_in : ℕ → Bits → ℤ → ℕ
put_in word b value = put_field word b.start (b.end - b.start + 1) (coded_in value (b.end - b.start + 1))

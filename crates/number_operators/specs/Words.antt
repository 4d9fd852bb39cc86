-- Words of 32 bits.
use Rattle.std.specs.Prelude.{◌≡◌, ℕ, ◌^◌, ◌<◌, ◌==◌, ℤ, pos, int_lt, int_le}
use Rattle.std.specs.Int.{bit_at}

-- a word has the bits below a number
pub record HasFirstBits (word : ℕ) (count : ℤ) : Type 0 where
  pub few : word < 2 ^ 32
  pub bits : (k : ℕ) → k < 32 → (bit_at word k == 1) ≡ int_lt (pos k) count

-- a word has the bits up to a number
pub record HasBitsTo (word : ℕ) (last : ℤ) : Type 0 where
  pub few : word < 2 ^ 32
  pub bits : (k : ℕ) → k < 32 → (bit_at word k == 1) ≡ int_le (pos k) last

-- Bits that have no bit of a word in common.
use Rattle.std.specs.Prelude.{◌≡◌, ℕ, ◌≤◌}
use Rattle.chill_base.specs.declared.layout.Bits.{Bits}

-- the bit of the word is one of these bits
pub record HasBit (bits : Bits) (word bit : ℕ) : Type 0 where
  pub in_word : word ≡ bits.word
  pub low : bits.start ≤ bit
  pub high : bit ≤ bits.end

-- no bit belongs to both
abbrev pub ShareNoBit : Bits → Bits → Type 0
ShareNoBit a b = (word bit : ℕ) → HasBit a word bit → HasBit b word bit → ⊥

-- A bound of 64 bits and a number: the sum is held as the greatest number where it is greater.
use Rattle.std.proofs.Common.{◌≡◌, ℕ, ◌+◌, ◌<◌, ◌≤◌, min, Bool, true, false, ℤ, pos, negsuc, ◌+ℤ◌, int_le, refl, sym, ap, ◌∙◌, arith, w64, if◌then◌else◌}
use Rattle.std.specs.Int.{saturate_signed}
use Rattle.std.proofs.lemmas.Int.{ints}
use mir.Val.{SFits}
use Rattle.code_scheme.specs.Pieces.{capped_number}

abbrev greatest : ℕ
greatest = 9223372036854775807

capped_pos : (n : ℕ) (b : Bool) → int_le (pos n) (pos greatest) ≡ b → pos (min n greatest) ≡ (if b then pos n else pos greatest)
capped_pos n true e = ap pos (let f : n ≤ greatest = omega (arith, ints, e) in omega (arith, f))
capped_pos n false e = ap pos (let f : greatest < n = omega (arith, ints, e) in omega (arith, f))

low_sum : (a n m : ℕ) → negsuc a +ℤ pos n ≡ negsuc m → a ≤ greatest → min m greatest ≡ m
low_sum a n m e h = let f : m ≤ a = omega (arith, ints, e) in omega (arith, f, h)

by_sum : (b : ℤ) (n : ℕ) (z : ℤ) → SFits w64 b → b +ℤ pos n ≡ z → saturate_signed w64 z ≡ capped_number z
by_sum b n (pos m) fits e = capped_pos m (int_le (pos m) (pos greatest)) refl
by_sum (pos a) n (negsuc m) fits e = absurd (omega (arith, ints, e))
by_sum (negsuc a) n (negsuc m) fits e = ap negsuc (low_sum a n m e (omega (arith, fits.sfits)))

pub plus_is : (b : ℤ) (n : ℕ) (r : ℤ) → SFits w64 b → r ≡ saturate_signed w64 (b +ℤ pos n) → r ≡ capped_number (b +ℤ pos n)
plus_is b n r fits e = e ∙ by_sum b n (b +ℤ pos n) fits refl

-- Numbers in two's complement.
use Rattle.std.proofs.Common.{◌≡◌, ℕ, suc, ◌+◌, ◌-◌, ◌*◌, ◌^◌, ◌<◌, ◌≤◌, Bool, true, false, refl, ap, ◌∙◌, arith}
use Rattle.std.proofs.lemmas.Int.{ints}
use Rattle.std.specs.Prelude.{ℤ, pos, negsuc, ◌-ℤ◌, MatchBool}
use Rattle.std.proofs.lemmas.Nat.{pow_pos, pow-add}
use Rattle.std.proofs.lemmas.Bool.Decides.{nat_tests}
use Rattle.chill_base.specs.declared.layout.Bits.{Bits}
use Rattle.layout_map.specs.Words.{IsSignedBelow, IsUnsignedBelow, IsWithinBits, number_of_field, number_in, coded_in, put_in}
use Rattle.layout_map.proofs.WordLemmas.{put-field, bit-below_field, bit-above_field}
use Rattle.std.specs.Int.{bit_at}

code_pos : (v n : ℕ) → coded_in (pos v) n ≡ v
code_pos v n = grind (arith, nat_tests)

code_neg : (v n : ℕ) → coded_in (negsuc v) n ≡ 2 ^ n - 1 - v
code_neg v n = refl

below_signed : (t : ℕ) (value : ℤ) → IsSignedBelow t value → coded_in value (t + 1) < 2 ^ (t + 1)
below_signed t (pos v) h =
    let p : 2 ^ (t + 1) ≡ 2 ^ t * 2 ^ 1 = pow-add 2 t 1 in
    let q : v < 2 ^ t = omega (arith, ints, h.high) in
    let r : v < 2 ^ (t + 1) = omega (arith, p, q) in
    rw (code_pos v (t + 1)) r
below_signed t (negsuc v) h = omega (arith, pow_pos (t + 1), code_neg v (t + 1))

below_unsigned : (n : ℕ) (value : ℤ) → IsUnsignedBelow n value → coded_in value n < 2 ^ n
below_unsigned n (pos v) h = let r : v < 2 ^ n = omega (arith, ints, h.high) in rw (code_pos v n) r
below_unsigned n (negsuc v) h = omega (arith, pow_pos n, code_neg v n)

below_either : (signed : Bool) (t : ℕ) (value : ℤ) → MatchBool signed (IsSignedBelow t value) (IsUnsignedBelow (t + 1) value) → coded_in value (t + 1) < 2 ^ (t + 1)
below_either true t value h = below_signed t value h
below_either false t value h = below_unsigned (t + 1) value h

-- the bits hold the code of a number that they hold
pub coded-below : (b : Bits) (value : ℤ) → IsWithinBits b value → coded_in value (b.end - b.start + 1) < 2 ^ (b.end - b.start + 1)
coded-below b value h = below_either b.signed (b.end - b.start) value h.fits

upper : (t c : ℕ) → 2 ^ t ≤ c → number_of_field c true t ≡ pos c -ℤ pos (2 * 2 ^ t)
upper t c h = grind (arith, nat_tests)

lower : (t c : ℕ) → c < 2 ^ t → number_of_field c true t ≡ pos c
lower t c h = grind (arith, nat_tests)

number_signed : (t : ℕ) (value : ℤ) → IsSignedBelow t value → number_of_field (coded_in value (t + 1)) true t ≡ value
number_signed t (pos v) h =
    let q : v < 2 ^ t = omega (arith, ints, h.high) in
    ap (λ (c : ℕ). number_of_field c true t) (code_pos v (t + 1)) ∙ lower t v q
number_signed t (negsuc v) h =
    let p : 2 ^ (t + 1) ≡ 2 ^ t * 2 ^ 1 = pow-add 2 t 1 in
    let q : suc v ≤ 2 ^ t = omega (arith, ints, h.low) in
    let c : 2 ^ t ≤ 2 ^ (t + 1) - 1 - v = omega (arith, p, q) in
    let last : pos (2 ^ (t + 1) - 1 - v) -ℤ pos (2 * 2 ^ t) ≡ negsuc v = omega (arith, ints, p, q) in
    upper t (2 ^ (t + 1) - 1 - v) c ∙ last

number_unsigned : (t n : ℕ) (value : ℤ) → IsUnsignedBelow n value → number_of_field (coded_in value n) false t ≡ value
number_unsigned t n (pos v) h = ap pos (code_pos v n)
number_unsigned t n (negsuc v) h = absurd (omega (arith, ints, h.low))

number_either : (signed : Bool) (t : ℕ) (value : ℤ) → MatchBool signed (IsSignedBelow t value) (IsUnsignedBelow (t + 1) value) → number_of_field (coded_in value (t + 1)) signed t ≡ value
number_either true t value h = number_signed t value h
number_either false t value h = number_unsigned t (t + 1) value h

-- and it is the number's
pub coded-number : (b : Bits) (value : ℤ) → IsWithinBits b value → number_of_field (coded_in value (b.end - b.start + 1)) b.signed (b.end - b.start) ≡ value
coded-number b value h = number_either b.signed (b.end - b.start) value h.fits

-- what was put is got
pub put_get : (word : ℕ) (b : Bits) (value : ℤ) → IsWithinBits b value → number_in (put_in word b value) b ≡ value
put_get word b value h =
    ap (λ (f : ℕ). number_of_field f b.signed (b.end - b.start)) (put-field word b.start (b.end - b.start + 1) (coded_in value (b.end - b.start + 1)) (coded-below b value h))
    ∙ coded-number b value h

-- bits below and above are as before
pub put_below : (word : ℕ) (b : Bits) (value : ℤ) (k : ℕ) → k < b.start → bit_at (put_in word b value) k ≡ bit_at word k
put_below word b value k h = bit-below_field word b.start (b.end - b.start + 1) (coded_in value (b.end - b.start + 1)) k h

pub put_above : (word : ℕ) (b : Bits) (value : ℤ) (k : ℕ) → IsWithinBits b value → b.end < k → bit_at (put_in word b value) k ≡ bit_at word k
put_above word b value k h p =
    let o : b.start ≤ b.end = h.in_word.ordered in
    bit-above_field word b.start (b.end - b.start + 1) (coded_in value (b.end - b.start + 1)) k (coded-below b value h) (omega arith)

pub ruleset word_laws = (put_get, put_below, put_above)

-- Powersets as words of 32 bits.
use Rattle.std.proofs.Common.{◌≡◌, ℕ, zero, suc, ◌+◌, ◌-◌, ◌*◌, ◌/◌, ◌%◌, ◌^◌, ◌<◌, ◌≤◌, ◌≤ℤ◌, ◌+ℤ◌, Bool, true, false, List, [], ◌∷◌, ℤ, pos, negsuc, min, max, int_lt, int_le, to_z, ◌⊎◌, inl, inr, refl, ap, sym, ◌∙◌, arith}
use Rattle.std.specs.Prelude.{◌==◌, ◌&&◌, ◌||◌, not, nat_lt, sum_by, if◌then◌else◌, bit_and, bit_or, bit_xor}
use Rattle.std.specs.Int.{bit_at, w64}
use Rattle.std.proofs.Math.Nat.{div-div-eq-div-mul, pow-suc}
use Rattle.std.proofs.lemmas.Int.{ints}
use Rattle.std.proofs.lemmas.Nat.{pow_below}
use Rattle.std.proofs.lemmas.Bool.{cases_lt, lt-ltb}
use Rattle.std.proofs.lemmas.List.Sums.{sum_by-cons}
use Rattle.std.proofs.lemmas.Nat.Bits.{bit_at_and, bit_at_or, bit_at_xor, bit_at-lt, bit_at_ones, bit_at_ones_above}
use Rattle.number_operators.specs.Words.{HasFirstBits, HasBitsTo}
use Rattle.scalar_operators.specs.Powersets.{numbers_up, offsets, powerset_where, has_member, low_word, intersection, union, symmetric_difference, difference, complement_in, span_of}

-- a test of the offsets, as the sum of what each adds
abbrev worth : (ℕ → Bool) → ℕ → ℕ
worth test k = if test k then 2 ^ k else 0

-- tests that are equal at some offsets make equal sums over them
sums_agree : (p q : ℕ → Bool) (count k : ℕ) → ((j : ℕ) → j < k + count → p j ≡ q j) → sum_by (worth p) (numbers_up k count) ≡ sum_by (worth q) (numbers_up k count)
sums_agree p q zero k same = refl
sums_agree p q (suc count) k same =
    let here : worth p k ≡ worth q k = ap (λ (b : Bool). if b then 2 ^ k else 0) (same k (omega arith)) in
    let rest = sums_agree p q count (suc k) (λ j few. same j (omega arith)) in
    omega (arith, sum_by-cons (worth p) k (numbers_up (suc k) count), sum_by-cons (worth q) k (numbers_up (suc k) count), here, rest)

-- a number is what its lowest bit is worth and twice its half
lowest_bit : (p h r q : ℕ) → r < 2 → q ≡ 2 * h + r → (if r == 1 then p else 0) + p * 2 * h ≡ p * q
lowest_bit p h zero q few e = let times = ap (λ (x : ℕ). p * x) e in omega (arith, times)
lowest_bit p h (suc zero) q few e = let times = ap (λ (x : ℕ). p * x) e in omega (arith, times)
lowest_bit p h (suc (suc r)) q few e = absurd (omega arith)

-- what one bit of a word is worth
one_bit : (w k : ℕ) → worth (λ j. bit_at w j == 1) k + 2 ^ suc k * (w / 2 ^ suc k) ≡ 2 ^ k * (w / 2 ^ k)
one_bit w k =
    let q = w / 2 ^ k in
    let half : w / 2 ^ suc k ≡ q / 2 = ap (λ (n : ℕ). w / n) (pow-suc 2 k) ∙ sym (div-div-eq-div-mul w (2 ^ k) 2) in
    let whole : q ≡ 2 * (q / 2) + q % 2 = omega arith in
    let few : q % 2 < 2 = omega arith in
    rw half (rw (pow-suc 2 k) (lowest_bit (2 ^ k) (q / 2) (q % 2) q few whole))

-- a word is the sum of its bits, so many from one on, and what stands above them
sum_of_bits : (w count k : ℕ) → sum_by (worth (λ j. bit_at w j == 1)) (numbers_up k count) + 2 ^ (k + count) * (w / 2 ^ (k + count)) ≡ 2 ^ k * (w / 2 ^ k)
sum_of_bits w zero k = let same : k + 0 ≡ k = omega arith in rw same (omega arith)
sum_of_bits w (suc count) k =
    let bit = one_bit w k in
    let rest = sum_of_bits w count (suc k) in
    let same : k + suc count ≡ suc k + count = omega arith in
    let first = sum_by-cons (worth (λ j. bit_at w j == 1)) k (numbers_up (suc k) count) in
    rw same (omega (arith, bit, rest, first))

-- a word tells the powerset of its bits
pub word_of_bits : (w : ℕ) (test : ℕ → Bool) → w < 2 ^ 32 → ((k : ℕ) → k < 32 → test k ≡ (bit_at w k == 1)) → powerset_where test ≡ pos w
word_of_bits w test few same =
    let sum = sum_of_bits w 32 0 in
    ap pos (sums_agree test (λ k. bit_at w k == 1) 32 0 (λ j less. same j (omega arith)) ∙ omega (arith, sum))

-- tests of single bits
both : (x y : ℕ) → x < 2 → y < 2 → ((x == 1) && (y == 1)) ≡ (min x y == 1)
both zero zero few less = refl
both zero (suc zero) few less = refl
both (suc zero) zero few less = refl
both (suc zero) (suc zero) few less = refl
both (suc (suc x)) y few less = absurd (omega arith)
both zero (suc (suc y)) few less = absurd (omega arith)
both (suc zero) (suc (suc y)) few less = absurd (omega arith)

either : (x y : ℕ) → x < 2 → y < 2 → ((x == 1) || (y == 1)) ≡ (max x y == 1)
either zero zero few less = refl
either zero (suc zero) few less = refl
either (suc zero) zero few less = refl
either (suc zero) (suc zero) few less = refl
either (suc (suc x)) y few less = absurd (omega arith)
either zero (suc (suc y)) few less = absurd (omega arith)
either (suc zero) (suc (suc y)) few less = absurd (omega arith)

just_one : (x y : ℕ) → x < 2 → y < 2 → (((x == 1) && not (y == 1)) || ((y == 1) && not (x == 1))) ≡ ((x + y) % 2 == 1)
just_one zero zero few less = refl
just_one zero (suc zero) few less = refl
just_one (suc zero) zero few less = refl
just_one (suc zero) (suc zero) few less = refl
just_one (suc (suc x)) y few less = absurd (omega arith)
just_one zero (suc (suc y)) few less = absurd (omega arith)
just_one (suc zero) (suc (suc y)) few less = absurd (omega arith)

-- a word has 32 bits
pub low_word_few : (set : ℤ) → low_word set < 2 ^ 32
low_word_few (pos n) = omega arith
low_word_few (negsuc n) = omega arith

-- the operators of powersets, on words
pub intersection_word : (a b : ℤ) → bit_and (low_word a) (low_word b) < 2 ^ 32 → intersection a b ≡ pos (bit_and (low_word a) (low_word b))
intersection_word a b few = word_of_bits (bit_and (low_word a) (low_word b)) (λ k. has_member a k && has_member b k) few (λ k less. both (bit_at (low_word a) k) (bit_at (low_word b) k) (bit_at-lt (low_word a) k) (bit_at-lt (low_word b) k) ∙ ap (λ (n : ℕ). n == 1) (sym (bit_at_and (low_word a) (low_word b) k)))

pub union_word : (a b : ℤ) → bit_or (low_word a) (low_word b) < 2 ^ 32 → union a b ≡ pos (bit_or (low_word a) (low_word b))
union_word a b few = word_of_bits (bit_or (low_word a) (low_word b)) (λ k. has_member a k || has_member b k) few (λ k less. either (bit_at (low_word a) k) (bit_at (low_word b) k) (bit_at-lt (low_word a) k) (bit_at-lt (low_word b) k) ∙ ap (λ (n : ℕ). n == 1) (sym (bit_at_or (low_word a) (low_word b) k)))

pub symmetric_word : (a b : ℤ) → bit_xor (low_word a) (low_word b) < 2 ^ 32 → symmetric_difference a b ≡ pos (bit_xor (low_word a) (low_word b))
symmetric_word a b few = word_of_bits (bit_xor (low_word a) (low_word b)) (λ k. (has_member a k && not (has_member b k)) || (has_member b k && not (has_member a k))) few (λ k less. just_one (bit_at (low_word a) k) (bit_at (low_word b) k) (bit_at-lt (low_word a) k) (bit_at-lt (low_word b) k) ∙ ap (λ (n : ℕ). n == 1) (sym (bit_at_xor (low_word a) (low_word b) k)))

-- the first bit without the second
without : (x y : ℕ) → x < 2 → y < 2 → ((x == 1) && not (y == 1)) ≡ ((x + min x y) % 2 == 1)
without zero zero few less = refl
without zero (suc zero) few less = refl
without (suc zero) zero few less = refl
without (suc zero) (suc zero) few less = refl
without (suc (suc x)) y few less = absurd (omega arith)
without zero (suc (suc y)) few less = absurd (omega arith)
without (suc zero) (suc (suc y)) few less = absurd (omega arith)

-- what a word has at an offset without another word
abbrev pub minus_word : ℕ → ℕ → ℕ
minus_word a b = bit_xor a (bit_and a b)

minus_bit : (a b k : ℕ) → ((bit_at a k == 1) && not (bit_at b k == 1)) ≡ (bit_at (minus_word a b) k == 1)
minus_bit a b k =
    without (bit_at a k) (bit_at b k) (bit_at-lt a k) (bit_at-lt b k)
    ∙ ap (λ (n : ℕ). (bit_at a k + n) % 2 == 1) (sym (bit_at_and a b k))
    ∙ ap (λ (n : ℕ). n == 1) (sym (bit_at_xor a (bit_and a b) k))

pub difference_word : (a b : ℤ) → minus_word (low_word a) (low_word b) < 2 ^ 32 → difference a b ≡ pos (minus_word (low_word a) (low_word b))
difference_word a b few = word_of_bits (minus_word (low_word a) (low_word b)) (λ k. has_member a k && not (has_member b k)) few (λ k less. minus_bit (low_word a) (low_word b) k)

-- the operators that take a mask
pub complement_word : (mask count : ℕ) (set : ℤ) → HasFirstBits mask (pos count) → minus_word mask (low_word set) < 2 ^ 32 → complement_in count set ≡ pos (minus_word mask (low_word set))
complement_word mask count set first few =
    word_of_bits (minus_word mask (low_word set)) (λ k. nat_lt k count && not (has_member set k)) few
    (λ k less. ap (λ (b : Bool). b && not (has_member set k)) (sym (first.bits k less)) ∙ minus_bit mask (low_word set) k)

-- members past the last that one number tells of add nothing
pub complement_capped : (count : ℕ) (set : ℤ) → 32 ≤ count → complement_in 32 set ≡ complement_in count set
complement_capped count set many =
    ap pos (sums_agree (λ k. nat_lt k 32 && not (has_member set k)) (λ k. nat_lt k count && not (has_member set k)) 32 0
    (λ j less. let few : j < 32 = omega (arith, less) in ap (λ (b : Bool). b && not (has_member set j)) (lt-ltb j 32 few ∙ sym (lt-ltb j count (omega (arith, few, many))))))

span_test : (x y h l : Bool) → y ≡ h → x ≡ not l → (x && y) ≡ (h && not l)
span_test x y h l e f = grind (arith)

opposite : (a : ℤ) (k : ℕ) → int_le a (pos k) ≡ not (int_lt (pos k) a)
opposite a k = grind (arith, ints)

pub span_word : (high low : ℕ) (a b : ℤ) → HasBitsTo high b → HasFirstBits low a → minus_word high low < 2 ^ 32 → span_of a b ≡ pos (minus_word high low)
span_word high low a b first second few =
    word_of_bits (minus_word high low) (λ k. int_le a (pos k) && int_le (pos k) b) few
    (λ k less. span_test (int_le a (pos k)) (int_le (pos k) b) (bit_at high k == 1) (bit_at low k == 1) (sym (first.bits k less)) (opposite a k ∙ ap not (sym (second.bits k less))) ∙ minus_bit high low k)

-- a word as a number with sign
pub as_signed : (word : ℕ) (z : ℤ) → word < 2 ^ 32 → z ≡ pos word → to_z w64 word ≡ z
as_signed word z few same = omega (arith, ints)

-- words with the lowest bits
pub all_bits : (count : ℤ) → pos 32 ≤ℤ count → HasFirstBits 4294967295 count
all_bits count many = record {
  few = omega arith;
  bits = λ k less. let one = bit_at_ones 32 k less in let yes : int_lt (pos k) count ≡ true = grind (arith, ints) in rw (one, yes) refl;
}

no_bits : (n k : ℕ) → 1 * 2 ^ n % 18446744073709551616 ≡ 2 ^ n → k < n → (bit_at (1 * 2 ^ n % 18446744073709551616 - 1) k == 1) ≡ true
no_bits n k whole less = let one = bit_at_ones n k less in rw (whole, one) refl

some_bits : (n k : ℕ) → 1 * 2 ^ n % 18446744073709551616 ≡ 2 ^ n → n ≤ k → (bit_at (1 * 2 ^ n % 18446744073709551616 - 1) k == 1) ≡ false
some_bits n k whole less = let none = bit_at_ones_above n k less in rw (whole, none) refl

bits_split : (n k : ℕ) → 1 * 2 ^ n % 18446744073709551616 ≡ 2 ^ n → (k < n) ⊎ (n ≤ k) → (bit_at (1 * 2 ^ n % 18446744073709551616 - 1) k == 1) ≡ int_lt (pos k) (pos n)
bits_split n k whole (inl less) = let yes : int_lt (pos k) (pos n) ≡ true = grind (arith, ints) in no_bits n k whole less ∙ sym yes
bits_split n k whole (inr less) = let no : int_lt (pos k) (pos n) ≡ false = grind (arith, ints) in some_bits n k whole less ∙ sym no

-- a power of two that fits
fits_power : (n : ℕ) → n < 32 → 2 ^ n < 2 ^ 32
fits_power n less = pow_below n 32 less

pub bits_below : (n : ℕ) (count : ℤ) → n < 32 → count ≡ pos n → HasFirstBits (1 * 2 ^ n % 18446744073709551616 - 1) count
bits_below n count less same =
    let power = fits_power n less in
    let whole : 1 * 2 ^ n % 18446744073709551616 ≡ 2 ^ n = omega (arith, power) in
    record {
      few = omega (arith, power);
      bits = λ k few. rw same (bits_split n k whole (cases_lt k n));
    }

pub all_bits_to : (b : ℤ) → pos 31 ≤ℤ b → HasBitsTo 4294967295 b
all_bits_to b many = record {
  few = omega arith;
  bits = λ k less. let one = bit_at_ones 32 k less in let yes : int_le (pos k) b ≡ true = grind (arith, ints) in rw (one, yes) refl;
}

pub bits_before : (word : ℕ) (b above : ℤ) → above ≡ b +ℤ pos 1 → HasFirstBits word above → HasBitsTo word b
bits_before word b above next first = record {
  few = first.few;
  bits = λ k less. let same : int_lt (pos k) above ≡ int_le (pos k) b = grind (arith, ints) in first.bits k less ∙ same;
}

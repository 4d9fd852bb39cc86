-- What is put into the bits of a scalar of a layout, whose facts are those that the facts of a run tell of it.
use Rattle.std.proofs.Common.{◌≡◌, ◌≢◌, ℕ, ◌+◌, ◌-◌, ◌<◌, ◌≤◌, ℤ, suc, List, [], ◌∷◌, ◌++◌, length, get_or, take, drop, Bool, true, false, refl, sym, ap, ◌∙◌, subst, inl, inr, arith, Some, slice_get, slice_set, MatchBool}
use Rattle.std.specs.Prelude.{nat_lt, All, AllPairs}
use Rattle.std.specs.Option.{option_map}
use Rattle.std.proofs.lemmas.Bool.{cases_Bool}
use Rattle.std.proofs.lemmas.Bool.Decides.{nat_tests}
use Rattle.std.proofs.lemmas.List.{take-append-le, take_all}
use Rattle.std.proofs.lemmas.Option.{same_Some, slice_get-map, slice_get-get_or, slice_get_within, get_or_from_slice_get}
use Rattle.chill_base.specs.declared.layout.Bits.{Bits}
use Rattle.kernel_base.specs.Facts as facts
use Rattle.layout_map.specs.Apart.{ShareNoBit}
use Rattle.layout_map.specs.Spots.{words_of}
use Rattle.layout_map.specs.Words.{IsInWord, IsSignedBelow, IsUnsignedBelow, IsWithinBits}
use Rattle.packed_words.specs.Packed.{IsPacked, number_at, scalars_in}
use Rattle.packed_words.proofs.Kept.{scalar_put, with_number, word_there}

pub in_word : (b : Bits) → facts.IsInWord b → IsInWord b
in_word b h = record { ordered = h.ordered; within = h.within }

fits_same : (signed : Bool) (top : ℕ) (v : ℤ) → MatchBool signed (facts.IsSignedBelow top v) (facts.IsUnsignedBelow (top + 1) v) → MatchBool signed (IsSignedBelow top v) (IsUnsignedBelow (top + 1) v)
fits_same true top v h = record { low = h.low; high = h.high }
fits_same false top v h = record { low = h.low; high = h.high }

pub within_bits : (b : Bits) (v : ℤ) → facts.IsWithinBits b v → IsWithinBits b v
within_bits b v h = record { in_word = in_word b h.in_word; fits = fits_same b.signed (b.end - b.start) v h.fits }

apart_same : (a b : Bits) → facts.ShareNoBit a b → ShareNoBit a b
apart_same a b apart word bit one other = apart word bit (record { in_word = one.in_word; low = one.low; high = one.high }) (record { in_word = other.in_word; low = other.low; high = other.high })

apart_turned : (a b : Bits) → facts.ShareNoBit a b → ShareNoBit b a
apart_turned a b apart word bit one other = apart word bit (record { in_word = other.in_word; low = other.low; high = other.high }) (record { in_word = one.in_word; low = one.low; high = one.high })

pub own_at : (layout : List Bits) (k : ℕ) (b : Bits) → All facts.IsInWord layout → slice_get layout k ≡ Some b → IsInWord b
own_at layout k b each at = in_word b (subst facts.IsInWord (get_or_from_slice_get layout k b b at) (each k b (slice_get_within layout k b at)))

pair_at : (layout : List Bits) (i j : ℕ) (a b : Bits) → AllPairs facts.ShareNoBit layout → i < j → slice_get layout i ≡ Some a → slice_get layout j ≡ Some b → facts.ShareNoBit a b
pair_at layout i j a b each low at there =
    let h = each i j a low (slice_get_within layout j b there) in
    subst (λ (x : Bits). facts.ShareNoBit x b) (get_or_from_slice_get layout i a a at) (subst (λ (y : Bits). facts.ShareNoBit (get_or layout i a) y) (get_or_from_slice_get layout j b a there) h)

before : (i j : ℕ) → nat_lt i j ≡ true → i < j
before i j is = grind (arith, nat_tests)

behind : (i j : ℕ) → i ≢ j → nat_lt i j ≡ false → j < i
behind i j other is = let low : j ≤ i = grind (arith, nat_tests) in omega (arith, low, other)

pub apart_at : (layout : List Bits) (i j : ℕ) (a b : Bits) → AllPairs facts.ShareNoBit layout → i ≢ j → slice_get layout i ≡ Some a → slice_get layout j ≡ Some b → ShareNoBit a b
apart_at layout i j a b each other at there = elim (cases_Bool (nat_lt i j)) [
  | inl is ↦ apart_same a b (pair_at layout i j a b each (before i j is) at there)
  | inr is ↦ apart_turned b a (pair_at layout j i b a each (behind i j other is) there at)
]

-- the words that a layout needs hold the word of each of its bits
pub low_word : (layout : List Bits) (words : List ℕ) (k : ℕ) (d : Bits) → k < length layout → length words ≡ words_of layout → (get_or layout k d).word < length words
low_word layout words k d low count = let there = word_there layout k (get_or layout k d) (slice_get-get_or layout k d low) in omega (arith, there, count)

-- a scalar that is read
pub number_got : (words : List ℕ) (layout : List Bits) (k : ℕ) (d : Bits) (r : ℤ) → k < length layout → r ≡ number_at words (get_or layout k d) → slice_get (scalars_in words layout) k ≡ Some r
number_got words layout k d r low is = slice_get-map (number_at words) layout k ∙ ap (option_map (number_at words)) (slice_get-get_or layout k d low) ∙ ap (λ (x : ℤ). Some x) (sym is)

-- a scalar that is put
pub number_put : (words : List ℕ) (layout : List Bits) (k : ℕ) (d : Bits) (v : ℤ) → k < length layout → IsPacked layout words → facts.IsWithinBits (get_or layout k d) v
    → scalars_in (with_number words (get_or layout k d) v) layout ≡ slice_set (scalars_in words layout) k v
number_put words layout k d v low packed fits =
    let b = get_or layout k d in
    let at : slice_get layout k ≡ Some b = slice_get-get_or layout k d low in
    scalar_put words layout k b v at (low_word layout words k d low packed.count) (within_bits b v fits) (λ j a there. own_at layout j a packed.own.in_words there) (λ j a other there. apart_at layout j k a b packed.own.apart other there at)

-- a list of numbers that is written whole
pub whole : (n : ℕ) (xs ys : List ℕ) → length xs ≡ n → length ys ≡ n → take n (xs ++ drop (length xs) ys) ≡ xs
whole n xs ys e f = take-append-le n xs (drop (length xs) ys) (omega (arith, e)) ∙ take_all n xs (omega (arith, e))

-- lists that have the same number at each place
pub same_each : (xs ys : List ℤ) → length xs ≡ length ys → ((k : ℕ) → k < length ys → slice_get xs k ≡ slice_get ys k) → xs ≡ ys
same_each [] [] e each = refl
same_each [] (y ∷ ys) e each = absurd (omega (arith, e))
same_each (x ∷ xs) [] e each = absurd (omega (arith, e))
same_each (x ∷ xs) (y ∷ ys) e each =
    ap (λ (z : ℤ). z ∷ xs) (same_Some x y (each 0 (omega arith))) ∙ ap (λ (zs : List ℤ). y ∷ zs) (same_each xs ys (omega (arith, e)) (λ k low. each (suc k) (omega (arith, low))))

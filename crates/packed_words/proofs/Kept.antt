-- What is put into the bits of one scalar leaves those of the others.
use Rattle.std.proofs.Common.{◌≡◌, ◌≢◌, ℕ, zero, suc, ◌+◌, ◌-◌, ◌/◌, ◌%◌, ◌^◌, ◌<◌, ◌≤◌, ℤ, List, [], ◌∷◌, length, true, false, refl, sym, ap, ◌∙◌, inl, inr, arith, Some, slice_get, slice_set}
use Rattle.std.specs.Prelude.{nat_lt, slice_index_or}
use Rattle.std.proofs.lemmas.Bool.{cases_Bool, cases_eq}
use Rattle.std.proofs.lemmas.Bool.Decides.{nat_tests}
use Rattle.std.proofs.lemmas.List.{get_or-set_same, get_or-set_other}
use Rattle.std.proofs.lemmas.Nat.{pow_pos, shr-shr, mod-pow-add, field_of, mod-mul-add}
use Rattle.std.proofs.lemmas.Option.{same_Some}
use Rattle.chill_base.specs.declared.layout.Bits.{Bits}
use Rattle.layout_map.specs.Apart.{ShareNoBit}
use Rattle.layout_map.specs.Spots.{words_of}
use Rattle.layout_map.specs.Words.{IsInWord, IsWithinBits, coded_in, number_in, number_of_field, put_in}
use Rattle.layout_map.proofs.NumberLemmas.{coded-below, put_get}
use Rattle.layout_map.proofs.WordLemmas.{put-high, put-low}
use Rattle.packed_words.specs.Packed.{number_at, scalars_in}

low_below : (w s : ℕ) → w % 2 ^ s < 2 ^ s
low_below w s = omega (arith, pow_pos s)

narrower : (z m n : ℕ) → z % 2 ^ (m + n) % 2 ^ n ≡ z % 2 ^ n
narrower z m n = ap (λ (v : ℕ). v % 2 ^ n) (mod-pow-add z m n) ∙ mod-mul-add (z / 2 ^ n % 2 ^ m) (2 ^ n) (z % 2 ^ n) (low_below z n)

-- a field below bit t is told by the bits below t
cut : (z s n t : ℕ) → s + n ≤ t → z / 2 ^ s % 2 ^ n ≡ z % 2 ^ t / 2 ^ s % 2 ^ n
cut z s n t fit =
    let e : (t - s) + s ≡ t = omega (arith, fit) in
    let f : (t - s - n) + n ≡ t - s = omega (arith, fit) in
    sym (narrower (z / 2 ^ s) (t - s - n) n) ∙ ap (λ (k : ℕ). z / 2 ^ s % 2 ^ k % 2 ^ n) f ∙ ap (λ (v : ℕ). v % 2 ^ n) (sym (field_of z (t - s) s)) ∙ ap (λ (k : ℕ). z % 2 ^ k / 2 ^ s % 2 ^ n) e

low_field : (x y s n t : ℕ) → s + n ≤ t → x % 2 ^ t ≡ y % 2 ^ t → x / 2 ^ s % 2 ^ n ≡ y / 2 ^ s % 2 ^ n
low_field x y s n t fit same = cut x s n t fit ∙ ap (λ (v : ℕ). v / 2 ^ s % 2 ^ n) same ∙ sym (cut y s n t fit)

-- one above it by those above
high_field : (x y s n t : ℕ) → t ≤ s → x / 2 ^ t ≡ y / 2 ^ t → x / 2 ^ s % 2 ^ n ≡ y / 2 ^ s % 2 ^ n
high_field x y s n t high same =
    let e : s ≡ t + (s - t) = omega (arith, high) in
    ap (λ (k : ℕ). x / 2 ^ k % 2 ^ n) e ∙ ap (λ (v : ℕ). v % 2 ^ n) (sym (shr-shr x t (s - t)) ∙ ap (λ (v : ℕ). v / 2 ^ (s - t)) same ∙ shr-shr y t (s - t)) ∙ ap (λ (k : ℕ). y / 2 ^ k % 2 ^ n) (sym e)

below : (a b : ℕ) → nat_lt a b ≡ true → a < b
below a b is = grind (arith, nat_tests)

not_below : (a b : ℕ) → nat_lt a b ≡ false → b ≤ a
not_below a b is = grind (arith, nat_tests)

-- bits of one word that overlap share a bit
shared : (a b : Bits) → a.word ≡ b.word → a.start ≤ b.end → b.start ≤ a.end → a.start ≤ a.end → b.start ≤ b.end → ShareNoBit a b → ⊥
shared a b same low high own other apart = elim (cases_Bool (nat_lt a.start b.start)) [
  | inl is ↦ (let p = below a.start b.start is in apart a.word b.start (record { in_word = refl; low = omega (arith, p); high = high }) (record { in_word = same; low = omega arith; high = other }))
  | inr is ↦ (let p = not_below a.start b.start is in apart a.word a.start (record { in_word = refl; low = omega arith; high = own }) (record { in_word = same; low = p; high = low }))
]

other_number : (w : ℕ) (a b : Bits) (v : ℤ) → IsInWord a → IsWithinBits b v → a.word ≡ b.word → ShareNoBit a b → number_in (put_in w b v) a ≡ number_in w a
other_number w a b v own within same apart =
    let n = b.end - b.start + 1 in
    let code = coded_in v (b.end - b.start + 1) in
    let small = coded-below b v within in
    elim (cases_Bool (nat_lt a.end b.start)) [
      | inl is ↦ (let p = below a.end b.start is in let o = own.ordered in
          ap (λ (f : ℕ). number_of_field f a.signed (a.end - a.start)) (low_field (put_in w b v) w a.start (a.end - a.start + 1) b.start (omega (arith, p, o)) (put-low w b.start n code)))
      | inr low ↦ elim (cases_Bool (nat_lt b.end a.start)) [
        | inl is ↦ (let p = below b.end a.start is in let o = within.in_word.ordered in
            ap (λ (f : ℕ). number_of_field f a.signed (a.end - a.start)) (high_field (put_in w b v) w a.start (a.end - a.start + 1) (b.start + n) (omega (arith, p, o)) (put-high w b.start n code small)))
        | inr high ↦ absurd (shared a b same (not_below b.end a.start high) (not_below a.end b.start low) own.ordered within.in_word.ordered apart)
      ]
    ]

-- the words with a number in some bits
abbrev pub with_number : List ℕ → Bits → ℤ → List ℕ
with_number words b v = slice_set words b.word (put_in (slice_index_or words b.word 0) b v)

pub own_kept : (words : List ℕ) (b : Bits) (v : ℤ) → b.word < length words → IsWithinBits b v → number_at (with_number words b v) b ≡ v
own_kept words b v low within = ap (λ (w : ℕ). number_in w b) (get_or-set_same words b.word (put_in (slice_index_or words b.word 0) b v) 0 low) ∙ put_get (slice_index_or words b.word 0) b v within

pub other_kept : (words : List ℕ) (a b : Bits) (v : ℤ) → b.word < length words → IsInWord a → IsWithinBits b v → ShareNoBit a b → number_at (with_number words b v) a ≡ number_at words a
other_kept words a b v low own within apart = elim (cases_eq a.word b.word) [
  | inl same ↦ (ap (λ (k : ℕ). number_in (slice_index_or (with_number words b v) k 0) a) same ∙ ap (λ (w : ℕ). number_in w a) (get_or-set_same words b.word (put_in (slice_index_or words b.word 0) b v) 0 low)
      ∙ other_number (slice_index_or words b.word 0) a b v own within same apart ∙ ap (λ (k : ℕ). number_in (slice_index_or words k 0) a) (sym same))
  | inr other ↦ ap (λ (w : ℕ). number_in w a) (get_or-set_other words b.word a.word (put_in (slice_index_or words b.word 0) b v) 0 other)
]

-- each word that a layout names is there
pub word_there : (layout : List Bits) (k : ℕ) (b : Bits) → slice_get layout k ≡ Some b → b.word < words_of layout
word_there [] k b at = absurd (let f : ⊥ = cc in f)
word_there (a ∷ rest) zero b at = let e = ap (λ (x : Bits). x.word) (same_Some a b at) in omega (arith, e)
word_there (a ∷ rest) (suc k) b at = let low = word_there rest k b at in omega (arith, low)

-- the others of a list of bits are kept all
all_kept : (words : List ℕ) (b : Bits) (v : ℤ) (layout : List Bits) → b.word < length words → IsWithinBits b v → ((k : ℕ) (a : Bits) → slice_get layout k ≡ Some a → IsInWord a × ShareNoBit a b) → scalars_in (with_number words b v) layout ≡ scalars_in words layout
all_kept words b v [] low within each = refl
all_kept words b v (a ∷ rest) low within each =
    let head = each 0 a refl in
    ap (λ (x : ℤ). x ∷ scalars_in (with_number words b v) rest) (other_kept words a b v low head.0 within head.1)
    ∙ ap (λ (xs : List ℤ). number_at words a ∷ xs) (all_kept words b v rest low within (λ k x at. each (suc k) x at))

flipped : (a b : Bits) → ShareNoBit a b → ShareNoBit b a
flipped a b apart word bit one other = apart word bit other one

-- one scalar is written, and no other
pub scalar_put : (words : List ℕ) (layout : List Bits) (k : ℕ) (b : Bits) (v : ℤ) → slice_get layout k ≡ Some b → b.word < length words → IsWithinBits b v → ((j : ℕ) (a : Bits) → slice_get layout j ≡ Some a → IsInWord a)
    → ((j : ℕ) (a : Bits) → j ≢ k → slice_get layout j ≡ Some a → ShareNoBit a b) → scalars_in (with_number words b v) layout ≡ slice_set (scalars_in words layout) k v
scalar_put words [] k b v at low within own apart = absurd (let f : ⊥ = cc in f)
scalar_put words (a ∷ rest) zero b v at low within own apart =
    let same : a ≡ b = same_Some a b at in
    ap (λ (x : ℤ). x ∷ scalars_in (with_number words b v) rest) (ap (number_at (with_number words b v)) same ∙ own_kept words b v low within)
    ∙ ap (λ (xs : List ℤ). v ∷ xs) (all_kept words b v rest low within (λ j x there. (own (suc j) x there, apart (suc j) x (λ e. let f : ⊥ = omega (arith, e) in f) there)))
scalar_put words (a ∷ rest) (suc k) b v at low within own apart =
    ap (λ (x : ℤ). x ∷ scalars_in (with_number words b v) rest) (other_kept words a b v low (own 0 a refl) within (apart 0 a (λ e. let f : ⊥ = omega (arith, e) in f) refl))
    ∙ ap (λ (xs : List ℤ). number_at words a ∷ xs) (scalar_put words rest k b v at low within (λ j x there. own (suc j) x there) (λ j x other there. apart (suc j) x (λ e. other (omega (arith, e))) there))

-- The number of a powerset that tells of an offset.
use Rattle.std.proofs.Common.{◌≡◌, ℕ, zero, suc, ◌+◌, ◌-◌, ◌/◌, ◌%◌, ◌<◌, ◌≤◌, List, [], ◌∷◌, ℤ, pos, min, length, get_or, drop, drop-cons, false, refl, ap, sym, ◌∙◌, inl, inr, arith}
use Rattle.std.proofs.lemmas.Bool.{cases_lt, lt-ltb, le-ltb}
use Rattle.number_operators.proofs.PowersetWords.{complement_capped}
use Rattle.scalar_operators.specs.Powersets.{has_member}
use Rattle.scalar_operators.specs.Powersets.{complement_in}
use Rattle.scalar_operators.specs.Members.{has_member_at, by_pairs, complement_of}

pub member_there : (k : ℕ) (xs : List ℤ) (d : ℤ) → k / 32 < length xs → has_member_at k xs ≡ has_member (get_or xs (k / 32) d) (k % 32)
member_there k [] d there = absurd (omega (arith, there))
member_there k (x ∷ xs) d there = elim (cases_lt k 32) [
  | inl less ↦ (let first : k / 32 ≡ 0 = omega (arith, less) in let bit : k % 32 ≡ k = omega (arith, less) in rw (lt-ltb k 32 less, first, bit) refl)
  | inr more ↦ (
      let next : k / 32 ≡ suc ((k - 32) / 32) = omega (arith, more) in
      let bit : k % 32 ≡ (k - 32) % 32 = omega (arith, more) in
      rw (le-ltb k 32 more, next, bit) (member_there (k - 32) xs d (omega (arith, there, next))))
]

pub member_read : (k : ℕ) (xs : List ℤ) (z : ℤ) → k / 32 < length xs → z ≡ get_or xs (k / 32) (pos 0) → has_member z (k % 32) ≡ has_member_at k xs
member_read k xs z there same = ap (λ (y : ℤ). has_member y (k % 32)) same ∙ sym (member_there k xs (pos 0) there)

pub member_beyond : (k : ℕ) (xs : List ℤ) → length xs ≤ k / 32 → has_member_at k xs ≡ false
member_beyond k [] beyond = refl
member_beyond k (x ∷ xs) beyond = elim (cases_lt k 32) [
  | inl less ↦ absurd (omega (arith, beyond, less))
  | inr more ↦ (
      let next : k / 32 ≡ suc ((k - 32) / 32) = omega (arith, more) in
      rw (le-ltb k 32 more) (member_beyond (k - 32) xs (omega (arith, beyond, next))))
]

-- ---- lists from an index on

pub pairs_more : (f : ℤ → ℤ → ℤ) (i : ℕ) (xs ys : List ℤ) (d : ℤ) → i < length xs → i < length ys
    → by_pairs f (drop i xs) (drop i ys) ≡ f (get_or xs i d) (get_or ys i d) ∷ by_pairs f (drop (i + 1) xs) (drop (i + 1) ys)
pairs_more f i xs ys d here there =
    ap (λ (l : List ℤ). by_pairs f l (drop i ys)) (drop-cons xs i d here) ∙ ap (λ (l : List ℤ). by_pairs f (get_or xs i d ∷ drop (suc i) xs) l) (drop-cons ys i d there)
    ∙ (let next : suc i ≡ i + 1 = omega arith in ap (λ (j : ℕ). f (get_or xs i d) (get_or ys i d) ∷ by_pairs f (drop j xs) (drop j ys)) next)

pairs_none : (f : ℤ → ℤ → ℤ) (xs : List ℤ) → by_pairs f xs [] ≡ []
pairs_none f [] = refl
pairs_none f (x ∷ xs) = refl

drop_none : (i : ℕ) → drop {A = ℤ} i [] ≡ []
drop_none zero = refl
drop_none (suc i) = refl

drop_all : (i : ℕ) (ys : List ℤ) → length ys ≤ i → drop i ys ≡ []
drop_all i [] beyond = drop_none i
drop_all zero (y ∷ ys) beyond = absurd (omega (arith, beyond))
drop_all (suc i) (y ∷ ys) beyond = drop_all i ys (omega (arith, beyond))

pub pairs_end : (f : ℤ → ℤ → ℤ) (i : ℕ) (xs ys : List ℤ) → length ys ≤ i → by_pairs f (drop i xs) (drop i ys) ≡ []
pairs_end f i xs ys beyond = ap (λ (l : List ℤ). by_pairs f (drop i xs) l) (drop_all i ys beyond) ∙ pairs_none f (drop i xs)

first_capped : (count : ℕ) (x : ℤ) → complement_in (min count 32) x ≡ complement_in count x
first_capped count x = elim (cases_lt count 32) [
  | inl less ↦ (let same : min count 32 ≡ count = omega (arith, less) in ap (λ (n : ℕ). complement_in n x) same)
  | inr more ↦ (let same : min count 32 ≡ 32 = omega (arith, more) in ap (λ (n : ℕ). complement_in n x) same ∙ complement_capped count x more)
]

pub complement_more : (count i : ℕ) (xs : List ℤ) (d : ℤ) → i < length xs → complement_of count (drop i xs) ≡ complement_in (min count 32) (get_or xs i d) ∷ complement_of (count - 32) (drop (i + 1) xs)
complement_more count i xs d here =
    ap (λ (l : List ℤ). complement_of count l) (drop-cons xs i d here)
    ∙ (let next : suc i ≡ i + 1 = omega arith in ap (λ (j : ℕ). complement_in count (get_or xs i d) ∷ complement_of (count - 32) (drop j xs)) next)
    ∙ ap (λ (x : ℤ). x ∷ complement_of (count - 32) (drop (i + 1) xs)) (sym (first_capped count (get_or xs i d)))

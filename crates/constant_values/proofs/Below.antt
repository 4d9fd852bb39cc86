-- Of the offsets below a number, those that are members: as loops find them, and one offset further.
use Rattle.std.proofs.Common.{◌≡◌, ℕ, zero, suc, ◌+◌, ◌<◌, ◌≤◌, true, false, Bool, Some, None, refl, inl, inr, arith}
use Rattle.std.specs.Prelude.{if◌then◌else◌}
use Rattle.std.proofs.lemmas.Bool.{cases_lt}
use Rattle.constant_values.specs.Sets.{count_below, least_below, included_below}

count_more : (b : Bool) (m n : ℕ) → m ≤ n → m + (if b then 1 else 0) ≤ suc n
count_more true m n few = omega (arith, few)
count_more false m n few = omega (arith, few)

pub count_few : (f : ℕ → Bool) (n : ℕ) → count_below f n ≤ n
count_few f zero = omega arith
count_few f (suc n) = count_more (f n) (count_below f n) n (count_few f n)

pub least_found : (f : ℕ → Bool) (k n : ℕ) → least_below f k ≡ None → f k ≡ true → k < n → least_below f n ≡ Some k
least_found f k zero none here less = absurd (omega (arith, less))
least_found f k (suc n) none here less = elim (cases_lt k n) [
  | inl before ↦ rw (least_found f k n none here before) refl
  | inr at ↦ (let same : n ≡ k = omega (arith, less, at) in rw (same, none, here) refl)
]

pub included_fails : (f g : ℕ → Bool) (k n : ℕ) → f k ≡ true → g k ≡ false → k < n → included_below f g n ≡ false
included_fails f g k zero here there less = absurd (omega (arith, less))
included_fails f g k (suc n) here there less = elim (cases_lt k n) [
  | inl before ↦ rw (included_fails f g k n here there before) refl
  | inr at ↦ (let same : n ≡ k = omega (arith, less, at) in rw (same, here, there) (grind arith))
]

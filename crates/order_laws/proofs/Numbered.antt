-- What holds of each of a list by its number.
use Rattle.std.proofs.Common.{◌≡◌, ℕ, zero, suc, ◌+◌, List, [], ◌∷◌, ◌++◌, length, Some, arith, subst}
use Rattle.std.specs.Prelude.{slice_get}
use Rattle.elaborated_laws.proofs.Told.{no_some, same_some}

-- numbered from the first on
abbrev pub EachAt : {A : Type 0} → (ℕ → A → Type 0) → ℕ → List A → Type 0
EachAt P from [] = Unit {0}
EachAt P from (x ∷ xs) = P from x × EachAt P (suc from) xs

pub at_moved : {A : Type 0} (P : ℕ → A → Type 0) (m n : ℕ) (xs : List A) → m ≡ n → EachAt P m xs → EachAt P n xs
at_moved P m n xs same each = subst (λ k. EachAt P k xs) same each

pub at_first : {A : Type 0} (P : ℕ → A → Type 0) (from : ℕ) (xs ys : List A) → EachAt P from (xs ++ ys) → EachAt P from xs
at_first P from [] ys each = tt
at_first P from (x ∷ xs) ys each = (each.0, at_first P (suc from) xs ys each.1)

pub at_later : {A : Type 0} (P : ℕ → A → Type 0) (from : ℕ) (xs ys : List A) → EachAt P from (xs ++ ys) → EachAt P (from + length xs) ys
at_later P from [] ys each = let same : from ≡ from + 0 = omega arith in at_moved P from (from + 0) ys same each
at_later P from (x ∷ xs) ys each = let same : suc from + length xs ≡ from + suc (length xs) = omega arith in at_moved P (suc from + length xs) (from + suc (length xs)) ys same (at_later P (suc from) xs ys each.1)

pub at_both : {A : Type 0} (P : ℕ → A → Type 0) (from : ℕ) (xs ys : List A) → EachAt P from xs → EachAt P (from + length xs) ys → EachAt P from (xs ++ ys)
at_both P from [] ys first later = let same : from + 0 ≡ from = omega arith in at_moved P (from + 0) from ys same later
at_both P from (x ∷ xs) ys first later = let same : from + suc (length xs) ≡ suc from + length xs = omega arith in (first.0, at_both P (suc from) xs ys first.1 (at_moved P (from + suc (length xs)) (suc from + length xs) ys same later))

pub at_number : {A : Type 0} (P : ℕ → A → Type 0) (from k : ℕ) (xs : List A) (x : A) → EachAt P from xs → slice_get xs k ≡ Some x → P (from + k) x
at_number P from k [] x each is = no_some x is
at_number P from zero (y ∷ xs) x each is = let same : from ≡ from + 0 = omega arith in subst (λ n. P n x) same (subst (P from) (same_some y x is) each.0)
at_number P from (suc k) (y ∷ xs) x each is = let same : suc from + k ≡ from + suc k = omega arith in subst (λ n. P n x) same (at_number P (suc from) k xs x each.1 is)

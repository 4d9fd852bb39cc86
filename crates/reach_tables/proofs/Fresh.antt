-- Numbers that go on are each there once.
use Rattle.std.proofs.Common.{◌≡◌, ℕ, zero, suc, ◌≤◌, Bool, true, false, List, [], ◌∷◌, ◌++◌, append-nil, append_assoc, refl, ap, sym, ◌∙◌, if◌then◌else◌, arith}
use Rattle.std.specs.Prelude.{◌||◌, ◌==◌}
use Rattle.std.specs.List.{filter}
use Rattle.std.proofs.lemmas.Bool.{ne_eqb}
use Rattle.names_model.specs.Definitions.{numbers_on}
use Rattle.names_model.specs.Entries.{once_behind, is_among}
use Rattle.reach_tables.proofs.Noting.{any-behind}

-- no number from one on is there
pub record Fresh (xs : List ℕ) (from : ℕ) : Type 0 where
  pub by : (d : ℕ) → from ≤ d → is_among d xs ≡ false

pub fresh-none : (from : ℕ) → Fresh [] from
fresh-none from = record { by = λ d h. refl }

fresh-more : (xs : List ℕ) (from : ℕ) → Fresh xs from → Fresh (xs ++ from ∷ []) (suc from)
fresh-more xs from f = record {
  by = λ d h. let before : is_among d xs ≡ false = f.by d (omega arith) in
      any-behind (λ e. e == d) xs from ∙ ap (λ b. b || (from == d)) before ∙ ne_eqb from d (λ e. absurd (omega arith));
}

fresh-less : (xs : List ℕ) (from : ℕ) → Fresh xs from → Fresh xs (suc from)
fresh-less xs from f = record { by = λ d h. f.by d (omega arith) }

step : (b : Bool) (xs rest : List ℕ) (from : ℕ) → is_among from xs ≡ false → once_behind (xs ++ from ∷ []) rest ≡ (xs ++ from ∷ []) ++ rest → once_behind xs rest ≡ xs ++ rest
    → once_behind xs (if b then from ∷ rest else rest) ≡ xs ++ (if b then from ∷ rest else rest)
step true xs rest from f with' without = ap (λ b. once_behind (if b then xs else xs ++ from ∷ []) rest) f ∙ with' ∙ append_assoc xs (from ∷ []) rest
step false xs rest from f with' without = without

pub once-fresh : (p : ℕ → Bool) (xs : List ℕ) (from count : ℕ) → Fresh xs from → once_behind xs (filter p (numbers_on from count)) ≡ xs ++ filter p (numbers_on from count)
once-fresh p xs from zero f = sym (append-nil xs)
once-fresh p xs from (suc count) f = step (p from) xs (filter p (numbers_on (suc from) count)) from (f.by from (omega arith))
    (once-fresh p (xs ++ from ∷ []) (suc from) count (fresh-more xs from f)) (once-fresh p xs (suc from) count (fresh-less xs from f))

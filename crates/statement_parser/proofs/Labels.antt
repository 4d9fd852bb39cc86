-- Whether two names are one.
use Rattle.std.proofs.Common.{◌≡◌, ℕ, Bool, true, false, cond, eqb, List, [], ◌∷◌, refl, sym, IsTrue, ◌↔◌}
use Rattle.std.proofs.lemmas.Bool.{eqb-true}
use Rattle.rules_model.specs.StatementReading.{same_name}
use Rattle.rules_model.proofs.Names.{same_equal}

name_step : (b : Bool) (x y : ℕ) (xs ys : List ℕ) → eqb x y ≡ b → cond b (same_name xs ys) false ≡ true → (same_name xs ys ≡ true → xs ≡ ys) → (x ∷ xs) ≡ (y ∷ ys)
name_step true x y xs ys e h ih = let p = eqb-true x y e in let q = ih h in cc
name_step false x y xs ys e h ih = absurd cc

same_true : (a b : List ℕ) → same_name a b ≡ true → a ≡ b
same_true [] [] h = refl
same_true [] (y ∷ ys) h = absurd cc
same_true (x ∷ xs) [] h = absurd cc
same_true (x ∷ xs) (y ∷ ys) h = name_step (eqb x y) x y xs ys refl h (same_true xs ys)

not_same : (c : Bool) → (c ≡ true → ⊥) → false ≡ c
not_same false h = refl
not_same true h = absurd (h refl)

pub same_tested : (b : Bool) (s t : List ℕ) → IsTrue b ↔ (s ≡ t) → b ≡ same_name s t
same_tested true s t h = sym (same_equal s t (h.0 refl))
same_tested false s t h = not_same (same_name s t) (λ e. let k = h.1 (same_true s t e) in cc)

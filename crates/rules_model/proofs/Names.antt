-- Whether two names are one.
use Rattle.std.proofs.Common.{◌≡◌, ℕ, true, List, [], ◌∷◌, refl, ap, ◌∙◌, sym}
use Rattle.std.proofs.lemmas.Bool.{eq-eqb}
use Rattle.rules_model.specs.StatementReading.{same_name}

same_self : (a : List ℕ) → same_name a a ≡ true
same_self [] = refl
same_self (x ∷ xs) = rw (eq-eqb x x refl) (same_self xs)

pub same_equal : (a b : List ℕ) → a ≡ b → same_name a b ≡ true
same_equal a b e = ap (same_name a) (sym e) ∙ same_self a

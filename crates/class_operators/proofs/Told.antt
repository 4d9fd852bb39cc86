-- What answers a relation is the test that does.
use Rattle.std.proofs.Common.{◌≡◌, refl, sym}
use Rattle.std.specs.Prelude.{Bool, true, false, ◌↔◌, IsTrue}

truth-by : (r s : Bool) → (IsTrue r → IsTrue s) → (IsTrue s → IsTrue r) → r ≡ s
truth-by true true f g = refl
truth-by true false f g = sym (f refl)
truth-by false true f g = g refl
truth-by false false f g = refl

pub by_test : {P : Type 0} (r s : Bool) → (IsTrue s ↔ P) → (IsTrue r ↔ P) → r ≡ s
by_test r s t u = truth-by r s (λ h. t.1 (u.0 h)) (λ h. u.1 (t.0 h))

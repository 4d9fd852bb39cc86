-- Scalars that are pushed one by one, as many as are asked for.
use Rattle.std.proofs.Common.{◌≡◌, ℕ, zero, suc, ◌+◌, ◌-◌, ◌<◌, ◌≤◌, List, [], ◌∷◌, ◌++◌, ℤ, pos, length, get_or, drop, refl, sym, ap, ◌∙◌, subst, arith, add-one}
use Rattle.code_types.specs.declared.code.Code.{Code}
use Rattle.code_types.specs.declared.instr.Instr.{Instr}
use Rattle.code_types.specs.declared.instr.Instr.TheVariants as i
use Rattle.code_scheme.specs.Pieces.{pushes, fitted}
use Rattle.expr_gen.specs.Putting.{Appends}
use Rattle.expr_gen.proofs.Appending.{StillTo, step, done}

-- the next one
next_fitted : (m k : ℕ) (xs : List ℤ) → fitted (suc m) (drop k xs) ≡ get_or xs k (pos 0) ∷ fitted m (drop (suc k) xs)
next_fitted m zero [] = refl
next_fitted m zero (x ∷ xs) = refl
next_fitted m (suc k) [] = refl
next_fitted m (suc k) (x ∷ xs) = next_fitted m k xs

fitted_at : (n k : ℕ) (xs : List ℤ) → k < n → fitted (n - k) (drop k xs) ≡ get_or xs k (pos 0) ∷ fitted (n - (k + 1)) (drop (k + 1) xs)
fitted_at n k xs h =
    let more : n - k ≡ suc (n - (k + 1)) = omega (arith, h) in
    let next : suc k ≡ k + 1 = omega arith in
    ap (λ (m : ℕ). fitted m (drop k xs)) more ∙ next_fitted (n - (k + 1)) k xs ∙ ap (λ (j : ℕ). get_or xs k (pos 0) ∷ fitted (n - (k + 1)) (drop j xs)) next

pub fitted_turn : {a : ℕ → List Instr} {m : ℕ} (n k : ℕ) (xs : List ℤ) (x : ℤ) {y z w : Code} → k < n → x ≡ get_or xs k (pos 0)
    → StillTo a m (λ at. pushes (fitted (n - k) (drop k xs))) (n - k) y z
    → Appends (i.Push x ∷ []) 1 z w
    → StillTo a m (λ at. pushes (fitted (n - (k + 1)) (drop (k + 1) xs))) (n - (k + 1)) y w
fitted_turn {a} {m} n k xs x {y} {z} {w} h e p q =
    step (λ at. pushes (fitted (n - (k + 1)) (drop (k + 1) xs))) (n - (k + 1)) (ap pushes (fitted_at n k xs h)) (omega (arith, h)) p
    (subst (λ (v : ℤ). Appends (i.Push v ∷ []) 1 z w) e q)

pub fitted_done : {a : ℕ → List Instr} {m : ℕ} (n k : ℕ) (xs : List ℤ) {y z : Code} → n ≤ k
    → StillTo a m (λ at. pushes (fitted (n - k) (drop k xs))) (n - k) y z → Appends (a (length y.instrs)) m y z
fitted_done n k xs h p =
    let none : n - k ≡ 0 = omega (arith, h) in
    done p (ap (λ (j : ℕ). pushes (fitted j (drop k xs))) none) none

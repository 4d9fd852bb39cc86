use Rattle.std.proofs.Common.{◌≡◌, ◌-◌, ◌≤◌, ℕ, List, [], ◌∷◌, length, get_or, Some, arith, refl, sym, ap, ◌∙◌}
use Rattle.world_model.specs.Lists.{last_of}
use Rattle.world_model.proofs.changes.last.Goals as goal

-- the last item stands at the last place
last_at : (x : ℕ) (xs : List ℕ) → last_of (x ∷ xs) ≡ Some (get_or (x ∷ xs) (length xs) 0)
last_at x [] = refl
last_at x (y ∷ xs) = last_at y xs

last_is : (xs : List ℕ) → 1 ≤ length xs → Some (get_or xs (length xs - 1) 0) ≡ last_of xs
last_is [] low = absurd (let f : ⊥ = omega arith in f)
last_is (x ∷ xs) low = let e : length (x ∷ xs) - 1 ≡ length xs = omega arith in ap (λ (n : ℕ). Some (get_or (x ∷ xs) n 0)) e ∙ sym (last_at x xs)

pub returns-in-len1-up : goal.returns-in-len1-up
returns-in-len1-up c = last_is c.args.regions.now (omega arith)

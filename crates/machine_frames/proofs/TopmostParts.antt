-- Parts of the topmost numbers.
use Rattle.std.proofs.Common.{◌≡◌, ℕ, ◌+◌, ◌-◌, ◌≤◌, List, ◌∷◌, [], ◌++◌, ℤ, length, take, drop, refl, ap, sym, ◌∙◌, subst, arith, append_assoc}
use Rattle.std.proofs.lemmas.List.{drop-drop, drop-take, take-append-drop, take_rest}
use Rattle.std.proofs.lemmas.Grind.{common_steps}
use Rattle.std.specs.List.{slice_range}
use Rattle.code_types.specs.Operands.{topmost, below_topmost}

-- the first numbers of the first ones
take_of_take : (count m : ℕ) (xs : List ℤ) → count ≤ m → take count (take m xs) ≡ take count xs
take_of_take count m xs h = grind (arith, common_steps)

-- a part of the first numbers is that part of all
pub part_within : (k count of : ℕ) (xs : List ℤ) → k + count ≤ of → take count (drop k (take of xs)) ≡ take count (drop k xs)
part_within k count of xs h =
    let split : of ≡ k + (of - k) = omega arith in
    ap (λ (n : ℕ). take count (drop k (take n xs))) split ∙ ap (take count) (drop-take k (of - k) xs) ∙ take_of_take count (of - k) (drop k xs) (omega arith)

-- the topmost number of some topmost ones
pub topmost_of_topmost : (of : ℕ) (s : List ℤ) (x : ℤ) → 1 + of ≤ length s → topmost 1 s ≡ x ∷ [] → drop of (topmost (1 + of) s) ≡ x ∷ []
topmost_of_topmost of s x h one =
    let place : (length s - (1 + of)) + of ≡ length s - 1 = omega arith in
    drop-drop of (length s - (1 + of)) s ∙ ap (λ (n : ℕ). drop n s) place ∙ one

-- the topmost numbers again, behind all
pub topmost_again : (n : ℕ) (s : List ℤ) → below_topmost n s ++ (topmost n s ++ topmost n s) ≡ s ++ slice_range s (length s - n) (length s)
topmost_again n s =
    let k = length s - n in
    sym (append_assoc (take k s) (drop k s) (drop k s)) ∙ ap (λ (xs : List ℤ). xs ++ drop k s) (take-append-drop k s) ∙ ap (λ (xs : List ℤ). s ++ xs) (sym (take_rest s k))

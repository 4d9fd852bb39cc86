-- A front that passes a test, byte by byte.
use Rattle.std.proofs.Common.{◌≡◌, ◌<◌, ◌+◌, ℕ, zero, suc, Bool, true, false, List, [], ◌∷◌, length, get_or, refl, sym, arith}
use Rattle.std.specs.List.{prefix_len}

-- every place below the end passes, and the end doesn't
pub prefix_stops : (p : ℕ → Bool) (xs : List ℕ) (n : ℕ) → ((k : ℕ) → k < n → p (get_or xs k 0) ≡ true) → n < length xs → p (get_or xs n 0) ≡ false → n ≡ prefix_len p xs
prefix_stops p [] n passes low stop = absurd (let f : ⊥ = omega arith in f)
prefix_stops p (x ∷ xs) zero passes low stop = let e : prefix_len p (x ∷ xs) ≡ 0 = rw stop refl in sym e
prefix_stops p (x ∷ xs) (suc n) passes low stop =
    let e : prefix_len p (x ∷ xs) ≡ 1 + prefix_len p xs = rw (passes 0 (omega arith)) refl in
    let rest = prefix_stops p xs n (λ k below. passes (suc k) (omega arith)) (omega arith) stop in
    omega arith

pub prefix_all : (p : ℕ → Bool) (xs : List ℕ) (n : ℕ) → length xs ≡ n → ((k : ℕ) → k < n → p (get_or xs k 0) ≡ true) → n ≡ prefix_len p xs
prefix_all p [] n is passes = omega arith
prefix_all p (x ∷ xs) zero is passes = absurd (let f : ⊥ = omega arith in f)
prefix_all p (x ∷ xs) (suc n) is passes =
    let e : prefix_len p (x ∷ xs) ≡ 1 + prefix_len p xs = rw (passes 0 (omega arith)) refl in
    let rest = prefix_all p xs n (omega arith) (λ k below. passes (suc k) (omega arith)) in
    omega arith

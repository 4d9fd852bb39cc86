-- The members of a powerset, offset by offset.
use Rattle.std.proofs.Common.{◌≡◌, ℕ, zero, suc, ◌+◌, ◌-◌, ◌<◌, List, [], ◌∷◌, ℤ, Option, Some, None, refl, ap, sym, ◌∙◌, arith}
use Rattle.scalar_operators.specs.Powersets.{has_member, numbers_up, last_of_list}

-- the offsets from one on are that offset and those from the next on
pub offsets_more : (k n : ℕ) → k < n → numbers_up k (n - k) ≡ k ∷ numbers_up (k + 1) (n - (k + 1))
offsets_more k n less =
    let count : n - k ≡ suc (n - (k + 1)) = omega arith in
    let next : suc k ≡ k + 1 = omega arith in
    ap (λ (m : ℕ). numbers_up k m) count ∙ ap (λ (m : ℕ). k ∷ numbers_up m (n - (k + 1))) next

-- the last of some offsets, where another may stand before them
abbrev pub last_behind : Option ℕ → List ℕ → Option ℕ
last_behind last [] = last
last_behind last (k ∷ ks) = last_behind (Some k) ks

pub last_behind_one : (k : ℕ) (ks : List ℕ) → last_behind (Some k) ks ≡ last_of_list (k ∷ ks)
last_behind_one k [] = refl
last_behind_one k (j ∷ ks) = last_behind_one j ks

pub last_behind_none : (ks : List ℕ) → last_of_list ks ≡ last_behind None ks
last_behind_none [] = refl
last_behind_none (k ∷ ks) = sym (last_behind_one k ks)

-- Members of lists.
use Rattle.std.proofs.Common.{◌≡◌, ◌<◌, ◌≤◌, ◌+◌, ◌⊎◌, inl, inr, ℕ, zero, suc, Bool, true, false, List, [], ◌∷◌, ◌++◌, length, set, replicate, refl, sym, ap, subst, ◌∙◌, arith, length-append, below_more}
use Rattle.std.specs.Prelude.{slice_index_or, not}
use Rattle.std.specs.List.{All, Contains}
use Rattle.std.proofs.lemmas.List.Elements.{All-contains_itself, All-weaker, Contains-push, Contains-append_left}

pub none_in : (d : ℕ) → Contains [] d → ⊥
none_in d c = let h : c.0 < 0 = c.1 in omega arith

pub here_in : (x : ℕ) (xs : List ℕ) (d : ℕ) → x ≡ d → Contains (x ∷ xs) d
here_in x xs d e = (0, omega arith, e)

pub later_in : (x : ℕ) (xs : List ℕ) (d : ℕ) → Contains xs d → Contains (x ∷ xs) d
later_in x xs d c = (suc c.0, (let h : c.0 < length xs = c.1 in omega arith), c.2)

pub in_cases : (x : ℕ) (xs : List ℕ) (d : ℕ) → Contains (x ∷ xs) d → (x ≡ d) ⊎ Contains xs d
in_cases x xs d c = by c.0 c.1 c.2
  where
    by : (k : ℕ) → k < length (x ∷ xs) → slice_index_or (x ∷ xs) k d ≡ d → (x ≡ d) ⊎ Contains xs d
    by zero lt e = inl e
    by (suc k) lt e = inr (k, omega arith, e)

pub all_of : (P : ℕ → Type 0) (xs : List ℕ) → ((d : ℕ) → Contains xs d → P d) → All P xs
all_of P xs each = All-weaker (Contains xs) P each xs (All-contains_itself xs)

pub not_empty : (xs : List ℕ) (d : ℕ) → ¬ (xs ++ d ∷ [] ≡ [])
not_empty [] d e = cc
not_empty (x ∷ xs) d e = cc

pub each_below_more : (nodes next : List ℕ) (n : ℕ) → next ≡ nodes ++ n ∷ [] → ((d : ℕ) → d < n → Contains nodes d) → (d : ℕ) → d < n + 1 → Contains next d
each_below_more nodes next n same each = subst (λ (ds : List ℕ). (d : ℕ) → d < n + 1 → Contains ds d) (sym same) (below_more (Contains (nodes ++ n ∷ [])) n (λ d less. Contains-append_left nodes (n ∷ []) d (each d less)) (Contains-push nodes n))

pub from_not : (b : Bool) → not b ≡ false → b ≡ true
from_not true h = refl
from_not false h = cc

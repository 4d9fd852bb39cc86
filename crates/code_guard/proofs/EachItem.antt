-- What holds of each item of a list.
use Rattle.std.proofs.Common.{◌≡◌, ℕ, ◌+◌, ◌<◌, ◌≤◌, ◌⊎◌, inl, inr, List, length, Some, slice_get, All, subst, get_or, ap, sym, ◌∙◌, arith}
use Rattle.std.proofs.lemmas.Option.{slice_get-get_or, slice_get_within, get_or_from_slice_get, slice_get_cases}

pub all_at : {X : Type 0} (P : X → Type 0) (xs : List X) (i : ℕ) (x : X) → All P xs → slice_get xs i ≡ Some x → P x
all_at P xs i x h e = subst P (get_or_from_slice_get xs i x x e) (h i x (slice_get_within xs i x e))

pub all_of : {X : Type 0} (P : X → Type 0) (xs : List X) → ((i : ℕ) (x : X) → slice_get xs i ≡ Some x → P x) → All P xs
all_of P xs h = λ k d low. h k (get_or xs k d) (slice_get-get_or xs k d low)

-- the item at an index, or the index is past the end
pub item_or_past : {X : Type 0} (xs : List X) (i : ℕ) → ((x : X) × (slice_get xs i ≡ Some x)) ⊎ (length xs ≤ i)
item_or_past xs i = elim (slice_get_cases xs i).1 [ inl h ↦ inl (h.0, h.2) | inr h ↦ inr h.0 ]

-- one more item
pub each_item : {X : Type 0} (P : X → Type 0) (xs : List X) (n : ℕ) (x : X) → ((k : ℕ) (y : X) → k < n → slice_get xs k ≡ Some y → P y) → slice_get xs n ≡ Some x → P x → (k : ℕ) (y : X) → k < n + 1 → slice_get xs k ≡ Some y → P y
each_item {X} P xs n x each e here k y low f = by-order (order k n low)
  where
    order : (m n : ℕ) → m < n + 1 → (m < n) ⊎ (m ≡ n)
    order m n h = grind arith

    by-order : (k < n) ⊎ (k ≡ n) → P y
    by-order (inl h) = each k y h f
    by-order (inr h) = let g : slice_get xs n ≡ Some y = ap (slice_get xs) (sym h) ∙ f in let same : x ≡ y = cc in subst P same here

-- What two lists of the same items share, and how they change together.
use Rattle.std.proofs.Common.{◌≡◌, ◌⊎◌, ℕ, zero, suc, List, [], ◌∷◌, ◌++◌, length, Bool, true, false, refl, sym, ap, ◌∙◌, inl, inr, arith, subst, Some, slice_get}
use Rattle.std.specs.Prelude.{if◌then◌else◌}
use Rattle.std.specs.List.{filter}
use Rattle.std.proofs.lemmas.List.{append-nil, append_assoc, length-append}
use Rattle.std.proofs.lemmas.List.Elements.{filter-append}
use Rattle.kernel_lists.specs.Best.{precedes_in}
use Rattle.world_model.specs.declared.world.StoredValue.{StoredValue}
use Rattle.value_queues.specs.Queues.{placed, rank_of}
use Rattle.kernel_steps.specs.Shuffled.{Shuffled}

pub shuffled_same : {X : Type 0} (xs : List X) → Shuffled xs xs
shuffled_same [] = refl
shuffled_same (x ∷ xs) = ([], xs, refl, shuffled_same xs)

-- what stands in the one list stands in the other
middle_at : {X : Type 0} (front : List X) (x : X) (back : List X) → slice_get (front ++ x ∷ back) (length front) ≡ Some x
middle_at [] x back = refl
middle_at (y ∷ front) x back = middle_at front x back

in_more : {X : Type 0} (front : List X) (x : X) (back : List X) (j : ℕ) (y : X) → slice_get (front ++ back) j ≡ Some y → (i : ℕ) × (slice_get (front ++ x ∷ back) i ≡ Some y)
in_more [] x back j y at = (suc j, at)
in_more (z ∷ front) x back zero y at = (zero, at)
in_more (z ∷ front) x back (suc j) y at = let r = in_more front x back j y at in (suc r.0, r.1)

in_less : {X : Type 0} (front : List X) (x : X) (back : List X) (j : ℕ) (y : X) → slice_get (front ++ x ∷ back) j ≡ Some y → (x ≡ y) ⊎ ((i : ℕ) × (slice_get (front ++ back) i ≡ Some y))
in_less [] x back zero y at = inl (let e : x ≡ y = cc in e)
in_less [] x back (suc j) y at = inr (j, at)
in_less (z ∷ front) x back zero y at = inr (zero, at)
in_less (z ∷ front) x back (suc j) y at = elim (in_less front x back j y at) [
  | inl same ↦ inl same
  | inr old ↦ inr (suc old.0, old.1)
]

pub shuffled_in : {X : Type 0} (xs ys : List X) (k : ℕ) (y : X) → Shuffled xs ys → slice_get xs k ≡ Some y → (j : ℕ) × (slice_get ys j ≡ Some y)
shuffled_in [] ys k y h at = absurd (let f : ⊥ = cc in f)
shuffled_in {X = X} (x ∷ xs) ys zero y h at = (length h.0, ap (λ (l : List X). slice_get l (length h.0)) h.2 ∙ middle_at h.0 x h.1 ∙ at)
shuffled_in {X = X} (x ∷ xs) ys (suc k) y h at =
    let r = shuffled_in xs (h.0 ++ h.1) k y h.3 at in
    let m = in_more h.0 x h.1 r.0 y r.1 in
    (m.0, ap (λ (l : List X). slice_get l m.0) h.2 ∙ m.1)

pub shuffled_from : {X : Type 0} (xs ys : List X) (j : ℕ) (y : X) → Shuffled xs ys → slice_get ys j ≡ Some y → (k : ℕ) × (slice_get xs k ≡ Some y)
shuffled_from {X = X} [] ys j y h at = absurd (let none : slice_get (let l : List X = [] in l) j ≡ Some y = ap (λ (l : List X). slice_get l j) (sym h) ∙ at in let f : ⊥ = cc in f)
shuffled_from {X = X} (x ∷ xs) ys j y h at = elim (in_less h.0 x h.1 j y (ap (λ (l : List X). slice_get l j) (sym h.2) ∙ at)) [
  | inl same ↦ (zero, ap Some same)
  | inr old ↦ (let r = shuffled_from xs (h.0 ++ h.1) old.0 y h.3 old.1 in (suc r.0, r.1))
]

pub shuffled_length : {X : Type 0} (xs ys : List X) → Shuffled xs ys → length xs ≡ length ys
shuffled_length [] ys h = sym (ap length h)
shuffled_length (x ∷ xs) ys h =
    let rest = shuffled_length xs (h.0 ++ h.1) h.3 in
    let all = ap length h.2 in
    omega (arith, rest, all, length-append h.0 h.1, length-append h.0 (x ∷ h.1))

-- the same is left out of both
filtered_by : {X : Type 0} (p : X → Bool) (x : X) (xs front back : List X) (t : Bool) → Shuffled (filter p xs) (filter p front ++ filter p back) → Shuffled (if t then x ∷ filter p xs else filter p xs) (filter p front ++ (if t then x ∷ filter p back else filter p back))
filtered_by p x xs front back true h = (filter p front, filter p back, refl, h)
filtered_by p x xs front back false h = h

pub shuffled_filter : {X : Type 0} (p : X → Bool) (xs ys : List X) → Shuffled xs ys → Shuffled (filter p xs) (filter p ys)
shuffled_filter p [] ys h = ap (filter p) h
shuffled_filter {X = X} p (x ∷ xs) ys h =
    let rest = subst (λ (l : List X). Shuffled (filter p xs) l) (filter-append p h.0 h.1) (shuffled_filter p xs (h.0 ++ h.1) h.3) in
    subst (λ (l : List X). Shuffled (filter p (x ∷ xs)) l) (sym (ap (filter p) h.2 ∙ filter-append p h.0 (x ∷ h.1))) (filtered_by p x xs h.0 h.1 (p x) rest)

-- a value is placed in the one, and comes last in the other
placed_by : (value x : StoredValue) (xs more ys front back : List StoredValue) (t : Bool) → ys ≡ front ++ x ∷ back → Shuffled xs (front ++ back) → Shuffled more ((front ++ back) ++ value ∷ []) → Shuffled (if t then value ∷ x ∷ xs else x ∷ more) (ys ++ value ∷ [])
placed_by value x xs more ys front back true is old new = (ys, [], refl, (front, back, append-nil ys ∙ is, old))
placed_by value x xs more ys front back false is old new = (
  front,
  back ++ value ∷ [],
  ap (λ (l : List StoredValue). l ++ value ∷ []) is ∙ append_assoc front (x ∷ back) (value ∷ []),
  subst (λ (l : List StoredValue). Shuffled more l) (append_assoc front back (value ∷ [])) new,
)

pub shuffled_placed : (value : StoredValue) (xs ys : List StoredValue) → Shuffled xs ys → Shuffled (placed value xs) (ys ++ value ∷ [])
shuffled_placed value [] ys h = ([], [], ap (λ (l : List StoredValue). l ++ value ∷ []) h, refl)
shuffled_placed value (x ∷ xs) ys h = placed_by value x xs (placed value xs) ys h.0 h.1 (precedes_in (rank_of value) (rank_of x)) h.2 h.3 (shuffled_placed value xs (h.0 ++ h.1) h.3)

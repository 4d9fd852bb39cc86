-- What stands at a place of a list after a change.
use Rattle.std.proofs.Common.{◌≡◌, ◌≢◌, ◌⊎◌, ℕ, zero, suc, List, [], ◌∷◌, ◌++◌, length, refl, sym, ap, ◌∙◌, inl, inr, arith, Some, slice_get, slice_set}
use Rattle.std.specs.Prelude.{slice_index_or, ◌==◌, true, false}
use Rattle.std.proofs.Common.{eq-eqb}
use Rattle.std.proofs.lemmas.Bool.{cases_Bool}
use Rattle.world_model.specs.Lists.{without, last_of}

-- what stands at j after a write at i is what was written there, or what stood there
pub written_or_old : {X : Type 0} (xs : List X) (i j : ℕ) (new y : X) → slice_get (slice_set xs i new) j ≡ Some y → ((j ≡ i) × (y ≡ new)) ⊎ (slice_get xs j ≡ Some y)
written_or_old [] i j new y at = inr at
written_or_old (x ∷ xs) zero zero new y at = inl (refl, let e : y ≡ new = cc in e)
written_or_old (x ∷ xs) zero (suc j) new y at = inr at
written_or_old (x ∷ xs) (suc i) zero new y at = inr at
written_or_old (x ∷ xs) (suc i) (suc j) new y at = elim (written_or_old xs i j new y at) [
  | inl here ↦ inl (ap suc here.0, here.1)
  | inr old ↦ inr old
]

pub written_here : {X : Type 0} (xs : List X) (i : ℕ) (new old : X) → slice_get xs i ≡ Some old → slice_get (slice_set xs i new) i ≡ Some new
written_here [] i new old at = absurd (let f : ⊥ = cc in f)
written_here (x ∷ xs) zero new old at = refl
written_here (x ∷ xs) (suc i) new old at = written_here xs i new old at

pub written_elsewhere : {X : Type 0} (xs : List X) (i j : ℕ) (new : X) → j ≢ i → slice_get (slice_set xs i new) j ≡ slice_get xs j
written_elsewhere [] i j new apart = refl
written_elsewhere (x ∷ xs) zero zero new apart = absurd (apart refl)
written_elsewhere (x ∷ xs) zero (suc j) new apart = refl
written_elsewhere (x ∷ xs) (suc i) zero new apart = refl
written_elsewhere (x ∷ xs) (suc i) (suc j) new apart = written_elsewhere xs i j new (λ e. apart (ap suc e))

-- what stands at j behind the end is the one more item
pub pushed_or_old : {X : Type 0} (xs : List X) (j : ℕ) (new y : X) → slice_get (xs ++ new ∷ []) j ≡ Some y → ((j ≡ length xs) × (y ≡ new)) ⊎ (slice_get xs j ≡ Some y)
pushed_or_old [] zero new y at = inl (refl, let e : y ≡ new = cc in e)
pushed_or_old [] (suc j) new y at = absurd (let f : ⊥ = cc in f)
pushed_or_old (x ∷ xs) zero new y at = inr at
pushed_or_old (x ∷ xs) (suc j) new y at = elim (pushed_or_old xs j new y at) [
  | inl here ↦ inl (let e : j ≡ length xs = here.0 in omega arith, here.1)
  | inr old ↦ inr old
]

pub pushed_keeps : {X : Type 0} (xs : List X) (j : ℕ) (new y : X) → slice_get xs j ≡ Some y → slice_get (xs ++ new ∷ []) j ≡ Some y
pushed_keeps [] j new y at = absurd (let f : ⊥ = cc in f)
pushed_keeps (x ∷ xs) zero new y at = at
pushed_keeps (x ∷ xs) (suc j) new y at = pushed_keeps xs j new y at

-- the item there, where there is one, is the one that is read with a default
pub read_is : {X : Type 0} (xs : List X) (i : ℕ) (d y : X) → slice_get xs i ≡ Some y → slice_index_or xs i d ≡ y
read_is [] i d y at = absurd (let f : ⊥ = cc in f)
read_is (x ∷ xs) zero d y at = let e : x ≡ y = cc in e
read_is (x ∷ xs) (suc i) d y at = read_is xs i d y at

-- an item that is read and isn't the default stands there
pub stands_there : {X : Type 0} (xs : List X) (i : ℕ) (d y : X) → slice_index_or xs i d ≡ y → (y ≡ d → ⊥) → slice_get xs i ≡ Some y
stands_there [] i d y at apart = absurd (apart (sym at))
stands_there (x ∷ xs) zero d y at apart = ap Some at
stands_there (x ∷ xs) (suc i) d y at apart = stands_there xs i d y at apart

-- the list at p after a write of another one
pub read_elsewhere : {X : Type 0} (xs : List X) (i j : ℕ) (new d : X) → j ≢ i → slice_index_or (slice_set xs i new) j d ≡ slice_index_or xs j d
read_elsewhere [] i j new d apart = refl
read_elsewhere (x ∷ xs) zero zero new d apart = absurd (apart refl)
read_elsewhere (x ∷ xs) zero (suc j) new d apart = refl
read_elsewhere (x ∷ xs) (suc i) zero new d apart = refl
read_elsewhere (x ∷ xs) (suc i) (suc j) new d apart = read_elsewhere xs i j new d (λ e. apart (ap suc e))

pub read_here : {X : Type 0} (xs : List X) (i : ℕ) (new d : X) → (slice_index_or (slice_set xs i new) i d ≡ new) ⊎ (slice_index_or (slice_set xs i new) i d ≡ d)
read_here [] i new d = inr refl
read_here (x ∷ xs) zero new d = inl refl
read_here (x ∷ xs) (suc i) new d = read_here xs i new d

pub read_pushed : {X : Type 0} (xs : List X) (j : ℕ) (d : X) → slice_index_or (xs ++ d ∷ []) j d ≡ slice_index_or xs j d
read_pushed [] zero d = refl
read_pushed [] (suc j) d = refl
read_pushed (x ∷ xs) zero d = refl
read_pushed (x ∷ xs) (suc j) d = read_pushed xs j d

differs : (x y : ℕ) → (y == x) ≡ false → y ≢ x
differs x y apart same = let e : (y == x) ≡ true = eq-eqb y x same in let f : ⊥ = cc in f

-- what is left without a number stood there, and isn't that number
abbrev pub StoodApart : ℕ → List ℕ → ℕ → Type 0
StoodApart x xs r = (r ≢ x) × ((j : ℕ) × (slice_get xs j ≡ Some r))

further : (x y : ℕ) (xs : List ℕ) (r : ℕ) → StoodApart x xs r → StoodApart x (y ∷ xs) r
further x y xs r rest = (rest.0, (suc rest.1.0, rest.1.1))

in_kept : (x y : ℕ) (xs rest : List ℕ) (k r : ℕ) → ((k : ℕ) → slice_get rest k ≡ Some r → StoodApart x xs r) → (y == x) ≡ false → slice_get (y ∷ rest) k ≡ Some r → StoodApart x (y ∷ xs) r
in_kept x y xs rest zero r before apart at = let e : y ≡ r = cc in ((λ same. differs x y apart (e ∙ same)), (zero, at))
in_kept x y xs rest (suc k) r before apart at = further x y xs r (before k at)

pub in_without : (x : ℕ) (xs : List ℕ) (k r : ℕ) → slice_get (without x xs) k ≡ Some r → StoodApart x xs r
in_without x [] k r at = absurd (let f : ⊥ = cc in f)
in_without x (y ∷ xs) k r at = elim (cases_Bool (y == x)) [
  | inl same ↦ (let all : without x (y ∷ xs) ≡ without x xs = rw same refl in
      further x y xs r (in_without x xs k r (ap (λ (l : List ℕ). slice_get l k) (sym all) ∙ at)))
  | inr apart ↦ (let all : without x (y ∷ xs) ≡ y ∷ without x xs = rw apart refl in
      in_kept x y xs (without x xs) k r (λ j. in_without x xs j r) apart (ap (λ (l : List ℕ). slice_get l k) (sym all) ∙ at))
]

pub last_is_in : (xs : List ℕ) (r : ℕ) → last_of xs ≡ Some r → (k : ℕ) × (slice_get xs k ≡ Some r)
last_is_in [] r is = absurd (let f : ⊥ = cc in f)
last_is_in (x ∷ []) r is = (zero, is)
last_is_in (x ∷ y ∷ xs) r is = let rest = last_is_in (y ∷ xs) r is in (suc rest.0, rest.1)

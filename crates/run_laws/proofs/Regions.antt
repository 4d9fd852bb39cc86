-- The regions that a process holds once it goes on, as its requests tell them; none stands twice among them.
use Rattle.std.proofs.Common.{◌≡◌, ℕ, zero, suc, Bool, true, false, List, [], ◌∷◌, ◌++◌, refl, sym, ap, ◌∙◌, subst, inl, inr, Some, None, slice_get, eq-eqb}
use Rattle.std.specs.Prelude.{if◌then◌else◌, ◌==◌, ◌||◌}
use Rattle.std.specs.List.{list_any}
use Rattle.std.proofs.lemmas.Bool.{cases_Bool, eqb-true}
use Rattle.kernel_base.specs.declared.request.Request.{Request}
use Rattle.kernel_base.specs.declared.request.Request.TheVariants.{Enter, Leave, End}
use Rattle.world_model.specs.Lists.{last_of, without}

abbrev pub has : ℕ → List ℕ → Bool
has region regions = list_any (λ other. other == region) regions

-- the regions with one more, unless it is among them
abbrev pub with_region : List ℕ → ℕ → List ℕ
with_region regions region = if has region regions then regions else regions ++ region ∷ []

-- who asks to enter a region holds it once it goes on, who asks to leave it doesn't, and who asks to end holds none
abbrev pub asked : List ℕ → Request → List ℕ
asked regions (Enter region) = with_region regions region
asked regions (Leave region) = without region regions
asked regions (End how) = []
asked regions request = regions

-- the same of requests, in order
abbrev pub regions_on : List Request → List ℕ → List ℕ
regions_on [] regions = regions
regions_on (request ∷ requests) regions = regions_on requests (asked regions request)

pub regions_on-append : (a b : List Request) (regions : List ℕ) → regions_on (a ++ b) regions ≡ regions_on b (regions_on a regions)
regions_on-append [] b regions = refl
regions_on-append (request ∷ a) b regions = regions_on-append a b (asked regions request)

-- no region stands twice
abbrev pub AreApart : List ℕ → Type 0
AreApart [] = Unit {0}
AreApart (region ∷ regions) = (has region regions ≡ false) × AreApart regions

neither : (a b : Bool) → (a || b) ≡ false → (a ≡ false) × (b ≡ false)
neither true b e = absurd (let f : ⊥ = cc in f)
neither false b e = (refl, e)

differs_back : (a b : ℕ) → (a == b) ≡ false → (b == a) ≡ false
differs_back a b apart = elim (cases_Bool (b == a)) [
  | inl same ↦ absurd (let e : (a == b) ≡ true = eq-eqb a b (sym (eqb-true b a same)) in let f : ⊥ = cc in f)
  | inr differ ↦ differ
]

pub has_cons : (x r : ℕ) (xs : List ℕ) → has r xs ≡ true → has r (x ∷ xs) ≡ true
has_cons x r xs is = elim (cases_Bool (x == r)) [
  | inl same ↦ rw same refl
  | inr apart ↦ rw apart is
]

pub has_at : (xs : List ℕ) (k r : ℕ) → slice_get xs k ≡ Some r → has r xs ≡ true
has_at [] k r at = absurd (let f : ⊥ = cc in f)
has_at (x ∷ xs) zero r at = let e : x ≡ r = cc in let t : (x == r) ≡ true = eq-eqb x r e in rw t refl
has_at (x ∷ xs) (suc k) r at = has_cons x r xs (has_at xs k r at)

pub stands_at : (xs : List ℕ) (r : ℕ) → has r xs ≡ true → (k : ℕ) × (slice_get xs k ≡ Some r)
stands_at [] r is = absurd (let f : ⊥ = cc in f)
stands_at (x ∷ xs) r is = elim (cases_Bool (x == r)) [
  | inl same ↦ (zero, ap Some (eqb-true x r same))
  | inr apart ↦ (let rest = stands_at xs r (let e : has r (x ∷ xs) ≡ has r xs = rw apart refl in sym e ∙ is) in (suc rest.0, rest.1))
]

pub has_last : (xs : List ℕ) (x : ℕ) → has x (xs ++ x ∷ []) ≡ true
has_last [] x = let t : (x == x) ≡ true = eq-eqb x x refl in rw t refl
has_last (y ∷ xs) x = has_cons y x (xs ++ x ∷ []) (has_last xs x)

pub has_more : (xs : List ℕ) (x r : ℕ) → has r xs ≡ true → has r (xs ++ x ∷ []) ≡ true
has_more [] x r is = absurd (let f : ⊥ = cc in f)
has_more (y ∷ xs) x r is = elim (cases_Bool (y == r)) [
  | inl same ↦ rw same refl
  | inr apart ↦ has_cons y r (xs ++ x ∷ []) (has_more xs x r (let e : has r (y ∷ xs) ≡ has r xs = rw apart refl in sym e ∙ is))
]

without_same : (x y : ℕ) (xs : List ℕ) → (y == x) ≡ true → without x (y ∷ xs) ≡ without x xs
without_same x y xs same = rw same refl

without_other : (x y : ℕ) (xs : List ℕ) → (y == x) ≡ false → without x (y ∷ xs) ≡ y ∷ without x xs
without_other x y xs apart = rw apart refl

pub has_kept : (xs : List ℕ) (x r : ℕ) → (x == r) ≡ false → has r xs ≡ true → has r (without x xs) ≡ true
has_kept [] x r apart is = absurd (let f : ⊥ = cc in f)
has_kept (y ∷ xs) x r apart is = elim (cases_Bool (y == r)) [
  | inl same ↦ (
      let e : (y == x) ≡ false = ap (λ (n : ℕ). n == x) (eqb-true y r same) ∙ differs_back x r apart in
      ap (has r) (without_other x y xs e) ∙ rw same refl)
  | inr other ↦ (
      let rest = has_kept xs x r apart (let e : has r (y ∷ xs) ≡ has r xs = rw other refl in sym e ∙ is) in
      elim (cases_Bool (y == x)) [
        | inl is_x ↦ ap (has r) (without_same x y xs is_x) ∙ rest
        | inr not_x ↦ ap (has r) (without_other x y xs not_x) ∙ has_cons y r (without x xs) rest
      ])
]

none_pushed : (r x : ℕ) (xs : List ℕ) → has r xs ≡ false → (x == r) ≡ false → has r (xs ++ x ∷ []) ≡ false
none_pushed r x [] none apart = rw apart refl
none_pushed r x (y ∷ xs) none apart = let parts = neither (y == r) (has r xs) none in let rest = none_pushed r x xs parts.1 apart in rw parts.0 rest

pub apart_pushed : (xs : List ℕ) (x : ℕ) → has x xs ≡ false → AreApart xs → AreApart (xs ++ x ∷ [])
apart_pushed [] x none apart = (refl, tt)
apart_pushed (y ∷ xs) x none apart =
    let parts = neither (y == x) (has x xs) none in
    (none_pushed y x xs apart.0 (differs_back y x parts.0), apart_pushed xs x parts.1 apart.1)

none_without : (r x : ℕ) (xs : List ℕ) → has r xs ≡ false → has r (without x xs) ≡ false
none_without r x [] none = refl
none_without r x (y ∷ xs) none =
    let parts = neither (y == r) (has r xs) none in
    let rest = none_without r x xs parts.1 in
    elim (cases_Bool (y == x)) [
      | inl same ↦ ap (has r) (without_same x y xs same) ∙ rest
      | inr apart ↦ ap (has r) (without_other x y xs apart) ∙ rw parts.0 rest
    ]

pub apart_without : (xs : List ℕ) (x : ℕ) → AreApart xs → AreApart (without x xs)
apart_without [] x apart = tt
apart_without (y ∷ xs) x apart = elim (cases_Bool (y == x)) [
  | inl same ↦ subst AreApart (sym (without_same x y xs same)) (apart_without xs x apart.1)
  | inr other ↦ subst AreApart (sym (without_other x y xs other)) (none_without y x xs apart.0, apart_without xs x apart.1)
]

-- who isn't among them isn't missed
pub without_none : (x : ℕ) (xs : List ℕ) → has x xs ≡ false → without x xs ≡ xs
without_none x [] none = refl
without_none x (y ∷ xs) none =
    let parts = neither (y == x) (has x xs) none in
    without_other x y xs parts.0 ∙ ap (λ (ys : List ℕ). y ∷ ys) (without_none x xs parts.1)

last_apart : (y x : ℕ) (xs : List ℕ) → has y (xs ++ x ∷ []) ≡ false → (x == y) ≡ false
last_apart y x [] none = (neither (x == y) false none).0
last_apart y x (z ∷ xs) none = last_apart y x xs (neither (z == y) (has y (xs ++ x ∷ [])) none).1

pub front_apart : (xs : List ℕ) (x : ℕ) → AreApart (xs ++ x ∷ []) → has x xs ≡ false
front_apart [] x apart = refl
front_apart (y ∷ xs) x apart =
    let e : (y == x) ≡ false = differs_back x y (last_apart y x xs apart.0) in
    rw e (front_apart xs x apart.1)

-- all but the last
pub without_end : (xs : List ℕ) (x : ℕ) → AreApart (xs ++ x ∷ []) → without x (xs ++ x ∷ []) ≡ xs
without_end [] x apart = without_same x x [] (eq-eqb x x refl)
without_end (y ∷ xs) x apart =
    let e : (y == x) ≡ false = differs_back x y (last_apart y x xs apart.0) in
    without_other x y (xs ++ x ∷ []) e ∙ ap (λ (ys : List ℕ). y ∷ ys) (without_end xs x apart.1)

pub last_splits : (xs : List ℕ) (x : ℕ) → last_of xs ≡ Some x → (front : List ℕ) × (xs ≡ front ++ x ∷ [])
last_splits [] x is = absurd (let f : ⊥ = cc in f)
last_splits (y ∷ []) x is = ([], let e : y ≡ x = cc in ap (λ (n : ℕ). n ∷ []) e)
last_splits (y ∷ z ∷ xs) x is = let rest = last_splits (z ∷ xs) x is in (y ∷ rest.0, ap (λ (ys : List ℕ). y ∷ ys) rest.1)

pub no_last : (xs : List ℕ) → last_of xs ≡ None → xs ≡ []
no_last [] none = refl
no_last (y ∷ []) none = absurd (let f : ⊥ = cc in f)
no_last (y ∷ z ∷ xs) none = absurd (let e : z ∷ xs ≡ [] = no_last (z ∷ xs) none in let f : ⊥ = cc in f)

-- all but the last, and the last
pub last_again : (xs : List ℕ) (x : ℕ) → AreApart xs → last_of xs ≡ Some x → without x xs ++ x ∷ [] ≡ xs
last_again xs x apart is =
    let parts = last_splits xs x is in
    ap (λ (ys : List ℕ). without x ys ++ x ∷ []) parts.1
    ∙ (ap (λ (ys : List ℕ). ys ++ x ∷ []) (without_end parts.0 x (subst AreApart parts.1 apart)) ∙ sym parts.1)

with_apart : (regions : List ℕ) (region : ℕ) (b : Bool) → has region regions ≡ b → AreApart regions → AreApart (if b then regions else regions ++ region ∷ [])
with_apart regions region true is apart = apart
with_apart regions region false is apart = apart_pushed regions region is apart

pub asked_apart : (regions : List ℕ) (request : Request) → AreApart regions → AreApart (asked regions request)
asked_apart regions (Enter region) apart = with_apart regions region (has region regions) refl apart
asked_apart regions (Leave region) apart = apart_without regions region apart
asked_apart regions (End how) apart = tt
asked_apart regions request apart = apart

-- Lists in which nothing is told, tests that hold, and what is there.
use Rattle.std.proofs.Common.{◌≡◌, ℕ, ◌<◌, ◌≤◌, Bool, true, false, List, [], ◌∷◌, ◌++◌, Option, Some, None, true≢false, inl, inr, refl, sym, ap, ◌∙◌}
use Rattle.std.proofs.lemmas.Bool.{cases_lt, lt-ltb}
use Rattle.std.specs.Prelude.{IsSome, is_some, option_map, option_and_then, not, ◌&&◌, ◌||◌, if◌then◌else◌, nat_lt}
use Rattle.diagnostics.specs.declared.diagnostic.Diagnostic.{Diagnostic}
use Rattle.checks_model.specs.Told.{told_if, is_none_told, then_told}
use Rattle.checks_model.specs.WrittenModes.{unless_told}

-- ---- nothing is told

pub none_first : (xs ys : List Diagnostic) → xs ++ ys ≡ [] → xs ≡ []
none_first [] ys none = refl
none_first (x ∷ xs) ys none = absurd (true≢false (sym (ap is_none_told none)))

pub none_later : (xs ys : List Diagnostic) → xs ++ ys ≡ [] → ys ≡ []
none_later [] ys none = none
none_later (x ∷ xs) ys none = absurd (true≢false (sym (ap is_none_told none)))

pub none_inside : (xs ys : List Diagnostic) → then_told xs ys ≡ [] → xs ≡ []
none_inside xs ys none = none_first xs (if is_none_told xs then ys else []) none

pub none_then : (xs ys : List Diagnostic) → then_told xs ys ≡ [] → ys ≡ []
none_then [] ys none = none
none_then (x ∷ xs) ys none = absurd (true≢false (sym (ap is_none_told none)))

pub not_broken : (b : Bool) (d : Diagnostic) → told_if b d ≡ [] → b ≡ false
not_broken false d none = refl
not_broken true d none = absurd (true≢false (sym (ap is_none_told none)))

pub not_misfit : (b : Bool) (d : Diagnostic) (rest : List Diagnostic) → (if b then d ∷ [] else rest) ≡ [] → b ≡ false
not_misfit false d rest none = refl
not_misfit true d rest none = absurd (true≢false (sym (ap is_none_told none)))

pub not_misfit_rest : (b : Bool) (d : Diagnostic) (rest : List Diagnostic) → (if b then d ∷ [] else rest) ≡ [] → rest ≡ []
not_misfit_rest false d rest none = none
not_misfit_rest true d rest none = absurd (true≢false (sym (ap is_none_told none)))

-- ---- tests

pub not_true : (b : Bool) → not b ≡ false → b ≡ true
not_true true fits = refl
not_true false fits = absurd (true≢false fits)

pub both_left : (a b : Bool) → (a && b) ≡ true → a ≡ true
both_left true b holds = refl
both_left false b holds = holds

pub both_right : (a b : Bool) → (a && b) ≡ true → b ≡ true
both_right true b holds = holds
both_right false b holds = absurd (true≢false (sym holds))

pub of_both : (a b : Bool) → a ≡ true → b ≡ true → (a && b) ≡ true
of_both true b first later = later
of_both false b first later = first

pub not_second : (a b : Bool) → a ≡ true → (a && b) ≡ false → b ≡ false
not_second true b first none = none
not_second false b first none = absurd (true≢false (sym first))

pub neither_left : (a b : Bool) → (a || b) ≡ false → a ≡ false
neither_left false b none = refl
neither_left true b none = none

pub neither_right : (a b : Bool) → (a || b) ≡ false → b ≡ false
neither_right false b none = none
neither_right true b none = absurd (true≢false none)

pub not_above : (a b : ℕ) → nat_lt a b ≡ false → b ≤ a
not_above a b none = elim (cases_lt a b) [
  | inl less ↦ absurd (true≢false (sym (lt-ltb a b less) ∙ none))
  | inr more ↦ more
]

-- ---- what is there

pub no_some : {A B : Type 0} (y : A) → None ≡ Some y → B
no_some y is = absurd (true≢false (sym (ap is_some is)))

abbrev value_or : {A : Type 0} → A → Option A → A
value_or x None = x
value_or x (Some y) = y

pub same_some : {A : Type 0} (x y : A) → Some x ≡ Some y → x ≡ y
same_some x y is = ap (value_or x) is

pub there_mapped : {A B : Type 0} (f : A → B) (x : Option A) (y : B) → option_map f x ≡ Some y → (a : A) × (x ≡ Some a) × (f a ≡ y)
there_mapped f (Some a) y is = (a, refl, same_some (f a) y is)
there_mapped f None y is = no_some y is

pub there_chained : {A B : Type 0} (f : A → Option B) (x : Option A) (y : B) → option_and_then f x ≡ Some y → (a : A) × (x ≡ Some a) × (f a ≡ Some y)
there_chained f (Some a) y is = (a, refl, is)
there_chained f None y is = no_some y is

pub unless_none : {A : Type 0} (told : List Diagnostic) (x : Option A) (y : A) → unless_told told x ≡ Some y → told ≡ []
unless_none [] x y is = refl
unless_none (d ∷ ds) x y is = no_some y is

pub unless_there : {A : Type 0} (told : List Diagnostic) (x : Option A) (y : A) → unless_told told x ≡ Some y → x ≡ Some y
unless_there [] x y is = is
unless_there (d ∷ ds) x y is = no_some y is

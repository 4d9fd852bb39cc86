-- Members of lists, and of the lists that entries are looked up in.
use Rattle.std.proofs.Common.{◌≡◌, ℕ, zero, suc, ◌<◌, ◌==◌, Bool, true, false, cond, ◌||◌, List, [], ◌∷◌, ◌++◌, length, ◌⊎◌, inl, inr, refl, sym, ap, ◌∙◌, subst, arith, Contains}
use Rattle.std.specs.Prelude.{flat_map, slice_index_or, if◌then◌else◌}
use Rattle.std.specs.List.{filter, list_any}
use Rattle.std.specs.Str.{bytes_eq}
use Rattle.std.proofs.lemmas.Bool.{eqb-true, eq-eqb}
use Rattle.std.proofs.lemmas.Grind.{flat_map-append}
use Rattle.std.proofs.lemmas.List.Elements.{Contains-append_left, Contains-append_right, Contains-append_cases}
use Rattle.std.proofs.lemmas.Slice.Eq.{bytes_eq-Decides}
use Rattle.names_model.specs.declared.definition.Definition.{Definition}
use Rattle.names_model.specs.declared.entry.Entry.{Entry}
use Rattle.names_model.specs.Definitions.{spelling_at, under}
use Rattle.names_model.specs.Entries.{numbers_of, is_among, once_behind, found}

pub none_in : {X : Type 0} (d : X) → Contains [] d → ⊥
none_in d c = let h : c.0 < 0 = c.1 in omega arith

pub here_in : {X : Type 0} (x : X) (xs : List X) (d : X) → x ≡ d → Contains (x ∷ xs) d
here_in x xs d e = (0, omega arith, e)

pub later_in : {X : Type 0} (x : X) (xs : List X) (d : X) → Contains xs d → Contains (x ∷ xs) d
later_in x xs d c = (suc c.0, (let h : c.0 < length xs = c.1 in omega arith), c.2)

pub in_cases : {X : Type 0} (x : X) (xs : List X) (d : X) → Contains (x ∷ xs) d → (x ≡ d) ⊎ Contains xs d
in_cases x xs d c = by c.0 c.1 c.2
  where
    by : (k : ℕ) → k < length (x ∷ xs) → slice_index_or (x ∷ xs) k d ≡ d → (x ≡ d) ⊎ Contains xs d
    by zero lt e = inl e
    by (suc k) lt e = inr (k, omega arith, e)

-- a list without members is empty
pub none_listed : {X : Type 0} (xs : List X) → ((x : X) → ¬ Contains xs x) → xs ≡ []
none_listed [] none = refl
none_listed (x ∷ xs) none = absurd (none x (here_in x xs x refl))

-- ---- filters

pub in_filter : {X : Type 0} (p : X → Bool) (xs : List X) (d : X) → Contains xs d → p d ≡ true → Contains (filter p xs) d
in_filter p [] d c e = c
in_filter p (x ∷ xs) d c e = elim (in_cases x xs d c) [
  | inl is ↦ (let t : p x ≡ true = ap p is ∙ e in rw t (here_in x (filter p xs) d is))
  | inr there ↦ by (p x) (in_filter p xs d there e)
]
  where
    by : (b : Bool) → Contains (filter p xs) d → Contains (cond b (x ∷ filter p xs) (filter p xs)) d
    by true h = later_in x (filter p xs) d h
    by false h = h

pub filter_in : {X : Type 0} (p : X → Bool) (xs : List X) (d : X) → Contains (filter p xs) d → Contains xs d × (p d ≡ true)
filter_in p [] d c = absurd (none_in d c)
filter_in p (x ∷ xs) d c = by (p x) refl c (filter_in p xs d)
  where
    by : (b : Bool) → p x ≡ b → Contains (cond b (x ∷ filter p xs) (filter p xs)) d → (Contains (filter p xs) d → Contains xs d × (p d ≡ true)) → Contains (x ∷ xs) d × (p d ≡ true)
    by true t h rest = elim (in_cases x (filter p xs) d h) [
      | inl is ↦ (here_in x xs d is, ap p (sym is) ∙ t)
      | inr there ↦ (later_in x xs d (rest there).0, (rest there).1)
    ]
    by false t h rest = (later_in x xs d (rest h).0, (rest h).1)

-- ---- lists of lists

pub in_flat_map : {X Y : Type 0} (f : X → List Y) (xs : List X) (x : X) (d : Y) → Contains xs x → Contains (f x) d → Contains (flat_map f xs) d
in_flat_map f [] x d c h = absurd (none_in x c)
in_flat_map f (y ∷ xs) x d c h = elim (in_cases y xs x c) [
  | inl is ↦ Contains-append_left (f y) (flat_map f xs) d (subst (λ z. Contains (f z) d) (sym is) h)
  | inr there ↦ Contains-append_right (f y) (flat_map f xs) d (in_flat_map f xs x d there h)
]

pub flat_map_in : {X Y : Type 0} (f : X → List Y) (xs : List X) (d : Y) → Contains (flat_map f xs) d → (x : X) × Contains xs x × Contains (f x) d
flat_map_in f [] d c = absurd (none_in d c)
flat_map_in f (x ∷ xs) d c = elim (Contains-append_cases (f x) (flat_map f xs) d c) [
  | inl here ↦ (x, here_in x xs x refl, here)
  | inr there ↦ (let h = flat_map_in f xs d there in (h.0, later_in x xs h.0 h.1, h.2))
]

-- ---- tests of some member

pub any_at : {X : Type 0} (p : X → Bool) (xs : List X) (d : X) → Contains xs d → p d ≡ true → list_any p xs ≡ true
any_at p [] d c e = absurd (none_in d c)
any_at p (x ∷ xs) d c e = elim (in_cases x xs d c) [
  | inl is ↦ (let t : p x ≡ true = ap p is ∙ e in rw t refl)
  | inr there ↦ rw (any_at p xs d there e) (or-true (p x))
]
  where
    or-true : (b : Bool) → (b || true) ≡ true
    or-true true = refl
    or-true false = refl

-- ---- numbers, each once

pub among_in : (d : ℕ) (xs : List ℕ) → is_among d xs ≡ true → Contains xs d
among_in d [] e = cc
among_in d (x ∷ xs) e = by (x == d) refl e (among_in d xs)
  where
    by : (b : Bool) → (x == d) ≡ b → (b || is_among d xs) ≡ true → (is_among d xs ≡ true → Contains xs d) → Contains (x ∷ xs) d
    by true t h rest = here_in x xs d (eqb-true x d t)
    by false t h rest = later_in x xs d (rest h)

pub in_among : (d : ℕ) (xs : List ℕ) → Contains xs d → is_among d xs ≡ true
in_among d xs c = any_at (λ e. e == d) xs d c (eq-eqb d d refl)

pub once_in : (xs ys : List ℕ) (d : ℕ) → Contains (once_behind xs ys) d → Contains xs d ⊎ Contains ys d
once_in xs [] d c = inl c
once_in xs (y ∷ ys) d c = elim (once_in (if is_among y xs then xs else xs ++ y ∷ []) ys d c) [
  | inl front ↦ by (is_among y xs) front
  | inr there ↦ inr (later_in y ys d there)
]
  where
    pushed : Contains xs d ⊎ Contains (y ∷ []) d → Contains xs d ⊎ Contains (y ∷ ys) d
    pushed (inl old) = inl old
    pushed (inr new) = elim (in_cases y [] d new) [
      | inl is ↦ inr (here_in y ys d is)
      | inr none ↦ absurd (none_in d none)
    ]

    by : (b : Bool) → Contains (if b then xs else xs ++ y ∷ []) d → Contains xs d ⊎ Contains (y ∷ ys) d
    by true h = inl h
    by false h = pushed (Contains-append_cases xs (y ∷ []) d h)

-- what stands before stays
pub before_once : (xs ys : List ℕ) (d : ℕ) → Contains xs d → Contains (once_behind xs ys) d
before_once xs [] d c = c
before_once xs (y ∷ ys) d c = before_once (if is_among y xs then xs else xs ++ y ∷ []) ys d (by (is_among y xs))
  where
    by : (b : Bool) → Contains (if b then xs else xs ++ y ∷ []) d
    by true = c
    by false = Contains-append_left xs (y ∷ []) d c

pub behind_once : (xs ys : List ℕ) (d : ℕ) → Contains ys d → Contains (once_behind xs ys) d
behind_once xs [] d c = absurd (none_in d c)
behind_once xs (y ∷ ys) d c = elim (in_cases y ys d c) [
  | inl is ↦ before_once (if is_among y xs then xs else xs ++ y ∷ []) ys d (by is (is_among y xs) refl)
  | inr there ↦ behind_once (if is_among y xs then xs else xs ++ y ∷ []) ys d there
]
  where
    by : y ≡ d → (b : Bool) → is_among y xs ≡ b → Contains (if b then xs else xs ++ y ∷ []) d
    by is true t = subst (λ e. Contains xs e) is (among_in y xs t)
    by is false t = Contains-append_right xs (y ∷ []) d (here_in y [] d is)

-- ---- what is looked up

pub in_under : (all : List Definition) (n : List ℕ) (numbers : List ℕ) (d : ℕ) → Contains numbers d → spelling_at all d ≡ n → Contains (under all n numbers) d
in_under all n numbers d c e = in_filter (λ k. bytes_eq (spelling_at all k) n) numbers d c ((bytes_eq-Decides (spelling_at all d) n).1 e)

pub under_in : (all : List Definition) (n : List ℕ) (numbers : List ℕ) (d : ℕ) → Contains (under all n numbers) d → Contains numbers d × (spelling_at all d ≡ n)
under_in all n numbers d c =
    let h = filter_in (λ k. bytes_eq (spelling_at all k) n) numbers d c in
    (h.0, (bytes_eq-Decides (spelling_at all d) n).0 h.1)

pub in_found : (all : List Definition) (es : List Entry) (n : List ℕ) (d : ℕ) → Contains (numbers_of es) d → spelling_at all d ≡ n → Contains (found all es n) d
in_found all es n d c e = behind_once [] (under all n (numbers_of es)) d (in_under all n (numbers_of es) d c e)

pub found_in : (all : List Definition) (es : List Entry) (n : List ℕ) (d : ℕ) → Contains (found all es n) d → Contains (numbers_of es) d × (spelling_at all d ≡ n)
found_in all es n d c = elim (once_in [] (under all n (numbers_of es)) d c) [
  | inl none ↦ absurd (none_in d none)
  | inr there ↦ under_in all n (numbers_of es) d there
]

-- ---- the numbers of entries

pub numbers_left : (es fs : List Entry) (d : ℕ) → Contains (numbers_of es) d → Contains (numbers_of (es ++ fs)) d
numbers_left es fs d c = rw flat_map-append (Contains-append_left (numbers_of es) (numbers_of fs) d c)

pub numbers_right : (es fs : List Entry) (d : ℕ) → Contains (numbers_of fs) d → Contains (numbers_of (es ++ fs)) d
numbers_right es fs d c = rw flat_map-append (Contains-append_right (numbers_of es) (numbers_of fs) d c)

pub numbers_cases : (es fs : List Entry) (d : ℕ) → Contains (numbers_of (es ++ fs)) d → Contains (numbers_of es) d ⊎ Contains (numbers_of fs) d
numbers_cases es fs d c = Contains-append_cases (numbers_of es) (numbers_of fs) d (subst (λ ns. Contains ns d) (flat_map-append (λ (e : Entry). e.numbers) es fs) c)

-- one entry has just its numbers
pub in_one : (e : Entry) (d : ℕ) → Contains e.numbers d → Contains (numbers_of (e ∷ [])) d
in_one e d c = Contains-append_left e.numbers [] d c

pub one_in : (e : Entry) (d : ℕ) → Contains (numbers_of (e ∷ [])) d → Contains e.numbers d
one_in e d c = elim (Contains-append_cases e.numbers [] d c) [
  | inl here ↦ here
  | inr none ↦ absurd (none_in d none)
]

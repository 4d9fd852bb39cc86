-- Numbers that are there already add nothing.
use Rattle.std.proofs.Common.{◌≡◌, ℕ, Bool, true, false, List, [], ◌∷◌, ◌++◌, ◌⊎◌, inl, inr, refl, ap, sym, ◌∙◌, if◌then◌else◌}
use Rattle.std.specs.Prelude.{◌||◌, ◌&&◌, ◌==◌}
use Rattle.std.specs.List.{filter, list_any}
use Rattle.std.proofs.lemmas.Bool.{eqb-true}
use Rattle.std.proofs.lemmas.Bool.Decides.{Decides-eqb}
use Rattle.names_model.specs.Entries.{is_among, once_behind}
use Rattle.reach_tables.proofs.Noting.{any-behind}

-- each of some numbers is among others
abbrev pub Within : (ys xs : List ℕ) → Type 0
Within ys xs = (d : ℕ) → is_among d ys ≡ true → is_among d xs ≡ true

pub either : (a b : Bool) → (a || b) ≡ true → (a ≡ true) ⊎ (b ≡ true)
either true b h = inl refl
either false b h = inr h

or-left : (a b : Bool) → a ≡ true → (a || b) ≡ true
or-left true b h = refl
or-left false b h = cc

or-right : (a b : Bool) → b ≡ true → (a || b) ≡ true
or-right true b h = refl
or-right false b h = h

or-none : (a : Bool) → (a || false) ≡ a
or-none true = refl
or-none false = refl

false-true : false ≡ true → ⊥
false-true h = cc

pub same-self : (y : ℕ) → (y == y) ≡ true
same-self y = (Decides-eqb y y).1 refl

pub first-among : (y : ℕ) (ys : List ℕ) → is_among y (y ∷ ys) ≡ true
first-among y ys = or-left (y == y) (is_among y ys) (same-self y)

pub later-among : (d y : ℕ) (ys : List ℕ) → is_among d ys ≡ true → is_among d (y ∷ ys) ≡ true
later-among d y ys h = or-right (y == d) (is_among d ys) h

pub once-within : (xs ys : List ℕ) → Within ys xs → once_behind xs ys ≡ xs
once-within xs [] h = refl
once-within xs (y ∷ ys) h = ap (λ b. once_behind (if b then xs else xs ++ y ∷ []) ys) (h y (first-among y ys)) ∙ once-within xs ys (λ d k. h d (later-among d y ys k))

-- what passes a test is there, and passes it
pub filter-from : (p : ℕ → Bool) (d : ℕ) (ys : List ℕ) → is_among d (filter p ys) ≡ true → (p d ≡ true) × (is_among d ys ≡ true)
filter-from p d [] h = cc
filter-from p d (y ∷ ys) h = at (p y) refl (λ k. filter-from p d ys k) h
  where
    later : (p d ≡ true) × (is_among d ys ≡ true) → (p d ≡ true) × (is_among d (y ∷ ys) ≡ true)
    later k = (k.0, later-among d y ys k.1)

    here : p y ≡ true → (is_among d (filter p ys) ≡ true → (p d ≡ true) × (is_among d ys ≡ true)) → ((y == d) ≡ true) ⊎ (is_among d (filter p ys) ≡ true) → (p d ≡ true) × (is_among d (y ∷ ys) ≡ true)
    here is rest (inl k) = (ap p (sym (eqb-true y d k)) ∙ is, or-left (y == d) (is_among d ys) k)
    here is rest (inr k) = later (rest k)

    at : (b : Bool) → p y ≡ b → (is_among d (filter p ys) ≡ true → (p d ≡ true) × (is_among d ys ≡ true)) → is_among d (if b then y ∷ filter p ys else filter p ys) ≡ true → (p d ≡ true) × (is_among d (y ∷ ys) ≡ true)
    at true is rest k = here is rest (either (y == d) (is_among d (filter p ys)) k)
    at false is rest k = later (rest k)

pub any-at : (p : ℕ → Bool) (d : ℕ) (xs : List ℕ) → is_among d xs ≡ true → p d ≡ true → list_any p xs ≡ true
any-at p d [] h k = cc
any-at p d (x ∷ xs) h k = side (λ e. any-at p d xs e k) (either (x == d) (is_among d xs) h)
  where
    side : (is_among d xs ≡ true → list_any p xs ≡ true) → ((x == d) ≡ true) ⊎ (is_among d xs ≡ true) → (p x || list_any p xs) ≡ true
    side rest (inl e) = or-left (p x) (list_any p xs) (ap p (eqb-true x d e) ∙ k)
    side rest (inr e) = or-right (p x) (list_any p xs) (rest e)

-- whether any passes is told by those that were there and those that were put behind them
any-once : (q : ℕ → Bool) (xs ys : List ℕ) → list_any q (once_behind xs ys) ≡ (list_any q xs || list_any q ys)
any-once q xs [] = sym (or-none (list_any q xs))
any-once q xs (y ∷ ys) = any-once q (if is_among y xs then xs else xs ++ y ∷ []) ys ∙ side (is_among y xs) refl
  where
    absorbed : (a b c : Bool) → (b ≡ true → a ≡ true) → (a || c) ≡ (a || (b || c))
    absorbed true b c h = refl
    absorbed false true c h = absurd (false-true (h refl))
    absorbed false false c h = refl

    assoc : (a b c : Bool) → ((a || b) || c) ≡ (a || (b || c))
    assoc true b c = refl
    assoc false b c = refl

    side : (b : Bool) → is_among y xs ≡ b → (list_any q (if b then xs else xs ++ y ∷ []) || list_any q ys) ≡ (list_any q xs || (q y || list_any q ys))
    side true is = absorbed (list_any q xs) (q y) (list_any q ys) (λ k. any-at q y xs is k)
    side false is = ap (λ b. b || list_any q ys) (any-behind q xs y) ∙ assoc (list_any q xs) (q y) (list_any q ys)

any-filter : (p q : ℕ → Bool) (xs : List ℕ) → list_any q (filter p xs) ≡ list_any (λ x. p x && q x) xs
any-filter p q [] = refl
any-filter p q (x ∷ xs) = side (p x) (any-filter p q xs)
  where
    side : (b : Bool) → list_any q (filter p xs) ≡ list_any (λ y. p y && q y) xs → list_any q (if b then x ∷ filter p xs else filter p xs) ≡ ((b && q x) || list_any (λ y. p y && q y) xs)
    side true h = ap (λ b. q x || b) h
    side false h = h

-- of what is had once of those that pass a test, any passes another where any passes both
pub any-had : (p q : ℕ → Bool) (xs : List ℕ) → list_any q (once_behind [] (filter p xs)) ≡ list_any (λ x. p x && q x) xs
any-had p q xs = any-once q [] (filter p xs) ∙ any-filter p q xs

-- What is appended.
use Rattle.std.proofs.Common.{◌≡◌, ℕ, ◌+◌, ◌<◌, ◌≤◌, List, [], ◌∷◌, ◌++◌, append-nil, append_assoc, refl, ap, sym, ◌∙◌, length, get_or, drop, drop-cons, add-one}
use Rattle.std.proofs.lemmas.List.{at_drop_all}
use Rattle.std.specs.Prelude.{flat_map}

pub ruleset nothing_more = (append-nil)

pub flat_map-append : {X Y : Type 0} (f : X → List Y) (xs ys : List X) → flat_map f (xs ++ ys) ≡ flat_map f xs ++ flat_map f ys
flat_map-append f [] ys = refl
flat_map-append f (x ∷ xs) ys = ap (λ r. f x ++ r) (flat_map-append f xs ys) ∙ sym (append_assoc (f x) (flat_map f xs) (flat_map f ys))

-- a step of a loop that appends what each item gives
pub flat_map-on : {X Y : Type 0} (f : X → List Y) (xs : List X) (i : ℕ) (x : X) (out out' whole : List Y) → i < length xs → x ≡ get_or xs i x
    → out ++ flat_map f (drop i xs) ≡ whole → out' ≡ out ++ f x → out' ++ flat_map f (drop (i + 1) xs) ≡ whole
flat_map-on f xs i x out out' whole h is before added = rw added (append_assoc out (f x) (flat_map f (drop (i + 1) xs)) ∙ ap (λ r. out ++ flat_map f r) (sym rest) ∙ before)
  where
    rest : drop i xs ≡ x ∷ drop (i + 1) xs
    rest = rw (add-one, drop-cons xs i x h, ← is) refl

pub flat_map-end : {X Y : Type 0} (f : X → List Y) (xs : List X) (i : ℕ) (out whole : List Y) → length xs ≤ i → out ++ flat_map f (drop i xs) ≡ whole → out ≡ whole
flat_map-end f xs i out whole h before = sym (append-nil out) ∙ ap (λ r. out ++ r) (sym (at_drop_all (flat_map f) xs i h)) ∙ before

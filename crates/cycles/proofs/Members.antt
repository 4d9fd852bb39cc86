-- Members of lists that are built.
use Rattle.std.proofs.Common.{◌≡◌, List, [], ◌∷◌, ◌++◌, ◌⊎◌, inl, inr, arith, sym, subst, Contains}
use Rattle.std.specs.Prelude.{map, flat_map}
use Rattle.std.proofs.lemmas.List.Elements.{Contains-append_left, Contains-append_right, Contains-append_cases, Contains-push, Contains-push_cases}

module _ {X : Type 0} where
  pub none_in : (x : X) → Contains [] x → ⊥
  none_in x (k, low, is) = omega (arith, low)

  pub first_in : (x : X) (xs : List X) → Contains (x ∷ xs) x
  first_in x xs = Contains-append_left (x ∷ []) xs x (Contains-push [] x)

  pub later_in : (y : X) (xs : List X) (x : X) → Contains xs x → Contains (y ∷ xs) x
  later_in y xs x c = Contains-append_right (y ∷ []) xs x c

  one_of : (y x : X) → Contains [] x ⊎ (y ≡ x) → y ≡ x
  one_of y x (inl c) = absurd (none_in x c)
  one_of y x (inr e) = e

  either : (y : X) (ys : List X) (x : X) → Contains (y ∷ []) x ⊎ Contains ys x → (y ≡ x) ⊎ Contains ys x
  either y ys x (inl c) = inl (one_of y x (Contains-push_cases [] y x c))
  either y ys x (inr c) = inr c

  pub in_cases : (y : X) (ys : List X) (x : X) → Contains (y ∷ ys) x → (y ≡ x) ⊎ Contains ys x
  in_cases y ys x c = either y ys x (Contains-append_cases (y ∷ []) ys x c)

module _ {X Y : Type 0} (f : X → Y) where
  pub in_map : (xs : List X) (x : X) → Contains xs x → Contains (map f xs) (f x)
  in_map [] x c = absurd (none_in x c)
  in_map (y ∷ ys) x c = at_front (λ d. in_map ys x d) (in_cases y ys x c)
    where
      at_front : (Contains ys x → Contains (map f ys) (f x)) → (y ≡ x) ⊎ Contains ys x → Contains (f y ∷ map f ys) (f x)
      at_front behind (inl e) = subst (λ z. Contains (f y ∷ map f ys) (f z)) e (first_in (f y) (map f ys))
      at_front behind (inr d) = later_in (f y) (map f ys) (f x) (behind d)

  pub from_map : (xs : List X) (y : Y) → Contains (map f xs) y → (x : X) × Contains xs x × (f x ≡ y)
  from_map [] y c = absurd (none_in y c)
  from_map (x ∷ xs) y c = at_front (λ d. from_map xs y d) (in_cases (f x) (map f xs) y c)
    where
      at_front : (Contains (map f xs) y → (z : X) × Contains xs z × (f z ≡ y)) → (f x ≡ y) ⊎ Contains (map f xs) y → (z : X) × Contains (x ∷ xs) z × (f z ≡ y)
      at_front behind (inl e) = (x, first_in x xs, e)
      at_front behind (inr d) = let found = behind d in (found.0, later_in x xs found.0 found.1, found.2)

module _ {X Y : Type 0} (f : X → List Y) where
  pub in_flat : (xs : List X) (x : X) (y : Y) → Contains xs x → Contains (f x) y → Contains (flat_map f xs) y
  in_flat [] x y c d = absurd (none_in x c)
  in_flat (z ∷ zs) x y c d = at_front (λ b. in_flat zs x y b d) (in_cases z zs x c)
    where
      at_front : (Contains zs x → Contains (flat_map f zs) y) → (z ≡ x) ⊎ Contains zs x → Contains (f z ++ flat_map f zs) y
      at_front behind (inl e) = Contains-append_left (f z) (flat_map f zs) y (subst (λ w. Contains (f w) y) (sym e) d)
      at_front behind (inr b) = Contains-append_right (f z) (flat_map f zs) y (behind b)

  pub from_flat : (xs : List X) (y : Y) → Contains (flat_map f xs) y → (x : X) × Contains xs x × Contains (f x) y
  from_flat [] y c = absurd (none_in y c)
  from_flat (x ∷ xs) y c = at_front (λ d. from_flat xs y d) (Contains-append_cases (f x) (flat_map f xs) y c)
    where
      at_front : (Contains (flat_map f xs) y → (z : X) × Contains xs z × Contains (f z) y) → Contains (f x) y ⊎ Contains (flat_map f xs) y → (z : X) × Contains (x ∷ xs) z × Contains (f z) y
      at_front behind (inl d) = (x, first_in x xs, d)
      at_front behind (inr d) = let found = behind d in (found.0, later_in x xs found.0 found.1, found.2)

-- Two lists of the same items.
use Rattle.std.specs.Prelude.{◌≡◌, List, [], ◌∷◌, ◌++◌}

-- the second has each item of the first, as often, and no other; it may have them in another order
abbrev pub Shuffled : {X : Type 0} → List X → List X → Type 0
Shuffled [] ys = ys ≡ []
Shuffled {X} (x ∷ xs) ys = (front : List X) × (back : List X) × (ys ≡ front ++ x ∷ back) × Shuffled xs (front ++ back)

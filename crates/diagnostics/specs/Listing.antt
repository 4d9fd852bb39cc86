-- The list of what is in a list, in order and once.
use Rattle.std.specs.Prelude.{◌≡◌, List, [], ◌∷◌, ◌⊎◌}
use Rattle.std.specs.declared.cmp.Ordering.{Ordering}
use Rattle.std.specs.declared.cmp.Ordering.TheVariants.{Less, Equal, Greater}

-- x stands in the list
abbrev pub IsIn : {X : Type 0} → X → List X → Type 0
IsIn x [] = ⊥
IsIn x (y ∷ ys) = (x ≡ y) ⊎ IsIn x ys

-- both lists have the same members
pub record SameMembers {X : Type 0} (xs ys : List X) : Type 0 where
  pub there : (x : X) → IsIn x xs → IsIn x ys
  pub back : (x : X) → IsIn x ys → IsIn x xs

-- values that the order doesn't tell apart are one
abbrev pub TellsApart : {X : Type 0} → (X → X → Ordering) → Type 0
TellsApart {X} cmp = (x y : X) → cmp x y ≡ Equal → x ≡ y

module _ {X : Type 0} (cmp : X → X → Ordering) where
  -- x beside y, the first of an ordered list, by how x stands to y; `later` is the rest with x in its place
  abbrev pub placed : Ordering → X → X → List X → List X → List X
  placed Less x y ys later = x ∷ y ∷ ys
  placed Equal x y ys later = y ∷ ys
  placed Greater x y ys later = y ∷ later

  -- an ordered list with x in its place, once
  abbrev pub insert_once : X → List X → List X
  insert_once x [] = x ∷ []
  insert_once x (y ∷ ys) = placed (cmp x y) x y ys (insert_once x ys)

  -- the members of a list in order, each once
  abbrev pub listed : List X → List X
  listed [] = []
  listed (x ∷ xs) = insert_once x (listed xs)

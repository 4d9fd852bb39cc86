-- A turn of the test of the elements of STEP.
use Rattle.std.proofs.Common.{◌≡◌, ℕ, suc, ◌+◌, ◌-◌, ◌/◌, ◌%◌, ◌<◌, ◌&&◌, List, [], ◌∷◌, length, get_or, false, refl, ap, arith}
use Rattle.std.specs.Prelude.{nat_le, is_some}
use Rattle.modes.specs.declared.mode.Field.{Field}
use Rattle.modes.specs.ModeTree.{field_nodes, field_tree, field_trees}
use Rattle.layout_map.specs.Place.{steps_fit}
use Rattle.layout_map.specs.Spots.{is_placed}
use Rattle.modes.specs.ModeTree.{ModeTree, FieldNodes, more_fields, PlaceTree}
use Rattle.std.proofs.Common.{Option, Some, None}

-- with an element left, the next is tested
pub steps_next : (n k length step bit : ℕ) → k < n → steps_fit (n - k) length step bit ≡ ((nat_le (bit % 32 + length) 31 && nat_le (bit / 32) 4095) && steps_fit (n - (k + 1)) length step (bit + step))
steps_next n k length step bit h =
    let e : n - k ≡ suc (n - (k + 1)) = omega arith in ap (λ (x : ℕ). steps_fit x length step bit) e

pub none_placed : (xs : List Field) → length xs ≡ 0 → is_placed (field_nodes (field_trees xs)) ≡ false
none_placed [] h = refl
none_placed (x ∷ xs) h = absurd (omega (arith, h))

first : (name : List ℕ) (m : ModeTree) (at : Option PlaceTree) (fs : FieldNodes) → is_placed (more_fields name m at fs) ≡ is_some at
first name m None fs = refl
first name m (Some p) fs = refl

pub first_placed : (xs : List Field) (d : Field) → 0 < length xs → is_placed (field_nodes (field_trees xs)) ≡ is_some (field_tree (get_or xs 0 d)).at
first_placed [] d h = absurd (omega arith)
first_placed (x ∷ xs) d h = first (field_tree x).name (field_tree x).mode (field_tree x).at (field_nodes (field_trees xs))

pub ruleset first_places = (none_placed, first_placed)

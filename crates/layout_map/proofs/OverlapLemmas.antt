-- Turns of the search for fields that share a bit.
use Rattle.std.proofs.Common.{◌≡◌, ℕ, zero, suc, ◌+◌, ◌-◌, ◌<◌, List, [], ◌∷◌, length, get_or, Option, refl, ap, arith, add-one}
use Rattle.modes.specs.declared.mode.Field.{Field}
use Rattle.modes.specs.ModeTree.{PlaceTree, field_nodes, field_tree, field_trees}
use Rattle.layout_map.specs.Overlap.{ats_of, at_number, sharing_from, share, second_from, found}
use Rattle.std.specs.Prelude.{if◌then◌else◌, Some}

-- the place of a field by its number
pub ats_at : (xs : List Field) (i : ℕ) (d : Field) → i < length xs → at_number (ats_of (field_nodes (field_trees xs))) i ≡ (field_tree (get_or xs i d)).at
ats_at [] i d h = absurd (omega arith)
ats_at (x ∷ xs) zero d h = refl
ats_at (x ∷ xs) (suc i) d h = ats_at xs i d (omega arith)

-- as many places as fields
pub ats_length : (xs : List Field) → length (ats_of (field_nodes (field_trees xs))) ≡ length xs
ats_length [] = refl
ats_length (x ∷ xs) = ap suc (ats_length xs)

-- with a field left, the next one is compared
pub sharing_turn : (n i : ℕ) (at : Option PlaceTree) (ats : List (Option PlaceTree)) → i < n → sharing_from (n - i) i at ats ≡ (if share (at_number ats i) at then Some i else sharing_from (n - (i + 1)) (i + 1) at ats)
sharing_turn n i at ats h =
    let e : n - i ≡ suc (n - (i + 1)) = omega arith in
    rw (e, add-one) refl

pub second_turn : (n j number : ℕ) (ats : List (Option PlaceTree)) → j < n → second_from (n - j) j number ats ≡ found number j (sharing_from j 0 (at_number ats j) ats) (second_from (n - (j + 1)) (j + 1) number ats)
second_turn n j number ats h =
    let e : n - j ≡ suc (n - (j + 1)) = omega arith in
    rw (e, add-one) refl

pub ruleset sharing_steps = (ats_at, ats_length, sharing_turn, second_turn)

-- Values of a mode lie in its bounds and in those of its root, and those of discrete modes lie in INT.
use Rattle.std.proofs.Common.{◌≡◌, true, List, [], ◌∷◌, Option, Some, None, refl, sym, ap, ◌∙◌, subst, arith}
use Rattle.std.specs.Prelude.{ℤ, pos, neg_ℤ, ◌≤ℤ◌, int_le, IsTrue, is_some}
use Rattle.std.proofs.lemmas.Int.{ints}
use Rattle.modes.specs.declared.mode.Bounds.{Bounds}
use Rattle.modes.specs.ModeTree.{ModeTree, int}
use Rattle.modes.specs.Bounds.{bounds_of}
use Rattle.modes.specs.Roots.{root_of}
use Rattle.modes.specs.Similar.{shape_of}
use Rattle.modes.specs.Language.{parts_fit}
use Rattle.layout_map.proofs.Narrow.{Small, bounds-small}
use Rattle.scalar_operators.specs.Numbers.{is_between}
use Rattle.source_meaning.specs.Operators.{sole_number}
use Rattle.source_meaning.specs.Values.{IsValueOf}
use Rattle.text_laws.proofs.Operations.{discrete_number}
use Rattle.text_laws.proofs.Taking.{single, is_single, from_some, root_bounds, number_in_root}
use Rattle.code_scheme.specs.Pieces.{bounds_of_constant}
use Rattle.code_laws.specs.OwnBounds.{lies_in, lies_where}
use Rattle.bounds_laws.proofs.Outcomes.{and_holds}

lies_between : (low high x : ℤ) → low ≤ℤ x → x ≤ℤ high → is_between low high x ≡ true
lies_between low high x p q =
    let a : int_le low x ≡ true = grind (arith, ints, p) in
    let b : int_le x high ≡ true = grind (arith, ints, q) in
    and_holds a b

pub constant_lies : (xs : List ℤ) → lies_in (bounds_of_constant xs) xs ≡ true
constant_lies [] = refl
constant_lies (x ∷ []) = lies_between x x x (omega (arith, ints)) (omega (arith, ints))
constant_lies (x ∷ y ∷ xs) = refl

pub mode_lies : (m : ModeTree) (o : Option Bounds) (xs : List ℤ) → bounds_of m ≡ o → IsValueOf m xs → lies_in o xs ≡ true
mode_lies m None xs e v = refl
mode_lies m (Some b) xs e v = let w = discrete_number m b xs e v in lies_between b.low b.high (sole_number xs) w.1 w.2

root_by : (m : ModeTree) (o : Option Bounds) (xs : List ℤ) → IsTrue (parts_fit m) → bounds_of (root_of m) ≡ o → IsValueOf m xs → lies_in o xs ≡ true
root_by m None xs p e v = refl
root_by m (Some b) xs p e v = let w = number_in_root m b xs p (sym (root_bounds m) ∙ e) v in lies_between b.low b.high (sole_number xs) w.0 w.1

pub root_lies : (m : ModeTree) (o : Option Bounds) (xs : List ℤ) → IsTrue (parts_fit m) → o ≡ bounds_of (root_of m) → IsValueOf m xs → lies_in o xs ≡ true
root_lies m o xs p e v = root_by m o xs p (sym e) v

pub where_lies : (o own : Option Bounds) (xs : List ℤ) → lies_in own xs ≡ true → lies_where o own xs ≡ true
where_lies None own xs e = refl
where_lies (Some b) own xs e = e

-- a value that goes back to a location with bounds lies in INT
pub int_lies : (m own : ModeTree) (o : Option Bounds) (xs : List ℤ) → IsTrue (parts_fit m) → IsTrue (parts_fit own) → shape_of m ≡ shape_of own → bounds_of own ≡ o → IsValueOf m xs → lies_where o (bounds_of int) xs ≡ true
int_lies m own None xs p q s e v = refl
int_lies m own (Some b) xs p q s e v =
    let d = from_some (bounds_of m) (sym (single m p) ∙ (ap is_single s ∙ (single own q ∙ ap is_some e))) in
    let w = discrete_number m d.0 xs d.1 v in
    let small : Small (Some d.0) = subst Small d.1 (bounds-small m p) in
    let s0 = small.0 in
    let s1 = small.1 in
    let w1 = w.1 in
    let w2 = w.2 in
    lies_between (neg_ℤ (pos 2147483648)) (pos 2147483647) (sole_number xs) (omega (arith, ints, s0, w1)) (omega (arith, ints, s1, w2))

-- Operators on two powersets, by their scalars.
use Rattle.std.proofs.Common.{◌≡◌, ℕ, true, false, Bool, List, [], ◌∷◌, length, Option, Some, None, ℤ, pos, negsuc, refl, ap, sym, ◌∙◌}
use Rattle.std.specs.Prelude.{◌&&◌, not, option_map, map, if◌then◌else◌, slice_get, is_some, IsTrue, ◌-ℤ◌}
use Rattle.chill_tree.specs.declared.tree.expr.Operator.{Operator}
use Rattle.chill_tree.specs.declared.tree.expr.Operator.TheVariants as ops
use Rattle.scalar_operators.specs.Powersets.{union, intersection, difference, symmetric_difference}
use Rattle.scalar_operators.specs.Members.{by_pairs, has_member_at, has_offset_of, complement_of}
use Rattle.checks_model.specs.ValueTrees.{ValueTree, number, members, parts, scalars_in, included, same_members}
use Rattle.checks_model.specs.Operations.{is_on_sets}
use Rattle.checks_model.specs.OperatorValues.{zipped, logic, truth_value, has_offset, is_in}
use Rattle.scalar_operators.specs.Numbers.{truth_number}
use Rattle.modes.specs.declared.mode.Bounds.{Bounds}
use Rattle.member_laws.proofs.Bits.{union_members, intersection_members, difference_members, symmetric_difference_members, complement_members, one_member}
use Rattle.constant_values.specs.Comparisons.{compared, compared_values, value_on_sets}
use Rattle.constant_values.specs.Sets.{word_operator, included_below}
use Rattle.constant_values.specs.Fits.{is_number}
use Rattle.constant_values.specs.Operands.{IsSet}
use Rattle.constant_values.proofs.MemberSets.{Tells, included_members, same_both, same_turned}

-- an offset is a member where the scalars tell it
pub told_by : (bs : List Bool) (size : ℕ) (flat : List ℤ) → IsSet bs size flat → Tells (λ k. has_member_at k flat) bs
told_by bs size flat set = λ k. ap (λ (l : List ℤ). has_member_at k l) (sym set.scalars) ∙ one_member k bs

-- ---- comparisons

pub sets_compared : (o : Operator) (as' bs : List Bool) (size : ℕ) (left right : List ℤ) (w a : Bool) → IsSet as' size left → IsSet bs size right
    → w ≡ included_below (λ k. has_member_at k left) (λ k. has_member_at k right) size
    → a ≡ included_below (λ k. has_member_at k right) (λ k. has_member_at k left) size
    → compared o (w && not (w && a)) (w && a) (a && not (w && a)) ≡ compared_values o (members as') (members bs)
sets_compared o as' bs size left right w a s t there back =
    let f = λ (k : ℕ). has_member_at k left in
    let g = λ (k : ℕ). has_member_at k right in
    let long : length as' ≡ length bs = s.count ∙ sym t.count in
    let within : w ≡ included as' bs = there ∙ ap (included_below f g) (sym s.count) ∙ included_members f g as' bs (told_by as' size left s) (told_by bs size right t) long in
    let around : a ≡ included bs as' = back ∙ ap (included_below g f) (sym t.count) ∙ included_members g f bs as' (told_by bs size right t) (told_by as' size left s) (sym long) in
    let same : (w && a) ≡ same_members as' bs = ap (λ (x : Bool). x && a) within ∙ ap (λ (x : Bool). included as' bs && x) around ∙ same_both as' bs long in
    ap (λ (x : Bool). compared o x (w && a) (a && not (w && a))) (ap (λ (x : Bool). x && not (w && a)) within ∙ ap (λ (x : Bool). included as' bs && not x) same)
    ∙ ap (λ (x : Bool). compared o (included as' bs && not (same_members as' bs)) x (a && not (w && a))) same
    ∙ ap (λ (x : Bool). compared o (included as' bs && not (same_members as' bs)) (same_members as' bs) x)
    (ap (λ (x : Bool). x && not (w && a)) around ∙ ap (λ (x : Bool). included bs as' && not x) (same ∙ sym (same_turned as' bs long)))

-- ---- operators that give a powerset

-- an operator on scalars, where it is one on members
by_law : (op : ℤ → ℤ → ℤ) (f : Bool → Bool → Bool) (as' bs : List Bool) (size : ℕ) (left right : List ℤ) → IsSet as' size left → IsSet bs size right
    → (length as' ≡ length bs → scalars_in (members (zipped f as' bs)) ≡ by_pairs op (scalars_in (members as')) (scalars_in (members bs)))
    → by_pairs op left right ≡ scalars_in (members (zipped f as' bs))
by_law op f as' bs size left right s t law =
    ap (λ (l : List ℤ). by_pairs op l right) (sym s.scalars) ∙ ap (λ (r : List ℤ). by_pairs op (scalars_in (members as')) r) (sym t.scalars)
    ∙ sym (law (s.count ∙ sym t.count))

pub sets_combined : (o : Operator) (as' bs : List Bool) (size : ℕ) (left right : List ℤ) → is_on_sets o ≡ true → IsSet as' size left → IsSet bs size right
    → Some (by_pairs (word_operator o) left right) ≡ option_map scalars_in (value_on_sets o as' bs)
sets_combined ops.Minus as' bs size left right e s t = ap Some (by_law difference (logic ops.Minus) as' bs size left right s t (difference_members as' bs))
sets_combined ops.Or as' bs size left right e s t = ap Some (by_law union (logic ops.Or) as' bs size left right s t (union_members as' bs))
sets_combined ops.And as' bs size left right e s t = ap Some (by_law intersection (logic ops.And) as' bs size left right s t (intersection_members as' bs))
sets_combined ops.Xor as' bs size left right e s t = ap Some (by_law symmetric_difference (logic ops.Xor) as' bs size left right s t (symmetric_difference_members as' bs))
sets_combined _ as' bs size left right e s t = cc

choose_else : {A : Type 0} (b : Bool) (x y : A) → b ≡ false → (if b then x else y) ≡ y
choose_else b x y e = rw e refl

pub sets_told : (o : Operator) (as' bs : List Bool) (t : Bool) → is_on_sets o ≡ false → t ≡ compared_values o (members as') (members bs)
    → Some (truth_number t ∷ []) ≡ option_map scalars_in (value_on_sets o as' bs)
sets_told o as' bs t e same =
    ap (λ (x : Bool). Some (truth_number x ∷ [])) same
    ∙ ap (option_map scalars_in) (sym (choose_else (is_on_sets o) (Some (members (zipped (logic o) as' bs))) (Some (truth_value (compared_values o (members as') (members bs)))) e))

-- ---- members

pub offset_told : (z : ℤ) (bs : List Bool) → has_offset_of z (scalars_in (members bs)) ≡ has_offset z bs
offset_told (pos k) bs = one_member k bs
offset_told (negsuc k) bs = refl

pub in_no_bounds : (v w : ValueTree) → is_in v None w ≡ false
in_no_bounds (number n) w = refl
in_no_bounds (members bs) w = refl
in_no_bounds (parts vs) w = refl

pub complement_told : (bs : List Bool) (size : ℕ) (flat : List ℤ) → IsSet bs size flat → complement_of size flat ≡ scalars_in (members (map not bs))
complement_told bs size flat s = ap (λ (n : ℕ). complement_of n flat) (sym s.count) ∙ ap (λ (l : List ℤ). complement_of (length bs) l) (sym s.scalars) ∙ sym (complement_members bs)

-- whether a value is a member, by the first of its scalars
pub member_told : (v : ValueTree) (bs : List Bool) (left right : List ℤ) (n : ℤ) (o : Option Bounds) (b : Bounds) → (IsTrue (is_some o) → IsTrue (is_number v)) → scalars_in v ≡ left → scalars_in (members bs) ≡ right
    → slice_get left 0 ≡ Some n → o ≡ Some b → has_offset_of (n -ℤ b.low) right ≡ is_in v o (members bs)
member_told (number m) bs left right n o b one l r first some =
    let same : m ≡ n = (let here : slice_get (m ∷ []) 0 ≡ Some n = ap (λ (x : List ℤ). slice_get x 0) l ∙ first in cc) in
    ap (λ (x : List ℤ). has_offset_of (n -ℤ b.low) x) (sym r) ∙ ap (λ (x : ℤ). has_offset_of (x -ℤ b.low) (scalars_in (members bs))) (sym same)
    ∙ offset_told (m -ℤ b.low) bs ∙ sym (ap (λ (x : Option Bounds). is_in (number m) x (members bs)) some)
member_told (members xs) bs left right n o b one l r first some = absurd (not_one (ap (λ (x : Option Bounds). is_some x) some) (one (ap (λ (x : Option Bounds). is_some x) some)))
  where
    not_one : IsTrue (is_some o) → IsTrue (is_number (members xs)) → ⊥
    not_one s h = cc
member_told (parts vs) bs left right n o b one l r first some = absurd (not_one (ap (λ (x : Option Bounds). is_some x) some) (one (ap (λ (x : Option Bounds). is_some x) some)))
  where
    not_one : IsTrue (is_some o) → IsTrue (is_number (parts vs)) → ⊥
    not_one s h = cc

-- The results of operators on values of their operands' modes are values of the result's mode.
use Rattle.std.proofs.Common.{◌≡◌, ℕ, zero, suc, ◌&&◌, ◌||◌, Bool, true, false, List, [], ◌∷◌, Option, Some, None, ℤ, pos, ◌⊎◌, inl, inr, length, refl, sym, ap, ◌∙◌, subst, arith, true≢false}
use Rattle.std.specs.Prelude.{map, option_map, option_and_then, not, neg_ℤ, ◌+ℤ◌, ◌-ℤ◌, ◌*ℤ◌, int_le, int_div, int_rem, if◌then◌else◌}
use Rattle.std.specs.Int.{int_rem_euclid}
use Rattle.scalar_operators.specs.Numbers.{is_int as in_range, int_result, where_true, truth_number, truth_of, quotient, remainder, modulus}
use Rattle.chill_tree.specs.declared.tree.expr.Operator.{Operator}
use Rattle.chill_tree.specs.declared.tree.expr.Operator.TheVariants as ops
use Rattle.chill_tree.specs.declared.tree.expr.Prefix.{Prefix}
use Rattle.chill_tree.specs.declared.tree.expr.Prefix.TheVariants as prefixes
use Rattle.chill_tree.specs.ExprTree.{ExprTree}
use Rattle.modes.specs.declared.mode.Bounds.{Bounds}
use Rattle.modes.specs.ModeTree.{ModeTree, ClassTree, value, derived, null, nothing, boolean}
use Rattle.modes.specs.Bounds.{bounds_of, count_within}
use Rattle.modes.specs.Form.{FormTree, of_powerset}
use Rattle.modes.specs.Similar.{Shape, like_int, like_boolean, like_powerset}
use Rattle.checks_model.specs.Alike.{is_int, is_boolean, is_powerset, is_meeting, class_is, are_compatible}
use Rattle.checks_model.specs.ValueTrees.{ValueTree, number, members, parts}
use Rattle.checks_model.specs.Operations.{when, their_class, takes, is_arithmetic, is_logic, is_on_sets, is_equality, is_order, has_order, form_in, can_be_member, class_of_in, class_of_binary, class_of_unary}
use Rattle.checks_model.specs.OperatorValues.{in_int, truth_value, arithmetic, logic, holds_between, is_true, is_in, zipped, member_bounds, value_of_binary, value_of_unary, class_bounds}
use Rattle.checks_model.specs.Constants.{literal_in, negated, value_before}
use Rattle.elaborated_laws.proofs.Told.{no_some, same_some, there_mapped, there_chained, both_left, both_right}
use Rattle.there_laws.proofs.ConstantShapes.{of_when}
use Rattle.constant_laws.specs.Values.{IsBetween, IsOfShape, shape_in, FitsClass}
use Rattle.constant_laws.proofs.Numbers.{below, int_bounds, of_int}
use Rattle.constant_laws.proofs.Shapes.{form_shape, class_shape, tested_shape, int_shape, boolean_shape, powerset_in, is_single, member_part, NumberIn, a_number, MembersIn, the_members, IsRooted, their_root, own_root, rooted_shape, rooted_int, rooted_boolean, compatible_shapes}

-- ---- results in INT

-- a number of INT
pub record IntIn (x : ValueTree) : Type 0 where
  pub own : ℤ
  pub is : x ≡ number own
  pub between : IsBetween (Some int_bounds) own

held_int : (b : Bool) (z y : ℤ) → in_range z ≡ b → (if b then Some z else None) ≡ Some y → IsBetween (Some int_bounds) y
held_int true z y within is = subst (λ k. IsBetween (Some int_bounds) k) (same_some z y is) (of_int z within)
held_int false z y within is = no_some y is

result_int : (z y : ℤ) → int_result z ≡ Some y → IsBetween (Some int_bounds) y
result_int z y is = held_int (in_range z) z y refl is

mapped_int : (r : Option ℤ) (x : ValueTree) → ((y : ℤ) → r ≡ Some y → IsBetween (Some int_bounds) y) → option_map number r ≡ Some x → IntIn x
mapped_int r x each is = let there = there_mapped number r x is in record { own = there.0; is = sym there.2; between = each there.0 there.1 }

pub in_int_fits : (z : ℤ) (x : ValueTree) → in_int z ≡ Some x → IntIn x
in_int_fits z x is = mapped_int (int_result z) x (λ y. result_int z y) is

guarded : (b : Bool) (z y : ℤ) → (if b then int_result z else None) ≡ Some y → IsBetween (Some int_bounds) y
guarded true z y is = result_int z y is
guarded false z y is = no_some y is

arithmetic_int : (o : Operator) (a b : ℤ) (x : ValueTree) → arithmetic o a b ≡ Some x → IntIn x
arithmetic_int ops.Plus a b x is = in_int_fits (a +ℤ b) x is
arithmetic_int ops.Minus a b x is = in_int_fits (a -ℤ b) x is
arithmetic_int ops.Times a b x is = in_int_fits (a *ℤ b) x is
arithmetic_int ops.Divide a b x is = mapped_int (quotient a b) x (λ y. guarded (truth_of b) (int_div a b) y) is
arithmetic_int ops.Rem a b x is = mapped_int (remainder a b) x (λ y. guarded (truth_of b) (int_rem a b) y) is
arithmetic_int ops.Mod a b x is = mapped_int (modulus a b) x (λ y. guarded (int_le (pos 1) b) (int_rem_euclid a b) y) is
arithmetic_int o a b x is = no_some x is

-- where a class has the bounds of INT
pub int_fits : (c : ClassTree) (x : ValueTree) → shape_in c ≡ like_int → class_bounds c ≡ Some int_bounds → IntIn x → FitsClass c x
int_fits c x shape bounds i =
    subst (λ y. FitsClass c y) (sym i.is) (subst (λ s. IsOfShape (class_bounds c) s (number i.own)) (sym shape) (subst (λ k. IsBetween k i.own) (sym bounds) i.between))

-- ---- truth values

abbrev IsTruth : ValueTree → Type 0
IsTruth x = (b : Bool) × (x ≡ truth_value b)

truth_between : (b : Bool) → IsBetween (bounds_of boolean) (truth_number b)
truth_between true = (below (pos 0) (pos 1) refl, below (pos 1) (pos 1) refl)
truth_between false = (below (pos 0) (pos 0) refl, below (pos 0) (pos 1) refl)

pub truth_fits : (c : ClassTree) (x : ValueTree) → shape_in c ≡ like_boolean → class_bounds c ≡ bounds_of boolean → IsTruth x → FitsClass c x
truth_fits c x shape bounds t =
    subst (λ y. FitsClass c y) (sym t.1) (subst (λ s. IsOfShape (class_bounds c) s (truth_value t.0)) (sym shape) (subst (λ k. IsBetween k (truth_number t.0)) (sym bounds) (truth_between t.0)))

boolean_fits : (b : Bool) (c : ClassTree) (x : ValueTree) → when b (derived boolean) ≡ Some c → IsTruth x → FitsClass c x
boolean_fits b c x is t = let same = of_when b (derived boolean) c is in truth_fits c x (ap shape_in (sym same)) (ap class_bounds (sym same)) t

-- an operator that is neither arithmetic nor one on sets gives a truth value
truth_result : (o : Operator) (c : ClassTree) (v w x : ValueTree) → is_arithmetic o ≡ false → is_on_sets o ≡ false → value_of_binary o c v w ≡ Some x → IsTruth x
truth_result ops.In c v w x numbers sets is = (is_in v (member_bounds (form_in c)) w, sym (same_some (truth_value (is_in v (member_bounds (form_in c)) w)) x is))
truth_result ops.Plus c v w x numbers sets is = absurd (true≢false numbers)
truth_result ops.Minus c v w x numbers sets is = absurd (true≢false numbers)
truth_result ops.Times c v w x numbers sets is = absurd (true≢false numbers)
truth_result ops.Divide c v w x numbers sets is = absurd (true≢false numbers)
truth_result ops.Rem c v w x numbers sets is = absurd (true≢false numbers)
truth_result ops.Mod c v w x numbers sets is = absurd (true≢false numbers)
truth_result ops.Or c v w x numbers sets is = absurd (true≢false sets)
truth_result ops.And c v w x numbers sets is = absurd (true≢false sets)
truth_result ops.Xor c v w x numbers sets is = absurd (true≢false sets)
truth_result o c (members as') (members bs) x numbers sets is = (holds_between o (members as') (members bs), sym (same_some (truth_value (holds_between o (members as') (members bs))) x is))
truth_result o c (number a) (number b) x numbers sets is =
    let holds = if is_logic o then logic o (is_true (number a)) (is_true (number b)) else holds_between o (number a) (number b) in (holds, sym (same_some (truth_value holds) x is))
truth_result o c v w x numbers sets is = (holds_between o v w, sym (same_some (truth_value (holds_between o v w)) x is))

-- so does one of logic on numbers
logic_result : (o : Operator) (c : ClassTree) (a b : ℤ) (x : ValueTree) → is_logic o ≡ true → value_of_binary o c (number a) (number b) ≡ Some x → IsTruth x
logic_result ops.Or c a b x is made = (logic ops.Or (is_true (number a)) (is_true (number b)), sym (same_some (truth_value (logic ops.Or (is_true (number a)) (is_true (number b)))) x made))
logic_result ops.And c a b x is made = (logic ops.And (is_true (number a)) (is_true (number b)), sym (same_some (truth_value (logic ops.And (is_true (number a)) (is_true (number b)))) x made))
logic_result ops.Xor c a b x is made = (logic ops.Xor (is_true (number a)) (is_true (number b)), sym (same_some (truth_value (logic ops.Xor (is_true (number a)) (is_true (number b)))) x made))
logic_result ops.OrIf c a b x is made = (logic ops.OrIf (is_true (number a)) (is_true (number b)), sym (same_some (truth_value (logic ops.OrIf (is_true (number a)) (is_true (number b)))) x made))
logic_result ops.AndIf c a b x is made = (logic ops.AndIf (is_true (number a)) (is_true (number b)), sym (same_some (truth_value (logic ops.AndIf (is_true (number a)) (is_true (number b)))) x made))
logic_result o c a b x is made = absurd (true≢false (sym is))

sum_result : (o : Operator) (c : ClassTree) (a b : ℤ) (x : ValueTree) → is_arithmetic o ≡ true → value_of_binary o c (number a) (number b) ≡ Some x → IntIn x
sum_result ops.Plus c a b x is made = arithmetic_int ops.Plus a b x made
sum_result ops.Minus c a b x is made = arithmetic_int ops.Minus a b x made
sum_result ops.Times c a b x is made = arithmetic_int ops.Times a b x made
sum_result ops.Divide c a b x is made = arithmetic_int ops.Divide a b x made
sum_result ops.Rem c a b x is made = arithmetic_int ops.Rem a b x made
sum_result ops.Mod c a b x is made = arithmetic_int ops.Mod a b x made
sum_result o c a b x is made = absurd (true≢false (sym is))

set_result : (o : Operator) (c : ClassTree) (as' bs : List Bool) (x : ValueTree) → is_on_sets o ≡ true → value_of_binary o c (members as') (members bs) ≡ Some x → x ≡ members (zipped (logic o) as' bs)
set_result ops.Minus c as' bs x on is = sym (same_some (members (zipped (logic ops.Minus) as' bs)) x is)
set_result ops.Or c as' bs x on is = sym (same_some (members (zipped (logic ops.Or) as' bs)) x is)
set_result ops.And c as' bs x on is = sym (same_some (members (zipped (logic ops.And) as' bs)) x is)
set_result ops.Xor c as' bs x on is = sym (same_some (members (zipped (logic ops.Xor) as' bs)) x is)
set_result o c as' bs x on is = absurd (true≢false (sym on))

zipped_length : (f : Bool → Bool → Bool) (as' bs : List Bool) (n : ℕ) → length as' ≡ n → length bs ≡ n → length (zipped f as' bs) ≡ n
zipped_length f [] bs n first later = first
zipped_length f (a ∷ as') (b ∷ bs) zero first later = absurd (omega (arith, first))
zipped_length f (a ∷ as') [] n first later = later
zipped_length f (a ∷ as') (b ∷ bs) (suc n) first later = ap suc (zipped_length f as' bs n (let less : length as' ≡ n = omega (arith, first) in less) (let less : length bs ≡ n = omega (arith, later) in less))

-- ---- an operator between two operands

equality_apart : (o : Operator) → is_equality o ≡ true → (is_arithmetic o ≡ false) × (is_on_sets o ≡ false)
equality_apart ops.Equal is = (refl, refl)
equality_apart ops.NotEqual is = (refl, refl)
equality_apart o is = absurd (true≢false (sym is))

order_apart : (o : Operator) → is_order o ≡ true → (is_arithmetic o ≡ false) × (is_on_sets o ≡ false)
order_apart ops.Less is = (refl, refl)
order_apart ops.LessOrEqual is = (refl, refl)
order_apart ops.Greater is = (refl, refl)
order_apart ops.GreaterOrEqual is = (refl, refl)
order_apart o is = absurd (true≢false (sym is))

in_fits : (o : Operator) (l r c : ClassTree) (v w x : ValueTree) → class_of_in o l r ≡ Some c → value_of_binary o r v w ≡ Some x → FitsClass c x
in_fits ops.In l r c v w x is result = boolean_fits (can_be_member l r) c x is (truth_result ops.In r v w x refl refl result)
in_fits o l r c v w x is result = no_some c is

or_cases : (a b : Bool) → (a || b) ≡ true → (a ≡ true) ⊎ (b ≡ true)
or_cases true b holds = inl refl
or_cases false b holds = inr holds

-- the class of the result, and of either operand where they are compatible
result_shape : (l r c : ClassTree) → IsRooted l c ⊎ IsRooted r c → shape_in l ≡ shape_in r → shape_in c ≡ shape_in l
result_shape l r c rooted same = elim rooted [
  | inl own ↦ rooted_shape l c own
  | inr own ↦ rooted_shape r c own ∙ sym same
]

result_int_bounds : (l r c : ClassTree) → IsRooted l c ⊎ IsRooted r c → shape_in l ≡ shape_in r → shape_in l ≡ like_int → class_bounds c ≡ Some int_bounds
result_int_bounds l r c rooted same is = elim rooted [
  | inl own ↦ rooted_int l c own is
  | inr own ↦ rooted_int r c own (sym same ∙ is)
]

result_boolean_bounds : (l r c : ClassTree) → IsRooted l c ⊎ IsRooted r c → shape_in l ≡ shape_in r → shape_in l ≡ like_boolean → class_bounds c ≡ bounds_of boolean
result_boolean_bounds l r c rooted same is = elim rooted [
  | inl own ↦ rooted_boolean l c own is
  | inr own ↦ rooted_boolean r c own (sym same ∙ is)
]

number_of : (c : ClassTree) (s : Shape) (v : ValueTree) → shape_in c ≡ s → is_single s ≡ true → FitsClass c v → NumberIn (class_bounds c) v
number_of c s v is single fits = a_number (class_bounds c) s v single (subst (λ k. IsOfShape (class_bounds c) k v) is fits)

members_of : (c : ClassTree) (m : Shape) (v : ValueTree) → shape_in c ≡ like_powerset m → FitsClass c v → MembersIn m v
members_of c m v is fits = the_members (class_bounds c) m v (subst (λ k. IsOfShape (class_bounds c) k v) is fits)

sums_fit : (o : Operator) (l r c : ClassTree) (v w x : ValueTree) → is_arithmetic o ≡ true → shape_in l ≡ like_int → shape_in l ≡ shape_in r → IsRooted l c ⊎ IsRooted r c → FitsClass l v → FitsClass r w → value_of_binary o r v w ≡ Some x → FitsClass c x
sums_fit o l r c v w x on is same rooted left right result =
    let a = number_of l like_int v is refl left in
    let b = number_of r like_int w (sym same ∙ is) refl right in
    int_fits c x (result_shape l r c rooted same ∙ is) (result_int_bounds l r c rooted same is)
    (sum_result o r a.own b.own x on (subst (λ k. value_of_binary o r k (number b.own) ≡ Some x) a.is (subst (λ k. value_of_binary o r v k ≡ Some x) b.is result)))

truths_fit : (o : Operator) (l r c : ClassTree) (v w x : ValueTree) → is_logic o ≡ true → shape_in l ≡ like_boolean → shape_in l ≡ shape_in r → IsRooted l c ⊎ IsRooted r c → FitsClass l v → FitsClass r w → value_of_binary o r v w ≡ Some x → FitsClass c x
truths_fit o l r c v w x on is same rooted left right result =
    let a = number_of l like_boolean v is refl left in
    let b = number_of r like_boolean w (sym same ∙ is) refl right in
    truth_fits c x (result_shape l r c rooted same ∙ is) (result_boolean_bounds l r c rooted same is)
    (logic_result o r a.own b.own x on (subst (λ k. value_of_binary o r k (number b.own) ≡ Some x) a.is (subst (λ k. value_of_binary o r v k ≡ Some x) b.is result)))

sets_fit : (o : Operator) (l r c : ClassTree) (v w x : ValueTree) → is_on_sets o ≡ true → class_is is_powerset l ≡ true → shape_in l ≡ shape_in r → IsRooted l c ⊎ IsRooted r c → FitsClass l v → FitsClass r w → value_of_binary o r v w ≡ Some x → FitsClass c x
sets_fit o l r c v w x on set same rooted left right result =
    let p = powerset_in l set in
    let is = class_shape l (of_powerset p.mode) p.form in
    let m = member_part p.mode in
    let a = members_of l m v is left in
    let b = members_of r m w (sym same ∙ is) right in
    let made = set_result o r a.own b.own x on (subst (λ k. value_of_binary o r k (members b.own) ≡ Some x) a.is (subst (λ k. value_of_binary o r v k ≡ Some x) b.is result)) in
    subst (λ y. FitsClass c y) (sym made)
    (subst (λ s. IsOfShape (class_bounds c) s (members (zipped (logic o) a.own b.own))) (sym (result_shape l r c rooted same ∙ is)) (zipped_length (logic o) a.own b.own (count_within (bounds_of p.mode)) a.of b.of))

taken_fit : (o : Operator) (l r c : ClassTree) (v w x : ValueTree) → takes o l ≡ true → shape_in l ≡ shape_in r → IsRooted l c ⊎ IsRooted r c → FitsClass l v → FitsClass r w → value_of_binary o r v w ≡ Some x → FitsClass c x
taken_fit o l r c v w x fits same rooted left right result = elim (or_cases (is_arithmetic o && class_is is_int l) ((is_on_sets o && class_is is_powerset l) || (is_logic o && class_is is_boolean l)) fits) [
  | inl whole_number ↦ sums_fit o l r c v w x (both_left (is_arithmetic o) (class_is is_int l) whole_number) (tested_shape is_int like_int l int_shape (both_right (is_arithmetic o) (class_is is_int l) whole_number)) same rooted left right result
  | inr others ↦ elim (or_cases (is_on_sets o && class_is is_powerset l) (is_logic o && class_is is_boolean l) others) [
    | inl sets ↦ sets_fit o l r c v w x (both_left (is_on_sets o) (class_is is_powerset l) sets) (both_right (is_on_sets o) (class_is is_powerset l) sets) same rooted left right result
    | inr truths ↦ truths_fit o l r c v w x (both_left (is_logic o) (class_is is_boolean l) truths) (tested_shape is_boolean like_boolean l boolean_shape (both_right (is_logic o) (class_is is_boolean l) truths)) same rooted left right result
  ]
]

pub binary_fits : (o : Operator) (l r c : ClassTree) (v w x : ValueTree) → class_of_binary o l r ≡ Some c → FitsClass l v → FitsClass r w → value_of_binary o r v w ≡ Some x → FitsClass c x
binary_fits o l r c v w x is left right result = by_equality (is_equality o) refl is
  where
    others : Option ClassTree
    others = if takes o l && are_compatible l r then their_class l r else class_of_in o l r

    ordered : Option ClassTree
    ordered = if is_order o then when (are_compatible l r && class_is has_order l) (derived boolean) else others

    by_takes : (b : Bool) → (takes o l && are_compatible l r) ≡ b → (if b then their_class l r else class_of_in o l r) ≡ Some c → FitsClass c x
    by_takes true fits is =
        taken_fit o l r c v w x (both_left (takes o l) (are_compatible l r) fits) (compatible_shapes l r (both_right (takes o l) (are_compatible l r) fits)) (their_root l r c is) left right result
    by_takes false fits is = in_fits o l r c v w x is result

    by_order : (b : Bool) → is_order o ≡ b → (if b then when (are_compatible l r && class_is has_order l) (derived boolean) else others) ≡ Some c → FitsClass c x
    by_order true orders is = let apart = order_apart o orders in boolean_fits (are_compatible l r && class_is has_order l) c x is (truth_result o r v w x apart.0 apart.1 result)
    by_order false orders is = by_takes (takes o l && are_compatible l r) refl is

    by_equality : (b : Bool) → is_equality o ≡ b → (if b then when (are_compatible l r && not (class_is is_meeting l || class_is is_meeting r)) (derived boolean) else ordered) ≡ Some c → FitsClass c x
    by_equality true equals is = let apart = equality_apart o equals in boolean_fits (are_compatible l r && not (class_is is_meeting l || class_is is_meeting r)) c x is (truth_result o r v w x apart.0 apart.1 result)
    by_equality false equals is = by_order (is_order o) refl is

-- ---- signs

pub when_holds : {A : Type 0} (b : Bool) (x y : A) → when b x ≡ Some y → b ≡ true
when_holds true x y is = refl
when_holds false x y is = no_some y is

pub of_choice : {A : Type 0} (b : Bool) (x : Option A) (y : A) → (if b then x else None) ≡ Some y → (b ≡ true) × (x ≡ Some y)
of_choice true x y is = (refl, is)
of_choice false x y is = no_some y is

minus_int : (v x : ValueTree) → value_of_unary prefixes.Minus v ≡ Some x → IntIn x
minus_int (number n) x is = in_int_fits (neg_ℤ n) x is
minus_int (members bs) x is = no_some x is
minus_int (parts vs) x is = no_some x is

negated_int : (l : Option ℕ) (v : Option ValueTree) (x : ValueTree) → negated l v ≡ Some x → IntIn x
negated_int (Some n) v x is = in_int_fits (neg_ℤ (pos n)) x is
negated_int None v x is = let there = there_chained (value_of_unary prefixes.Minus) v x is in minus_int there.0 x there.2

mapped_length : (f : Bool → Bool) (bs : List Bool) → length (map f bs) ≡ length bs
mapped_length f [] = refl
mapped_length f (b ∷ bs) = ap suc (mapped_length f bs)

not_truth : (k c : ClassTree) (v x : ValueTree) → IsRooted k c → shape_in k ≡ like_boolean → FitsClass k v → value_of_unary prefixes.Not v ≡ Some x → FitsClass c x
not_truth k c v x rooted is fits made =
    let a = number_of k like_boolean v is refl fits in
    let result : Some (truth_value (not (truth_of a.own))) ≡ Some x = subst (λ y. value_of_unary prefixes.Not y ≡ Some x) a.is made in
    truth_fits c x (rooted_shape k c rooted ∙ is) (rooted_boolean k c rooted is) (not (truth_of a.own), sym (same_some (truth_value (not (truth_of a.own))) x result))

not_set : (k c : ClassTree) (v x : ValueTree) → IsRooted k c → class_is is_powerset k ≡ true → FitsClass k v → value_of_unary prefixes.Not v ≡ Some x → FitsClass c x
not_set k c v x rooted set fits made =
    let p = powerset_in k set in
    let is = class_shape k (of_powerset p.mode) p.form in
    let a = members_of k (member_part p.mode) v is fits in
    let result : Some (members (map not a.own)) ≡ Some x = subst (λ y. value_of_unary prefixes.Not y ≡ Some x) a.is made in
    subst (λ y. FitsClass c y) (same_some (members (map not a.own)) x result)
    (subst (λ s. IsOfShape (class_bounds c) s (members (map not a.own))) (sym (rooted_shape k c rooted ∙ is)) (mapped_length not a.own ∙ a.of))

pub minus_fits : (e : ExprTree) (k c : ClassTree) (v : Option ValueTree) (x : ValueTree) → class_of_unary prefixes.Minus k ≡ Some c → value_before prefixes.Minus e v ≡ Some x → FitsClass c x
minus_fits e k c v x is result =
    let own = of_choice (class_is is_int k) (their_class k k) c is in
    let rooted = own_root k c own.1 in
    let shape = tested_shape is_int like_int k int_shape own.0 in
    int_fits c x (rooted_shape k c rooted ∙ shape) (rooted_int k c rooted shape) (negated_int (literal_in e) v x result)

pub not_fits : (e : ExprTree) (k c : ClassTree) (v : Option ValueTree) (x : ValueTree) → class_of_unary prefixes.Not k ≡ Some c → ((y : ValueTree) → v ≡ Some y → FitsClass k y) → value_before prefixes.Not e v ≡ Some x → FitsClass c x
not_fits e k c v x is operand result =
    let own = of_choice (class_is is_boolean k || class_is is_powerset k) (their_class k k) c is in
    let rooted = own_root k c own.1 in
    let there = there_chained (value_of_unary prefixes.Not) v x result in
    elim (or_cases (class_is is_boolean k) (class_is is_powerset k) own.0) [
      | inl truth ↦ not_truth k c there.0 x rooted (tested_shape is_boolean like_boolean k boolean_shape truth) (operand there.0 there.1) there.2
      | inr set ↦ not_set k c there.0 x rooted set (operand there.0 there.1) there.2
    ]

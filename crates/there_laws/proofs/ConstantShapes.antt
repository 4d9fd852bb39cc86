-- The value of a constant is a number, a powerset or parts, as its class says.
use Rattle.std.proofs.Common.{◌≡◌, ◌&&◌, ◌||◌, Bool, true, false, List, [], Option, Some, None, ℕ, ℤ, pos, ◌⊎◌, inl, inr, refl, sym, ap, ◌∙◌, subst, true≢false}
use Rattle.std.specs.Prelude.{is_some, map, replicate, option_map, option_and_then, not, int_le, neg_ℤ, ◌+ℤ◌, ◌-ℤ◌, ◌*ℤ◌, length, if◌then◌else◌}
use Rattle.scalar_operators.specs.Numbers.{int_result, truth_number, truth_of, quotient, remainder, modulus, magnitude}
use Rattle.chill_tree.specs.declared.tree.expr.Operator.{Operator}
use Rattle.chill_tree.specs.declared.tree.expr.Operator.TheVariants as ops
use Rattle.chill_tree.specs.declared.tree.expr.Prefix.{Prefix}
use Rattle.chill_tree.specs.declared.tree.expr.Prefix.TheVariants as prefixes
use Rattle.chill_tree.specs.ExprTree.{ExprTree, RangeNodes, whole, character, text, this_instance, paren, receive, start, tuple, uniform, name, apply, field, prefixed, binary}
use Rattle.modes.specs.declared.mode.Bounds.{Bounds}
use Rattle.modes.specs.ModeTree.{ModeTree, ClassTree, value, derived, null, nothing, int, boolean, char, chars}
use Rattle.modes.specs.Form.{FormTree, form_of, of_int, of_boolean, of_char, of_instance, of_set, of_powerset, of_chars, of_array, of_structure, of_meeting}
use Rattle.modes.specs.Bounds.{bounds_of, values_of}
use Rattle.modes.specs.Roots.{root_of, novelty_of}
use Rattle.checks_model.specs.Alike.{class_is, same_number, is_int, is_boolean, is_instance, is_powerset, is_discrete, is_meeting, are_similar, are_v_equivalent, are_compatible}
use Rattle.checks_model.specs.ValueTrees.{ValueTree, number, members, parts, value_nodes}
use Rattle.checks_model.specs.Ground.{Predefined, num, succ, pred, abs, card, min, max, upper, lower, size}
use Rattle.checks_model.specs.Operations.{when, their_class, takes, is_arithmetic, is_logic, is_on_sets, is_equality, is_order, has_order, form_in, can_be_member, class_of_in, class_of_binary, class_of_unary, member_class, class_of_routine, class_of_measure, measured_mode}
use Rattle.checks_model.specs.OperatorValues.{truth_value, arithmetic, logic, holds_between, is_true, is_in, zipped, member_bounds, value_of_binary, value_of_unary, count_true, least_of, greatest_of, at_offset, up_to, down_to, class_bounds, value_of_routine, value_of_measure}
use Rattle.checks_model.specs.Classes.{class_of, class_of_first, mode_of_part, class_behind, class_of_call, class_of_measured, both_classes, result_class, Callee, calls, routine, no_callee, callee_of, Measured, a_mode_of, misfit, other, measured_first, tuple_mode, value_if, shape_fits, uniform_fits}
use Rattle.checks_model.specs.Constants.{value_routine, constant_as, constant_of, value_of_first, values_of_ranges, applied, literal_in, negated, value_before, value_of_call, value_of_measured, tuple_value, value_of_parts, members_from, set_of_ranges, uniform_value, uniform_of}
use Rattle.layout_map.specs.Spots.{spots_of, words_of}
use Rattle.elaborated_laws.proofs.Told.{no_some, same_some, there_mapped, there_chained, both_left, both_right}
use Rattle.there_laws.specs.Shapes.{is_number, is_members, are_parts, has_shape, shape_by, is_of_class, ConstantShapeLaw}
use Rattle.there_laws.proofs.Shapes.{similar_shape, root_form, bounded_number}

-- ---- numbers

some_number : (n : ℤ) (x : ValueTree) → Some (number n) ≡ Some x → is_number x ≡ true
some_number n x is = ap is_number (sym (same_some (number n) x is))

mapped_number : (y : Option ℤ) (x : ValueTree) → option_map number y ≡ Some x → is_number x ≡ true
mapped_number (Some n) x is = some_number n x is
mapped_number None x is = no_some x is

-- ---- operators

arithmetic_number : (o : Operator) (a b : ℤ) (x : ValueTree) → arithmetic o a b ≡ Some x → is_number x ≡ true
arithmetic_number ops.Plus a b x is = mapped_number (int_result (a +ℤ b)) x is
arithmetic_number ops.Minus a b x is = mapped_number (int_result (a -ℤ b)) x is
arithmetic_number ops.Times a b x is = mapped_number (int_result (a *ℤ b)) x is
arithmetic_number ops.Divide a b x is = mapped_number (quotient a b) x is
arithmetic_number ops.Rem a b x is = mapped_number (remainder a b) x is
arithmetic_number ops.Mod a b x is = mapped_number (modulus a b) x is
arithmetic_number o a b x is = no_some x is

-- operands but two powersets give a number
operands_number : (o : Operator) (c : ClassTree) (v w x : ValueTree) → (is_members v && is_members w) ≡ false → value_of_binary o c v w ≡ Some x → is_number x ≡ true
operands_number ops.In c v w x apart is = some_number (truth_number (is_in v (member_bounds (form_in c)) w)) x is
operands_number ops.Plus c (number a) (number b) x apart is = arithmetic_number ops.Plus a b x is
operands_number ops.Minus c (number a) (number b) x apart is = arithmetic_number ops.Minus a b x is
operands_number ops.Times c (number a) (number b) x apart is = arithmetic_number ops.Times a b x is
operands_number ops.Divide c (number a) (number b) x apart is = arithmetic_number ops.Divide a b x is
operands_number ops.Rem c (number a) (number b) x apart is = arithmetic_number ops.Rem a b x is
operands_number ops.Mod c (number a) (number b) x apart is = arithmetic_number ops.Mod a b x is
operands_number o c (members as') (members bs) x apart is = absurd (true≢false apart)
operands_number o c (number a) (number b) x apart is = some_number (truth_number (if is_logic o then logic o (is_true (number a)) (is_true (number b)) else holds_between o (number a) (number b))) x is
operands_number o c v w x apart is = some_number (truth_number (holds_between o v w)) x is

-- of two powersets too, where the operator isn't one on sets
sets_number : (o : Operator) (c : ClassTree) (as' bs : List Bool) (x : ValueTree) → is_on_sets o ≡ false → value_of_binary o c (members as') (members bs) ≡ Some x → is_number x ≡ true
sets_number ops.In c as' bs x apart is = some_number (truth_number (is_in (members as') (member_bounds (form_in c)) (members bs))) x is
sets_number ops.Minus c as' bs x apart is = absurd (true≢false apart)
sets_number ops.Or c as' bs x apart is = absurd (true≢false apart)
sets_number ops.And c as' bs x apart is = absurd (true≢false apart)
sets_number ops.Xor c as' bs x apart is = absurd (true≢false apart)
sets_number o c as' bs x apart is = some_number (truth_number (holds_between o (members as') (members bs))) x is

truth_is_number : (o : Operator) (c : ClassTree) (v w x : ValueTree) → is_on_sets o ≡ false → value_of_binary o c v w ≡ Some x → is_number x ≡ true
truth_is_number o c (members as') (members bs) x apart is = sets_number o c as' bs x apart is
truth_is_number o c (number a) w x apart is = operands_number o c (number a) w x refl is
truth_is_number o c (parts vs) w x apart is = operands_number o c (parts vs) w x refl is
truth_is_number o c (members as') (number b) x apart is = operands_number o c (members as') (number b) x refl is
truth_is_number o c (members as') (parts ws) x apart is = operands_number o c (members as') (parts ws) x refl is

-- and a powerset where it is one
sets_members : (o : Operator) (c : ClassTree) (v w x : ValueTree) → is_on_sets o ≡ true → is_members v ≡ true → is_members w ≡ true → value_of_binary o c v w ≡ Some x → is_members x ≡ true
sets_members ops.Minus c (members as') (members bs) x on left right is = ap is_members (sym (same_some (members (zipped (logic ops.Minus) as' bs)) x is))
sets_members ops.Or c (members as') (members bs) x on left right is = ap is_members (sym (same_some (members (zipped (logic ops.Or) as' bs)) x is))
sets_members ops.And c (members as') (members bs) x on left right is = ap is_members (sym (same_some (members (zipped (logic ops.And) as' bs)) x is))
sets_members ops.Xor c (members as') (members bs) x on left right is = ap is_members (sym (same_some (members (zipped (logic ops.Xor) as' bs)) x is))
sets_members o c (number a) w x on left right is = absurd (true≢false (sym left))
sets_members o c (parts vs) w x on left right is = absurd (true≢false (sym left))
sets_members o c (members as') (number b) x on left right is = absurd (true≢false (sym right))
sets_members o c (members as') (parts ws) x on left right is = absurd (true≢false (sym right))
sets_members o c (members as') (members bs) x on left right is = absurd (true≢false (sym on))

-- ---- forms

int_form : (f : FormTree) (x : ValueTree) → is_int f ≡ true → has_shape f x ≡ is_number x
int_form of_int x is = refl
int_form f x is = absurd (true≢false (sym is))

boolean_form : (f : FormTree) (x : ValueTree) → is_boolean f ≡ true → has_shape f x ≡ is_number x
boolean_form of_boolean x is = refl
boolean_form f x is = absurd (true≢false (sym is))

pub instance_form : (f : FormTree) (x : ValueTree) → is_instance f ≡ true → has_shape f x ≡ is_number x
instance_form of_instance x is = refl
instance_form f x is = absurd (true≢false (sym is))

powerset_form : (f : FormTree) (x : ValueTree) → is_powerset f ≡ true → has_shape f x ≡ is_members x
powerset_form (of_powerset m) x is = refl
powerset_form f x is = absurd (true≢false (sym is))

pub discrete_form : (f : FormTree) (x : ValueTree) → is_discrete f ≡ true → has_shape f x ≡ is_number x
discrete_form of_int x is = refl
discrete_form of_boolean x is = refl
discrete_form of_char x is = refl
discrete_form (of_set d n) x is = refl
discrete_form f x is = absurd (true≢false (sym is))

-- a class of a form
class_form : (test : FormTree → Bool) (of : ValueTree → Bool) (c : ClassTree) (x : ValueTree) → ((f : FormTree) → test f ≡ true → has_shape f x ≡ of x) → class_is test c ≡ true → is_of_class c x ≡ of x
class_form test of (value m) x fits is = fits (form_of m) is
class_form test of (derived m) x fits is = fits (form_of m) is
class_form test of null x fits is = absurd (true≢false (sym is))
class_form test of nothing x fits is = absurd (true≢false (sym is))

number_class : (test : FormTree → Bool) (c : ClassTree) (x : ValueTree) → ((f : FormTree) (y : ValueTree) → test f ≡ true → has_shape f y ≡ is_number y) → class_is test c ≡ true → is_number x ≡ true → is_of_class c x ≡ true
number_class test c x fits is holds = class_form test is_number c x (λ f. fits f x) is ∙ holds

members_only : (f : FormTree) (w : ValueTree) → has_shape f (members []) ≡ true → has_shape f w ≡ true → is_members w ≡ true
members_only (of_powerset m) w is holds = holds
members_only f w is holds = absurd (true≢false (sym is))

-- ---- compatible classes have values of one shape

pub similar_left : (a b : ModeTree) (x : ValueTree) → are_v_equivalent a b ≡ true → has_shape (form_of a) x ≡ true → has_shape (form_of b) x ≡ true
similar_left a b x same holds = similar_shape a b x (both_left (are_similar a b) (same_number (novelty_of a) (novelty_of b)) same) holds

compatible_shape : (l r : ClassTree) (x : ValueTree) → are_compatible l r ≡ true → is_of_class l x ≡ true → is_of_class r x ≡ true
compatible_shape (value a) (value b) x same holds = similar_left a b x same holds
compatible_shape (value a) (derived b) x same holds = similar_shape a b x same holds
compatible_shape (derived a) (value b) x same holds = similar_shape a b x same holds
compatible_shape (derived a) (derived b) x same holds = similar_shape a b x same holds
compatible_shape (value a) null x same holds = sym (instance_form (form_of a) x same) ∙ holds
compatible_shape (derived a) null x same holds = sym (instance_form (form_of a) x same) ∙ holds
compatible_shape null (value b) x same holds = instance_form (form_of b) x same ∙ holds
compatible_shape null (derived b) x same holds = instance_form (form_of b) x same ∙ holds
compatible_shape null null x same holds = holds
compatible_shape (value a) nothing x same holds = absurd (true≢false (sym same))
compatible_shape (derived a) nothing x same holds = absurd (true≢false (sym same))
compatible_shape null nothing x same holds = absurd (true≢false (sym same))
compatible_shape nothing r x same holds = absurd (true≢false (sym same))

rooted : (m : ModeTree) (x : ValueTree) → has_shape (form_of m) x ≡ true → has_shape (form_of (root_of m)) x ≡ true
rooted m x holds = ap (λ f. has_shape f x) (root_form m) ∙ holds

of_value : (m : ModeTree) (c : ClassTree) (x : ValueTree) → Some (value (root_of m)) ≡ Some c → has_shape (form_of m) x ≡ true → is_of_class c x ≡ true
of_value m c x is holds = subst (λ k. is_of_class k x ≡ true) (same_some (value (root_of m)) c is) (rooted m x holds)

of_derived : (m : ModeTree) (c : ClassTree) (x : ValueTree) → Some (derived (root_of m)) ≡ Some c → has_shape (form_of m) x ≡ true → is_of_class c x ≡ true
of_derived m c x is holds = subst (λ k. is_of_class k x ≡ true) (same_some (derived (root_of m)) c is) (rooted m x holds)

their_shape : (l r c : ClassTree) (x : ValueTree) → their_class l r ≡ Some c → are_compatible l r ≡ true → is_of_class l x ≡ true → is_of_class c x ≡ true
their_shape (value a) (value b) c x is same holds = of_value a c x is holds
their_shape (value a) (derived b) c x is same holds = of_value a c x is holds
their_shape (value a) null c x is same holds = of_value a c x is holds
their_shape (value a) nothing c x is same holds = of_value a c x is holds
their_shape (derived a) (value b) c x is same holds = of_value b c x is (compatible_shape (derived a) (value b) x same holds)
their_shape (derived a) (derived b) c x is same holds = of_derived a c x is holds
their_shape (derived a) null c x is same holds = of_derived a c x is holds
their_shape (derived a) nothing c x is same holds = of_derived a c x is holds
their_shape null (value b) c x is same holds = of_value b c x is (compatible_shape null (value b) x same holds)
their_shape null (derived b) c x is same holds = no_some c is
their_shape null null c x is same holds = no_some c is
their_shape null nothing c x is same holds = no_some c is
their_shape nothing r c x is same holds = absurd (true≢false (sym same))

own_shape : (k c : ClassTree) (x : ValueTree) → their_class k k ≡ Some c → is_of_class k x ≡ true → is_of_class c x ≡ true
own_shape (value a) c x is holds = of_value a c x is holds
own_shape (derived a) c x is holds = of_derived a c x is holds
own_shape null c x is holds = no_some c is
own_shape nothing c x is holds = no_some c is

-- ---- an operator between two operands

pub of_when : {A : Type 0} (b : Bool) (x y : A) → when b x ≡ Some y → x ≡ y
of_when true x y is = same_some x y is
of_when false x y is = no_some y is

when_holds : {A : Type 0} (b : Bool) (x y : A) → when b x ≡ Some y → b ≡ true
when_holds true x y is = refl
when_holds false x y is = no_some y is

truth_shape : (b : Bool) (c : ClassTree) (x : ValueTree) → when b (derived boolean) ≡ Some c → is_number x ≡ true → is_of_class c x ≡ true
truth_shape b c x is holds = subst (λ k. is_of_class k x ≡ true) (of_when b (derived boolean) c is) holds

equality_apart : (o : Operator) → is_equality o ≡ true → is_on_sets o ≡ false
equality_apart ops.Equal is = refl
equality_apart ops.NotEqual is = refl
equality_apart o is = absurd (true≢false (sym is))

order_apart : (o : Operator) → is_order o ≡ true → is_on_sets o ≡ false
order_apart ops.Less is = refl
order_apart ops.LessOrEqual is = refl
order_apart ops.Greater is = refl
order_apart ops.GreaterOrEqual is = refl
order_apart o is = absurd (true≢false (sym is))

in_shape : (o : Operator) (l r c : ClassTree) (v w x : ValueTree) → class_of_in o l r ≡ Some c → value_of_binary o r v w ≡ Some x → is_of_class c x ≡ true
in_shape ops.In l r c v w x is result = truth_shape (can_be_member l r) c x is (truth_is_number ops.In r v w x refl result)
in_shape o l r c v w x is result = no_some c is

not_members : (v : ValueTree) (w : ValueTree) → is_number v ≡ true → (is_members v && is_members w) ≡ false
not_members (number n) w is = refl
not_members (members bs) w is = absurd (true≢false (sym is))
not_members (parts vs) w is = absurd (true≢false (sym is))

or_cases : (a b : Bool) → (a || b) ≡ true → (a ≡ true) ⊎ (b ≡ true)
or_cases true b holds = inl refl
or_cases false b holds = inr holds

-- the operands are numbers, or powersets
taken_shape : (o : Operator) (l r : ClassTree) (v w x : ValueTree) → takes o l ≡ true → are_compatible l r ≡ true → is_of_class l v ≡ true → is_of_class r w ≡ true → value_of_binary o r v w ≡ Some x → is_of_class l x ≡ true
taken_shape o l r v w x fits same left right result = elim (or_cases (is_arithmetic o && class_is is_int l) ((is_on_sets o && class_is is_powerset l) || (is_logic o && class_is is_boolean l)) fits) [
  | inl whole_number ↦ of_numbers is_int int_form (both_right (is_arithmetic o) (class_is is_int l) whole_number)
  | inr others ↦ elim (or_cases (is_on_sets o && class_is is_powerset l) (is_logic o && class_is is_boolean l) others) [
    | inl sets ↦ of_sets (both_left (is_on_sets o) (class_is is_powerset l) sets) (both_right (is_on_sets o) (class_is is_powerset l) sets)
    | inr truths ↦ of_numbers is_boolean boolean_form (both_right (is_logic o) (class_is is_boolean l) truths)
  ]
]
  where
    of_numbers : (test : FormTree → Bool) → ((f : FormTree) (y : ValueTree) → test f ≡ true → has_shape f y ≡ is_number y) → class_is test l ≡ true → is_of_class l x ≡ true
    of_numbers test form is = number_class test l x form is (operands_number o r v w x (not_members v w (sym (class_form test is_number l v (λ f. form f v) is) ∙ left)) result)

    is_set : (k : ClassTree) (y : ValueTree) → is_of_class k (members []) ≡ true → is_of_class k y ≡ true → is_members y ≡ true
    is_set (value m) y set holds = members_only (form_of m) y set holds
    is_set (derived m) y set holds = members_only (form_of m) y set holds
    is_set null y set holds = absurd (true≢false (sym set))
    is_set nothing y set holds = absurd (true≢false (sym set))

    of_sets : is_on_sets o ≡ true → class_is is_powerset l ≡ true → is_of_class l x ≡ true
    of_sets on is =
        let of_members = class_form is_powerset is_members l in
        let set : is_of_class r (members []) ≡ true = compatible_shape l r (members []) same (of_members (members []) (λ f. powerset_form f (members [])) is) in
        of_members x (λ f. powerset_form f x) is ∙ sets_members o r v w x on (sym (of_members v (λ f. powerset_form f v) is) ∙ left) (is_set r w set right) result

binary_shape : (o : Operator) (l r c : ClassTree) (v w x : ValueTree) → class_of_binary o l r ≡ Some c → is_of_class l v ≡ true → is_of_class r w ≡ true → value_of_binary o r v w ≡ Some x → is_of_class c x ≡ true
binary_shape o l r c v w x is left right result = by_equality (is_equality o) refl is
  where
    others : Option ClassTree
    others = if takes o l && are_compatible l r then their_class l r else class_of_in o l r

    ordered : Option ClassTree
    ordered = if is_order o then when (are_compatible l r && class_is has_order l) (derived boolean) else others

    by_takes : (b : Bool) → (takes o l && are_compatible l r) ≡ b → (if b then their_class l r else class_of_in o l r) ≡ Some c → is_of_class c x ≡ true
    by_takes true fits is =
        let same = both_right (takes o l) (are_compatible l r) fits in
        their_shape l r c x is same (taken_shape o l r v w x (both_left (takes o l) (are_compatible l r) fits) same left right result)
    by_takes false fits is = in_shape o l r c v w x is result

    by_order : (b : Bool) → is_order o ≡ b → (if b then when (are_compatible l r && class_is has_order l) (derived boolean) else others) ≡ Some c → is_of_class c x ≡ true
    by_order true orders is = truth_shape (are_compatible l r && class_is has_order l) c x is (truth_is_number o r v w x (order_apart o orders) result)
    by_order false orders is = by_takes (takes o l && are_compatible l r) refl is

    by_equality : (b : Bool) → is_equality o ≡ b → (if b then when (are_compatible l r && not (class_is is_meeting l || class_is is_meeting r)) (derived boolean) else ordered) ≡ Some c → is_of_class c x ≡ true
    by_equality true equals is = truth_shape (are_compatible l r && not (class_is is_meeting l || class_is is_meeting r)) c x is (truth_is_number o r v w x (equality_apart o equals) result)
    by_equality false equals is = by_order (is_order o) refl is

-- ---- signs

numbers_alike : (f : Option FormTree) (a b : ℤ) → shape_by f (number a) ≡ shape_by f (number b)
numbers_alike None a b = refl
numbers_alike (Some of_int) a b = refl
numbers_alike (Some of_boolean) a b = refl
numbers_alike (Some of_char) a b = refl
numbers_alike (Some of_instance) a b = refl
numbers_alike (Some (of_set d n)) a b = refl
numbers_alike (Some (of_powerset m)) a b = refl
numbers_alike (Some (of_chars n)) a b = refl
numbers_alike (Some (of_array i e how)) a b = refl
numbers_alike (Some (of_structure fs p)) a b = refl
numbers_alike (Some of_meeting) a b = refl

members_alike : (f : Option FormTree) (as' bs : List Bool) → shape_by f (members as') ≡ shape_by f (members bs)
members_alike None as' bs = refl
members_alike (Some of_int) as' bs = refl
members_alike (Some of_boolean) as' bs = refl
members_alike (Some of_char) as' bs = refl
members_alike (Some of_instance) as' bs = refl
members_alike (Some (of_set d n)) as' bs = refl
members_alike (Some (of_powerset m)) as' bs = refl
members_alike (Some (of_chars n)) as' bs = refl
members_alike (Some (of_array i e how)) as' bs = refl
members_alike (Some (of_structure fs p)) as' bs = refl
members_alike (Some of_meeting) as' bs = refl

-- NOT keeps the shape
not_shape : (f : Option FormTree) (v x : ValueTree) → shape_by f v ≡ true → value_of_unary prefixes.Not v ≡ Some x → shape_by f x ≡ true
not_shape f (number n) x holds is = subst (λ y. shape_by f y ≡ true) (same_some (truth_value (not (truth_of n))) x is) (numbers_alike f (truth_number (not (truth_of n))) n ∙ holds)
not_shape f (members bs) x holds is = subst (λ y. shape_by f y ≡ true) (same_some (members (map not bs)) x is) (members_alike f (map not bs) bs ∙ holds)
not_shape f (parts vs) x holds is = no_some x is

minus_number : (v x : ValueTree) → value_of_unary prefixes.Minus v ≡ Some x → is_number x ≡ true
minus_number (number n) x is = mapped_number (int_result (neg_ℤ n)) x is
minus_number (members bs) x is = no_some x is
minus_number (parts vs) x is = no_some x is

negated_number : (l : Option ℕ) (v : Option ValueTree) (x : ValueTree) → negated l v ≡ Some x → is_number x ≡ true
negated_number (Some n) v x is = mapped_number (int_result (neg_ℤ (pos n))) x is
negated_number None v x is = let there = there_chained (value_of_unary prefixes.Minus) v x is in minus_number there.0 x there.2

of_choice : {A : Type 0} (b : Bool) (x : Option A) (y : A) → (if b then x else None) ≡ Some y → (b ≡ true) × (x ≡ Some y)
of_choice true x y is = (refl, is)
of_choice false x y is = no_some y is

sign_shape : (o : Prefix) (e : ExprTree) (k c : ClassTree) (v : Option ValueTree) (x : ValueTree) → class_of_unary o k ≡ Some c → ((y : ValueTree) → v ≡ Some y → is_of_class k y ≡ true) → value_before o e v ≡ Some x → is_of_class c x ≡ true
sign_shape prefixes.Minus e k c v x is operand result =
    let own = of_choice (class_is is_int k) (their_class k k) c is in
    own_shape k c x own.1 (number_class is_int k x int_form own.0 (negated_number (literal_in e) v x result))
sign_shape prefixes.Not e k c v x is operand result =
    let own = of_choice (class_is is_boolean k || class_is is_powerset k) (their_class k k) c is in
    let there = there_chained (value_of_unary prefixes.Not) v x result in
    own_shape k c x own.1 (not_shape (form_in k) there.0 x (operand there.0 there.1) there.2)

-- ---- routines

up_number : (b : Option Bounds) (n : ℤ) (x : ValueTree) → up_to b n ≡ Some x → is_number x ≡ true
up_number None n x is = no_some x is
up_number (Some b) n x is = by (int_le b.high n) is
  where
    by : (t : Bool) → (if t then None else Some (number (n +ℤ pos 1))) ≡ Some x → is_number x ≡ true
    by true is = no_some x is
    by false is = some_number (n +ℤ pos 1) x is

down_number : (b : Option Bounds) (n : ℤ) (x : ValueTree) → down_to b n ≡ Some x → is_number x ≡ true
down_number None n x is = no_some x is
down_number (Some b) n x is = by (int_le n b.low) is
  where
    by : (t : Bool) → (if t then None else Some (number (n -ℤ pos 1))) ≡ Some x → is_number x ≡ true
    by true is = no_some x is
    by false is = some_number (n -ℤ pos 1) x is

offset_number : (b : Option Bounds) (k : Option ℕ) (x : ValueTree) → at_offset b k ≡ Some x → is_number x ≡ true
offset_number (Some b) (Some k) x is = some_number (b.low +ℤ pos k) x is
offset_number None k x is = no_some x is
offset_number (Some b) None x is = no_some x is

routine_number : (p : Predefined) (k : ClassTree) (v x : ValueTree) → value_of_routine p k v ≡ Some x → is_number x ≡ true
routine_number num k (number n) x is = some_number n x is
routine_number succ k (number n) x is = up_number (class_bounds k) n x is
routine_number pred k (number n) x is = down_number (class_bounds k) n x is
routine_number abs k (number n) x is = mapped_number (int_result (magnitude n)) x is
routine_number card k (members bs) x is = some_number (pos (count_true bs)) x is
routine_number min k (members bs) x is = offset_number (member_bounds (form_in k)) (least_of bs) x is
routine_number max k (members bs) x is = offset_number (member_bounds (form_in k)) (greatest_of bs) x is
routine_number p k v x is = no_some x is

-- a number of bounds is of their mode
offset_shape : (f : Option FormTree) (k : Option ℕ) (c : ClassTree) (x : ValueTree) → member_class f ≡ Some c → at_offset (member_bounds f) k ≡ Some x → is_of_class c x ≡ true
offset_shape (Some (of_powerset m)) k c x is result = by (bounds_of m) k refl result
  where
    by : (b : Option Bounds) (k : Option ℕ) → bounds_of m ≡ b → at_offset b k ≡ Some x → is_of_class c x ≡ true
    by (Some b) (Some n) at there = subst (λ y. is_of_class c y ≡ true) (same_some (number (b.low +ℤ pos n)) x there) (subst (λ d. is_of_class d (number (b.low +ℤ pos n)) ≡ true) (same_some (value m) c is) (bounded_number m b (b.low +ℤ pos n) at))
    by None k at there = no_some x there
    by (Some b) None at there = no_some x there
offset_shape f k c x is result = no_some c is

routine_shape : (p : Predefined) (k c : ClassTree) (v x : ValueTree) → class_of_routine p k ≡ Some c → value_of_routine p k v ≡ Some x → is_of_class c x ≡ true
routine_shape num k c v x is result = subst (λ d. is_of_class d x ≡ true) (of_when (class_is is_discrete k) (derived int) c is) (routine_number num k v x result)
routine_shape succ k c v x is result = subst (λ d. is_of_class d x ≡ true) (of_when (class_is is_discrete k) k c is) (number_class is_discrete k x discrete_form (when_holds (class_is is_discrete k) k c is) (routine_number succ k v x result))
routine_shape pred k c v x is result = subst (λ d. is_of_class d x ≡ true) (of_when (class_is is_discrete k) k c is) (number_class is_discrete k x discrete_form (when_holds (class_is is_discrete k) k c is) (routine_number pred k v x result))
routine_shape abs k c v x is result =
    let own = of_choice (class_is is_int k) (their_class k k) c is in
    own_shape k c x own.1 (number_class is_int k x int_form own.0 (routine_number abs k v x result))
routine_shape card k c v x is result = subst (λ d. is_of_class d x ≡ true) (of_when (class_is is_powerset k) (derived int) c is) (routine_number card k v x result)
routine_shape min k c (members bs) x is result = offset_shape (form_in k) (least_of bs) c x is result
routine_shape min k c (number n) x is result = no_some x result
routine_shape min k c (parts vs) x is result = no_some x result
routine_shape max k c (members bs) x is result = offset_shape (form_in k) (greatest_of bs) c x is result
routine_shape max k c (number n) x is result = no_some x result
routine_shape max k c (parts vs) x is result = no_some x result
routine_shape p k c v x is result = no_some x result

-- UPPER and LOWER, and SIZE
bound_shape : (m : ModeTree) (f : Bounds → ℤ) (c : ClassTree) (x : ValueTree) → when (is_some (bounds_of m)) (derived m) ≡ Some c → option_map (λ b. number (f b)) (bounds_of m) ≡ Some x → is_of_class c x ≡ true
bound_shape m f c x is result =
    let there = there_mapped (λ b. number (f b)) (bounds_of m) x result in
    subst (λ y. is_of_class c y ≡ true) there.2 (subst (λ d. is_of_class d (number (f there.0)) ≡ true) (of_when (is_some (bounds_of m)) (derived m) c is) (bounded_number m there.0 (f there.0) there.1))

measure_shape : (p : Predefined) (m : ModeTree) (c : ClassTree) (x : ValueTree) → class_of_measure p m ≡ Some c → value_of_measure p m ≡ Some x → is_of_class c x ≡ true
measure_shape upper m c x is result = bound_shape (measured_mode m (form_of m)) (λ b. b.high) c x is result
measure_shape lower m c x is result = bound_shape (measured_mode m (form_of m)) (λ b. b.low) c x is result
measure_shape size m c x is result = subst (λ d. is_of_class d x ≡ true) (of_when (not (is_meeting (form_of m))) (derived int) c is) (some_number (pos (words_of (spots_of m))) x result)
measure_shape p m c x is result = no_some x result

measured_shape : (p : Predefined) (m : Measured) (c : ClassTree) (x : ValueTree) → class_of_measured p m ≡ Some c → value_of_measured p m ≡ Some x → is_of_class c x ≡ true
measured_shape p (a_mode_of (Some m)) c x is result = measure_shape p m c x is result
measured_shape p (a_mode_of None) c x is result = no_some c is
measured_shape p misfit c x is result = no_some c is
measured_shape p other c x is result = no_some c is

applied_shape : (p : Predefined) (k : Option ClassTree) (v : Option ValueTree) (c : ClassTree) (x : ValueTree) → option_and_then (class_of_routine p) k ≡ Some c → applied (value_of_routine p) k v ≡ Some x → is_of_class c x ≡ true
applied_shape p (Some k) (Some v) c x is result = routine_shape p k c v x is result
applied_shape p None v c x is result = no_some c is
applied_shape p (Some k) None c x is result = no_some x result

called_shape : (p : Predefined) (m : Measured) (k : Option ClassTree) (v : Option ValueTree) (c : ClassTree) (x : ValueTree) → class_of_call p m k ≡ Some c → value_of_call (value_routine (routine p)) m k v ≡ Some x → is_of_class c x ≡ true
called_shape num m k v c x is result = applied_shape num k v c x is result
called_shape succ m k v c x is result = applied_shape succ k v c x is result
called_shape pred m k v c x is result = applied_shape pred k v c x is result
called_shape abs m k v c x is result = applied_shape abs k v c x is result
called_shape card m k v c x is result = applied_shape card k v c x is result
called_shape min m k v c x is result = applied_shape min k v c x is result
called_shape max m k v c x is result = applied_shape max k v c x is result
called_shape upper m k v c x is result = measured_shape upper m c x is result
called_shape lower m k v c x is result = measured_shape lower m c x is result
called_shape size m k v c x is result = measured_shape size m c x is result
called_shape p m k v c x is result = no_some x result

behind_shape : (callee : Callee) (result base : Option ClassTree) (m : Measured) (k : Option ClassTree) (v : Option ValueTree) (c : ClassTree) (x : ValueTree) → class_behind callee result base m k ≡ Some c → value_of_call (value_routine callee) m k v ≡ Some x → is_of_class c x ≡ true
behind_shape (calls n) own base m k v c x is result = no_some x result
behind_shape (routine p) own base m k v c x is result = called_shape p m k v c x is result
behind_shape no_callee own base m k v c x is result = no_some x result

-- ---- tuples

parts_shape : (f : FormTree) (rs : RangeNodes) (ranges : List (ValueTree × ValueTree)) (x : ValueTree) → shape_fits rs f ≡ true → value_of_parts f ranges ≡ Some x → has_shape f x ≡ true
parts_shape (of_powerset m) rs ranges x fits result = by (bounds_of m) result
  where
    by : (b : Option Bounds) → set_of_ranges ranges (values_of m) b ≡ Some x → is_members x ≡ true
    by (Some b) is = ap is_members (sym (same_some (members (members_from ranges (values_of m) b.low)) x is))
    by None is = no_some x is
parts_shape (of_array i e how) rs ranges x fits result = ap are_parts (sym (same_some (parts (value_nodes (map (λ r. r.0) ranges))) x result))
parts_shape (of_structure fs p) rs ranges x fits result = ap are_parts (sym (same_some (parts (value_nodes (map (λ r. r.0) ranges))) x result))
parts_shape f rs ranges x fits result = absurd (true≢false (sym fits))

tuple_shape : (rs : RangeNodes) (m : Option ModeTree) (vs : Option (List (ValueTree × ValueTree))) (c : ClassTree) (x : ValueTree) → option_and_then (value_if (shape_fits rs)) m ≡ Some c → tuple_value (shape_fits rs) m vs ≡ Some x → is_of_class c x ≡ true
tuple_shape rs (Some m) (Some vs) c x is result =
    let own = of_choice (shape_fits rs (form_of m)) (value_of_parts (form_of m) vs) x result in
    subst (λ d. is_of_class d x ≡ true) (of_when (shape_fits rs (form_of m)) (value m) c is) (parts_shape (form_of m) rs vs x own.0 own.1)
tuple_shape rs None vs c x is result = no_some c is
tuple_shape rs (Some m) None c x is result = no_some x result

array_shape : (f : FormTree) (v x : ValueTree) → uniform_of f v ≡ Some x → has_shape f x ≡ true
array_shape (of_array i e how) v x result = ap are_parts (sym (same_some (parts (value_nodes (replicate (values_of i) v))) x result))
array_shape f v x result = no_some x result

uniform_shape : (m : Option ModeTree) (v : Option ValueTree) (c : ClassTree) (x : ValueTree) → option_and_then (value_if uniform_fits) m ≡ Some c → uniform_value m v ≡ Some x → is_of_class c x ≡ true
uniform_shape (Some m) (Some v) c x is result = subst (λ d. is_of_class d x ≡ true) (of_when (uniform_fits (form_of m)) (value m) c is) (array_shape (form_of m) v x result)
uniform_shape None v c x is result = no_some c is
uniform_shape (Some m) None c x is result = no_some x result

-- ---- the law

of_literal : (m : ModeTree) (c : ClassTree) (x : ValueTree) → Some (derived m) ≡ Some c → has_shape (form_of m) x ≡ true → is_of_class c x ≡ true
of_literal m c x is holds = subst (λ d. is_of_class d x ≡ true) (same_some (derived m) c is) holds

operator_shape : (o : Operator) (l r : Option ClassTree) (v w : Option ValueTree) (c : ClassTree) (x : ValueTree) → ((k : ClassTree) (y : ValueTree) → l ≡ Some k → v ≡ Some y → is_of_class k y ≡ true) → ((k : ClassTree) (y : ValueTree) → r ≡ Some k → w ≡ Some y → is_of_class k y ≡ true)
    → both_classes (class_of_binary o) l r ≡ Some c → applied (λ c w. option_and_then (λ v. value_of_binary o c v w) v) r w ≡ Some x → is_of_class c x ≡ true
operator_shape o (Some l) (Some r) (Some v) (Some w) c x left right is result = binary_shape o l r c v w x is (left l v refl refl) (right r w refl refl) result
operator_shape o None r v w c x left right is result = no_some c is
operator_shape o (Some l) None v w c x left right is result = no_some c is
operator_shape o (Some l) (Some r) None (Some w) c x left right is result = no_some x result
operator_shape o (Some l) (Some r) v None c x left right is result = no_some x result

pub constant_shape : ConstantShapeLaw
constant_shape g m (whole at n) c x has is result = of_literal int c x is (mapped_number (int_result (pos n)) x result)
constant_shape g m (character at n) c x has is result = of_literal char c x is (some_number (pos n) x result)
constant_shape g m (text at bytes) c x has is result = of_literal (chars (length bytes)) c x is (ap are_parts (sym (same_some (parts (value_nodes (map (λ b. number (pos b)) bytes))) x result)))
constant_shape g m (this_instance at) c x has is result = no_some x result
constant_shape g m (paren at e) c x has is result = constant_shape g m e c x has is result
constant_shape g m (receive at n) c x has is result = no_some x result
constant_shape g m (start at n es) c x has is result = no_some x result
constant_shape g m (tuple at n b rs) c x has is result = tuple_shape rs (tuple_mode g n m) (values_of_ranges g (shape_fits rs) 0 (tuple_mode g n m) rs) c x is result
constant_shape g m (uniform at n b e) c x has is result = uniform_shape (tuple_mode g n m) (constant_as g (mode_of_part uniform_fits 0 (tuple_mode g n m)) e) c x is result
constant_shape g m (name n) c x has is result = has c x is result
constant_shape g m (apply at e es) c x has is result = behind_shape (callee_of g e) (result_class g e) (class_of g e) (measured_first g es) (class_of_first g es) (value_of_first g es) c x is result
constant_shape g m (field at e n) c x has is result = no_some x result
constant_shape g m (prefixed at o e) c x has is result =
    let there = there_chained (class_of_unary o) (class_of g e) c is in
    sign_shape o e there.0 c (constant_of g e) x there.2 (λ y operand. constant_shape g None e there.0 y has there.1 operand) result
constant_shape g m (binary at l o p r) c x has is result =
    operator_shape o (class_of g l) (class_of g r) (constant_of g l) (constant_of g r) c x (λ k y. constant_shape g None l k y has.0) (λ k y. constant_shape g None r k y has.1) is result

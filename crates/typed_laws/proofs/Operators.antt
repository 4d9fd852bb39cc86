-- Operators and routines take operands of the modes of their classes.
use Rattle.std.proofs.Common.{◌≡◌, ℕ, Bool, true, false, ◌&&◌, ◌||◌, Option, Some, None, ◌⊎◌, inl, inr, refl, sym, ap, ◌∙◌, subst, true≢false}
use Rattle.std.specs.Prelude.{not, if◌then◌else◌, option_map, option_and_then}
use Rattle.chill_tree.specs.declared.tree.expr.Operator.{Operator}
use Rattle.chill_tree.specs.declared.tree.expr.Operator.TheVariants as ops
use Rattle.chill_tree.specs.declared.tree.expr.Prefix.{Prefix}
use Rattle.chill_tree.specs.declared.tree.expr.Prefix.TheVariants as prefixes
use Rattle.modes.specs.declared.mode.Bounds.{Bounds}
use Rattle.modes.specs.ModeTree.{ModeTree, ClassTree, value, derived, null, nothing, boolean, int}
use Rattle.modes.specs.Form.{FormTree, form_of, of_int, of_boolean, of_powerset, of_chars}
use Rattle.modes.specs.Roots.{root_of}
use Rattle.modes.specs.Bounds.{bounds_of, values_of}
use Rattle.modes.specs.Similar.{Similar}
use Rattle.checked_program.specs.declared.expr.Binary.{Binary}
use Rattle.checked_program.specs.declared.expr.Binary.TheVariants as binaries
use Rattle.checked_program.specs.declared.expr.Prefix as sign
use Rattle.checked_program.specs.declared.expr.Prefix.TheVariants as signs
use Rattle.checked_program.specs.declared.expr.Routine.{Routine}
use Rattle.checked_program.specs.declared.expr.Routine.TheVariants as routines
use Rattle.checks_model.specs.Alike.{is_int, is_boolean, is_powerset, is_chars, is_discrete, is_meeting, mode_in, class_is, goes_with, are_compatible}
use Rattle.checks_model.specs.Ground.{Predefined, num, succ, pred, abs, card, min, max}
use Rattle.checks_model.specs.Operations.{is_arithmetic, is_on_sets, is_logic, is_equality, is_order, has_order, takes, goes_with_member, form_in, can_be_member, class_of_in, class_of_binary, class_of_unary, class_of_routine, member_class, their_class, when}
use Rattle.elaborated_laws.specs.Known.{IsDeclarable}
use Rattle.elaborated_laws.proofs.Told.{both_left, both_right, no_some, same_some, there_mapped, there_chained}
use Rattle.there_laws.proofs.Modes.{value_in}
use Rattle.elaboration_model.specs.Expressions.{between_sets, between_numbers, member_bounds, by_form, operator_between, negation_by, operator_before, class_bounds, routine_on}
use Rattle.expression_laws.proofs.Values.{discrete_there}
use Rattle.constant_laws.proofs.Shapes.{IsRooted, their_root, own_root}
use Rattle.source_meaning.specs.TypedValues.{IsRootOfEither, IsOnInts, IsOnTruths, AreSets, IsOnSets, AreOrdered, BinaryHas, PrefixHas, RoutineHas}
use Rattle.typed_laws.specs.Typed.{mode_for}
use Rattle.typed_laws.proofs.Modes.{tested_form, its_form, its_mode, mode_for_in, compatible_alike, goes_alike}

-- ---- tests

pub int_form : (f : FormTree) → is_int f ≡ true → f ≡ of_int
int_form of_int is = refl
int_form f is = absurd (true≢false (sym is))

pub boolean_form : (f : FormTree) → is_boolean f ≡ true → f ≡ of_boolean
boolean_form of_boolean is = refl
boolean_form f is = absurd (true≢false (sym is))

pub chars_form : (f : FormTree) → is_chars f ≡ true → (n : ℕ) × (f ≡ of_chars n)
chars_form (of_chars n) is = (n, refl)
chars_form f is = absurd (true≢false (sym is))

powerset_form : (f : FormTree) → is_powerset f ≡ true → (e : ModeTree) × (f ≡ of_powerset e)
powerset_form (of_powerset m) is = (m, refl)
powerset_form f is = absurd (true≢false (sym is))

pub when_is : (b : Bool) (x y : ClassTree) → when b x ≡ Some y → (b ≡ true) × (x ≡ y)
when_is true x y is = (refl, same_some x y is)
when_is false x y is = no_some y is

pub if_is : (b : Bool) (k : Option ClassTree) (y : ClassTree) → (if b then k else None) ≡ Some y → (b ≡ true) × (k ≡ Some y)
if_is true k y is = (refl, is)
if_is false k y is = no_some y is

pub both_if : (a b : Bool) (k member : Option ClassTree) (y : ClassTree) → (if a && b then k else member) ≡ Some y → member ≡ None → (a ≡ true) × ((b ≡ true) × (k ≡ Some y))
both_if true true k member y is none = (refl, (refl, is))
both_if true false k member y is none = no_some y (sym none ∙ is)
both_if false b k member y is none = no_some y (sym none ∙ is)

their_mode : (c k : ClassTree) (m : ModeTree) → c ≡ k → mode_for k ≡ Some m → mode_for c ≡ Some m
their_mode c k m same is = ap mode_for same ∙ is

-- what takes numbers alone, and what takes truths alone
last_of : (y z p b : Bool) → ((y && p) || (z && b)) ≡ true → p ≡ false → z ≡ false → ⊥
last_of true z true b holds apart none = true≢false apart
last_of true true false b holds apart none = true≢false none
last_of true false false b holds apart none = true≢false (sym holds)
last_of false true p b holds apart none = true≢false none
last_of false false p b holds apart none = true≢false (sym holds)

first_only : (x y z i p b : Bool) → ((x && i) || ((y && p) || (z && b))) ≡ true → p ≡ false → z ≡ false → i ≡ true
first_only x y z true p b holds apart none = refl
first_only true y z false p b holds apart none = absurd (last_of y z p b holds apart none)
first_only false y z false p b holds apart none = absurd (last_of y z p b holds apart none)

second_of : (y z p b : Bool) → ((y && p) || (z && b)) ≡ true → p ≡ false → b ≡ true
second_of true z true b holds apart = absurd (true≢false apart)
second_of true true false b holds apart = holds
second_of true false false b holds apart = absurd (true≢false (sym holds))
second_of false true p b holds apart = holds
second_of false false p b holds apart = absurd (true≢false (sym holds))

last_only : (x y z i p b : Bool) → ((x && i) || ((y && p) || (z && b))) ≡ true → p ≡ false → x ≡ false → b ≡ true
last_only true y z i p b holds apart none = absurd (true≢false none)
last_only false y z i p b holds apart none = second_of y z p b holds apart

-- ---- which operator

data OperatorBy (o : Operator) (f : Option FormTree) (op : Binary) : Type 0 where
  of_sets : (e : ModeTree) → f ≡ Some (of_powerset e) → between_sets o ≡ Some op → OperatorBy o f op
  of_numbers : ((e : ModeTree) → f ≡ Some (of_powerset e) → ⊥) → between_numbers o ≡ Some op → OperatorBy o f op

abbrev is_set : Option FormTree → Bool
is_set (Some (of_powerset m)) = true
is_set f = false

not_set : (f : Option FormTree) → is_set f ≡ false → (e : ModeTree) → f ≡ Some (of_powerset e) → ⊥
not_set f apart e is = absurd (true≢false (ap is_set (sym is) ∙ apart))

operator_by : (o : Operator) (f : Option FormTree) (op : Binary) → by_form o f ≡ Some op → OperatorBy o f op
operator_by o None op is = of_numbers (not_set None refl) is
operator_by o (Some (of_powerset m)) op is = of_sets m refl is
operator_by o (Some f) op is = of_numbers (not_set (Some f) refl) is

-- ---- operands

tested_same : (test other : FormTree → Bool) (c : ClassTree) (m : ModeTree) → mode_for c ≡ Some m → class_is other c ≡ true → class_is test c ≡ test (form_of m)
tested_same test other (value k) m is holds = ap (λ x. test (form_of x)) (same_some k m is)
tested_same test other (derived k) m is holds = ap (λ x. test (form_of x)) (same_some k m is)
tested_same test other null m is holds = absurd (true≢false (sym holds))
tested_same test other nothing m is holds = no_some m is

-- operands of compatible classes, with their modes
pub record Operands (l r c : ClassTree) (a b m : ModeTree) : Type 0 where
  pub left : mode_for l ≡ Some a
  pub right : mode_for r ≡ Some b
  pub result : mode_for c ≡ Some m
  pub declarable : IsDeclarable a

its_set : (k : ClassTree) → class_is is_powerset k ≡ true → (e : ModeTree) × (form_in k ≡ Some (of_powerset e))
its_set (value x) is = let e = powerset_form (form_of x) is in (e.0, ap Some e.1)
its_set (derived x) is = let e = powerset_form (form_of x) is in (e.0, ap Some e.1)
its_set null is = absurd (true≢false (sym is))
its_set nothing is = absurd (true≢false (sym is))

module _ (l r c : ClassTree) (a b m : ModeTree) (of : Operands l r c a b m) where
  alike : are_compatible l r ≡ true → Similar a b
  alike same = compatible_alike l r a b of.left of.right same

  is_boolean_result : derived boolean ≡ c → m ≡ boolean
  is_boolean_result is = same_some m boolean (sym of.result ∙ ap mode_for (sym is))

  rooted : their_class l r ≡ Some c → IsRootOfEither m a b
  rooted is = elim (their_root l r c is) [
    | inl k ↦ inl (sym (its_mode c m (root_of k.mode) of.result k.is) ∙ ap root_of (its_mode l a k.mode of.left k.of))
    | inr k ↦ inr (sym (its_mode c m (root_of k.mode) of.result k.is) ∙ ap root_of (its_mode r b k.mode of.right k.of))
  ]

  sets : (e : ModeTree) → form_in l ≡ Some (of_powerset e) → are_compatible l r ≡ true → AreSets a b
  sets e form same = ((e, its_form l a (of_powerset e) of.left form), alike same)

  -- the operator is one of the first three lines of the table
  record InTable (o : Operator) : Type 0 where
    takes_it : takes o l ≡ true
    same : are_compatible l r ≡ true
    root : IsRootOfEither m a b

  in_table : (o : Operator) → (if takes o l && are_compatible l r then their_class l r else None) ≡ Some c → InTable o
  in_table o is = let both = both_if (takes o l) (are_compatible l r) (their_class l r) None c is refl in record { takes_it = both.0; same = both.1.0; root = rooted both.1.1 }

  on_sets : (o : Operator) (e : ModeTree) → form_in l ≡ Some (of_powerset e) → InTable o → IsOnSets a b m
  on_sets o e form t = (sets e form t.same, t.root)

  -- no powerset
  no_powerset : ((e : ModeTree) → form_in l ≡ Some (of_powerset e) → ⊥) → class_is is_powerset l ≡ false
  no_powerset apart = by (class_is is_powerset l) refl
    where
      by : (x : Bool) → class_is is_powerset l ≡ x → x ≡ false
      by false is = refl
      by true is = (let own = its_set l is in absurd (apart own.0 own.1))

  ints : (o : Operator) → ((e : ModeTree) → form_in l ≡ Some (of_powerset e) → ⊥) → is_logic o ≡ false → InTable o → IsOnInts a b m
  ints o apart none t =
      let is = first_only (is_arithmetic o) (is_on_sets o) (is_logic o) (class_is is_int l) (class_is is_powerset l) (class_is is_boolean l) t.takes_it (no_powerset apart) none in
      (int_form (form_of a) (tested_form is_int l a of.left is), alike t.same, t.root)

  truths : (o : Operator) → ((e : ModeTree) → form_in l ≡ Some (of_powerset e) → ⊥) → is_arithmetic o ≡ false → InTable o → IsOnTruths a b m
  truths o apart none t =
      let is = last_only (is_arithmetic o) (is_on_sets o) (is_logic o) (class_is is_int l) (class_is is_powerset l) (class_is is_boolean l) t.takes_it (no_powerset apart) none in
      (boolean_form (form_of a) (tested_form is_boolean l a of.left is), alike t.same, t.root)

  -- an order of values that are no powersets
  ordered_form : (f : FormTree) → has_order f ≡ true → is_powerset f ≡ false → (is_discrete f ≡ true) ⊎ ((n : ℕ) × (f ≡ of_chars n))
  ordered_form f has apart = by (is_discrete f) refl (is_chars f) refl
    where
      by : (x : Bool) → is_discrete f ≡ x → (y : Bool) → is_chars f ≡ y → (is_discrete f ≡ true) ⊎ ((n : ℕ) × (f ≡ of_chars n))
      by true discrete y other = inl discrete
      by false discrete true text = inr (chars_form f text)
      by false discrete false text = absurd (true≢false (sym (sym (ap (λ x. x || (is_chars f || is_powerset f)) discrete ∙ (ap (λ x. x || is_powerset f) text ∙ apart)) ∙ has)))

  ordered : are_compatible l r ≡ true → class_is has_order l ≡ true → ((e : ModeTree) → form_in l ≡ Some (of_powerset e) → ⊥) → derived boolean ≡ c → AreOrdered a b × (m ≡ boolean)
  ordered same has apart is =
      let none = sym (tested_same is_powerset has_order l a of.left has) ∙ no_powerset apart in (
        (
          elim (ordered_form (form_of a) (tested_form has_order l a of.left has) none) [
            | inl discrete ↦ inl (value_in (bounds_of a) (discrete_there a of.declarable discrete))
            | inr text ↦ inr text
          ],
          alike same,
        ),
        is_boolean_result is,
      )

  equal_has : (x : Bool) → when (are_compatible l r && x) (derived boolean) ≡ Some c → Similar a b × (m ≡ boolean)
  equal_has x is = let fit = when_is (are_compatible l r && x) (derived boolean) c is in (alike (both_left (are_compatible l r) x fit.0), is_boolean_result fit.1)

  -- an order, or inclusion
  order_has : (o : Operator) (op : Binary) → when (are_compatible l r && class_is has_order l) (derived boolean) ≡ Some c → OperatorBy o (form_in l) op
      → ((AreSets a b × (m ≡ boolean)) × (between_sets o ≡ Some op)) ⊎ ((AreOrdered a b × (m ≡ boolean)) × (between_numbers o ≡ Some op))
  order_has o op is (of_sets e form by) = let fit = when_is (are_compatible l r && class_is has_order l) (derived boolean) c is in inl ((sets e form (both_left (are_compatible l r) (class_is has_order l) fit.0), is_boolean_result fit.1), by)
  order_has o op is (of_numbers apart by) =
      let fit = when_is (are_compatible l r && class_is has_order l) (derived boolean) c is in
      inr (ordered (both_left (are_compatible l r) (class_is has_order l) fit.0) (both_right (are_compatible l r) (class_is has_order l) fit.0) apart fit.1, by)

  by_order : (o : Operator) (set number op : Binary) → between_sets o ≡ Some set → between_numbers o ≡ Some number → (AreSets a b × (m ≡ boolean) → BinaryHas set a b m) → (AreOrdered a b × (m ≡ boolean) → BinaryHas number a b m)
      → when (are_compatible l r && class_is has_order l) (derived boolean) ≡ Some c → by_form o (form_in l) ≡ Some op → BinaryHas op a b m
  by_order o set number op of_set of_number set_has number_has is built = elim (order_has o op is (operator_by o (form_in l) op built)) [
    | inl fit ↦ subst (λ k. BinaryHas k a b m) (same_some set op (sym of_set ∙ fit.1)) (set_has fit.0)
    | inr fit ↦ subst (λ k. BinaryHas k a b m) (same_some number op (sym of_number ∙ fit.1)) (number_has fit.0)
  ]

  -- what is between powersets, and what between numbers or truths
  by_both : (o : Operator) (set number op : Binary) → between_sets o ≡ Some set → between_numbers o ≡ Some number → (IsOnSets a b m → BinaryHas set a b m) → (((e : ModeTree) → form_in l ≡ Some (of_powerset e) → ⊥) → InTable o → BinaryHas number a b m)
      → InTable o → OperatorBy o (form_in l) op → BinaryHas op a b m
  by_both o set number op of_set of_number set_has number_has t (of_sets e form by) = subst (λ k. BinaryHas k a b m) (same_some set op (sym of_set ∙ by)) (set_has (on_sets o e form t))
  by_both o set number op of_set of_number set_has number_has t (of_numbers apart by) = subst (λ k. BinaryHas k a b m) (same_some number op (sym of_number ∙ by)) (number_has apart t)

  -- what is between numbers or truths alone
  by_numbers : (o : Operator) (number op : Binary) → between_sets o ≡ None → between_numbers o ≡ Some number → (((e : ModeTree) → form_in l ≡ Some (of_powerset e) → ⊥) → InTable o → BinaryHas number a b m) → InTable o → OperatorBy o (form_in l) op → BinaryHas op a b m
  by_numbers o number op none of_number number_has t (of_sets e form by) = no_some op (sym none ∙ by)
  by_numbers o number op none of_number number_has t (of_numbers apart by) = subst (λ k. BinaryHas k a b m) (same_some number op (sym of_number ∙ by)) (number_has apart t)

  -- a value among the members of a powerset
  member_has : (op : Binary) → when (can_be_member l r) (derived boolean) ≡ Some c → option_map binaries.Member (member_bounds (form_in r)) ≡ Some op → BinaryHas op a b m
  member_has op is built =
      let fit = when_is (can_be_member l r) (derived boolean) c is in
      let bounds = there_mapped binaries.Member (member_bounds (form_in r)) op built in
      let k = member_in l (form_in r) fit.0 in
      subst (λ x. BinaryHas x a b m) bounds.2
      (k.0, its_form r b (of_powerset k.0) of.right k.1.0, sym (ap member_bounds k.1.0) ∙ bounds.1, goes_alike l a k.0 of.left k.1.1, is_boolean_result fit.1)
    where
      member_in : (l : ClassTree) (f : Option FormTree) → goes_with_member l f ≡ true → (e : ModeTree) × ((f ≡ Some (of_powerset e)) × (goes_with l e ≡ true))
      member_in l (Some (of_powerset e)) goes = (e, (refl, goes))
      member_in l f goes = absurd (true≢false (sym goes))

pub binary_has : (o : Operator) (l r c : ClassTree) (a b m : ModeTree) (op : Binary) → Operands l r c a b m → class_of_binary o l r ≡ Some c → operator_between o l r ≡ Some op → BinaryHas op a b m
binary_has ops.Equal l r c a b m op of is built = subst (λ k. BinaryHas k a b m) (same_some binaries.Equal op built) (equal_has l r c a b m of (not (class_is is_meeting l || class_is is_meeting r)) is)
binary_has ops.NotEqual l r c a b m op of is built = subst (λ k. BinaryHas k a b m) (same_some binaries.NotEqual op built) (equal_has l r c a b m of (not (class_is is_meeting l || class_is is_meeting r)) is)
binary_has ops.In l r c a b m op of is built = member_has l r c a b m of op is built
binary_has ops.Less l r c a b m op of is built = by_order l r c a b m of ops.Less binaries.ProperlyIncluded binaries.Less op refl refl (λ h. h) (λ h. h) is built
binary_has ops.LessOrEqual l r c a b m op of is built = by_order l r c a b m of ops.LessOrEqual binaries.Included binaries.LessOrEqual op refl refl (λ h. h) (λ h. h) is built
binary_has ops.Greater l r c a b m op of is built = by_order l r c a b m of ops.Greater binaries.ProperlyIncludes binaries.Greater op refl refl (λ h. h) (λ h. h) is built
binary_has ops.GreaterOrEqual l r c a b m op of is built = by_order l r c a b m of ops.GreaterOrEqual binaries.Includes binaries.GreaterOrEqual op refl refl (λ h. h) (λ h. h) is built
binary_has ops.Or l r c a b m op of is built =
    by_both l r c a b m of ops.Or binaries.Union binaries.Or op refl refl (λ h. h) (λ apart t. truths l r c a b m of ops.Or apart refl t) (in_table l r c a b m of ops.Or is) (operator_by ops.Or (form_in l) op built)
binary_has ops.And l r c a b m op of is built =
    by_both l r c a b m of ops.And binaries.Intersection binaries.And op refl refl (λ h. h) (λ apart t. truths l r c a b m of ops.And apart refl t) (in_table l r c a b m of ops.And is) (operator_by ops.And (form_in l) op built)
binary_has ops.Xor l r c a b m op of is built =
    by_both l r c a b m of ops.Xor binaries.SymmetricDifference binaries.Xor op refl refl (λ h. h) (λ apart t. truths l r c a b m of ops.Xor apart refl t) (in_table l r c a b m of ops.Xor is) (operator_by ops.Xor (form_in l) op built)
binary_has ops.Minus l r c a b m op of is built =
    by_both l r c a b m of ops.Minus binaries.Difference binaries.Subtract op refl refl (λ h. h) (λ apart t. ints l r c a b m of ops.Minus apart refl t) (in_table l r c a b m of ops.Minus is) (operator_by ops.Minus (form_in l) op built)
binary_has ops.OrIf l r c a b m op of is built = by_numbers l r c a b m of ops.OrIf binaries.OrIf op refl refl (λ apart t. truths l r c a b m of ops.OrIf apart refl t) (in_table l r c a b m of ops.OrIf is) (operator_by ops.OrIf (form_in l) op built)
binary_has ops.AndIf l r c a b m op of is built = by_numbers l r c a b m of ops.AndIf binaries.AndIf op refl refl (λ apart t. truths l r c a b m of ops.AndIf apart refl t) (in_table l r c a b m of ops.AndIf is) (operator_by ops.AndIf (form_in l) op built)
binary_has ops.Plus l r c a b m op of is built = by_numbers l r c a b m of ops.Plus binaries.Add op refl refl (λ apart t. ints l r c a b m of ops.Plus apart refl t) (in_table l r c a b m of ops.Plus is) (operator_by ops.Plus (form_in l) op built)
binary_has ops.Times l r c a b m op of is built = by_numbers l r c a b m of ops.Times binaries.Multiply op refl refl (λ apart t. ints l r c a b m of ops.Times apart refl t) (in_table l r c a b m of ops.Times is) (operator_by ops.Times (form_in l) op built)
binary_has ops.Divide l r c a b m op of is built = by_numbers l r c a b m of ops.Divide binaries.Divide op refl refl (λ apart t. ints l r c a b m of ops.Divide apart refl t) (in_table l r c a b m of ops.Divide is) (operator_by ops.Divide (form_in l) op built)
binary_has ops.Mod l r c a b m op of is built = by_numbers l r c a b m of ops.Mod binaries.Modulo op refl refl (λ apart t. ints l r c a b m of ops.Mod apart refl t) (in_table l r c a b m of ops.Mod is) (operator_by ops.Mod (form_in l) op built)
binary_has ops.Rem l r c a b m op of is built = by_numbers l r c a b m of ops.Rem binaries.Remainder op refl refl (λ apart t. ints l r c a b m of ops.Rem apart refl t) (in_table l r c a b m of ops.Rem is) (operator_by ops.Rem (form_in l) op built)

-- ---- before an operand

own_mode : (c k : ClassTree) (a m : ModeTree) → mode_for c ≡ Some a → mode_for k ≡ Some m → their_class c c ≡ Some k → m ≡ root_of a
own_mode c k a m of result is = let root = own_root c k is in sym (its_mode k m (root_of root.mode) result root.is) ∙ ap root_of (its_mode c a root.mode of root.of)

-- the form of what is no powerset
truth_form : (f : FormTree) → (is_boolean f || is_powerset f) ≡ true → is_powerset f ≡ false → f ≡ of_boolean
truth_form f fits apart = boolean_form f (by (is_boolean f) (is_powerset f) fits apart)
  where
    by : (x y : Bool) → (x || y) ≡ true → y ≡ false → x ≡ true
    by true y fits apart = refl
    by false y fits apart = absurd (true≢false (sym fits ∙ apart))

form_fits : (c : ClassTree) (f : FormTree) → form_in c ≡ Some f → (class_is is_boolean c || class_is is_powerset c) ≡ true → (is_boolean f || is_powerset f) ≡ true
form_fits (value k) f form fits = subst (λ x. (is_boolean x || is_powerset x) ≡ true) (same_some (form_of k) f form) fits
form_fits (derived k) f form fits = subst (λ x. (is_boolean x || is_powerset x) ≡ true) (same_some (form_of k) f form) fits
form_fits null f form fits = no_some f form
form_fits nothing f form fits = no_some f form

no_form : (c : ClassTree) → form_in c ≡ None → (class_is is_boolean c || class_is is_powerset c) ≡ true → ⊥
no_form (value k) form fits = no_some (form_of k) (sym form)
no_form (derived k) form fits = no_some (form_of k) (sym form)
no_form null form fits = true≢false (sym fits)
no_form nothing form fits = true≢false (sym fits)

negated : (f : Option FormTree) (c : ClassTree) (a m : ModeTree) → form_in c ≡ f → mode_for c ≡ Some a → (class_is is_boolean c || class_is is_powerset c) ≡ true → m ≡ root_of a → PrefixHas (negation_by f) a m
negated (Some (of_powerset e)) c a m form of fits root = (e, its_form c a (of_powerset e) of form, refl, root)
negated (Some f) c a m form of fits root = (its_form c a f of form ∙ truth_form f (form_fits c f form fits) refl, root)
negated None c a m form of fits root = absurd (no_form c form fits)

pub prefix_has : (o : Prefix) (c k : ClassTree) (a m : ModeTree) → mode_for c ≡ Some a → mode_for k ≡ Some m → class_of_unary o c ≡ Some k → PrefixHas (operator_before o c) a m
prefix_has prefixes.Minus c k a m of result is = let both = if_is (class_is is_int c) (their_class c c) k is in (int_form (form_of a) (tested_form is_int c a of both.0), own_mode c k a m of result both.1)
prefix_has prefixes.Not c k a m of result is =
    let both = if_is (class_is is_boolean c || class_is is_powerset c) (their_class c c) k is in
    negated (form_in c) c a m refl of both.0 (own_mode c k a m of result both.1)

-- ---- routines

discrete_bounds : (c : ClassTree) (a : ModeTree) → mode_for c ≡ Some a → IsDeclarable a → class_is is_discrete c ≡ true → (d : Bounds) × (bounds_of a ≡ Some d)
discrete_bounds c a of fits is = value_in (bounds_of a) (discrete_there a fits (tested_form is_discrete c a of is))

bounds_in_class : (c : ClassTree) (a : ModeTree) (d : Bounds) → mode_for c ≡ Some a → class_bounds c ≡ Some d → bounds_of a ≡ Some d
bounds_in_class (value k) a d of is = ap bounds_of (sym (same_some k a of)) ∙ is
bounds_in_class (derived k) a d of is = ap bounds_of (sym (same_some k a of)) ∙ is
bounds_in_class null a d of is = no_some d is
bounds_in_class nothing a d of is = no_some d is

-- the members of an argument
member_is : (f : Option FormTree) (k : ClassTree) (m : ModeTree) (d : Bounds) → mode_for k ≡ Some m → member_class f ≡ Some k → member_bounds f ≡ Some d → (f ≡ Some (of_powerset m)) × (bounds_of m ≡ Some d)
member_is (Some (of_powerset e)) k m d result is bounds =
    let same = same_some e m (ap mode_for (same_some (value e) k is) ∙ result) in
    (ap (λ x. Some (of_powerset x)) same, ap bounds_of (sym same) ∙ bounds)
member_is f k m d result is bounds = no_some k is

same_value : (k j : ClassTree) (m n : ModeTree) → k ≡ j → mode_for k ≡ Some n → mode_for j ≡ Some m → m ≡ n
same_value k j m n same first second = same_some m n (sym second ∙ (ap mode_for (sym same) ∙ first))

pub routine_has : (p : Predefined) (c k : ClassTree) (a m : ModeTree) (t : Routine) → IsDeclarable a → mode_for c ≡ Some a → mode_for k ≡ Some m → class_of_routine p c ≡ Some k → routine_on p c ≡ Some t → RoutineHas t a m
routine_has num c k a m t fits of result is built =
    let both = when_is (class_is is_discrete c) (derived int) k is in
    subst (λ x. RoutineHas x a m) (same_some routines.Number t built) (discrete_bounds c a of fits both.0, same_value (derived int) k m int both.1 refl result)
routine_has succ c k a m t fits of result is built =
    let both = when_is (class_is is_discrete c) c k is in
    let b = there_mapped (λ b. routines.Successor b.high) (class_bounds c) t built in
    subst (λ x. RoutineHas x a m) b.2 ((b.0, bounds_in_class c a b.0 of b.1, refl), same_value c k m a both.1 of result)
routine_has pred c k a m t fits of result is built =
    let both = when_is (class_is is_discrete c) c k is in
    let b = there_mapped (λ b. routines.Predecessor b.low) (class_bounds c) t built in
    subst (λ x. RoutineHas x a m) b.2 ((b.0, bounds_in_class c a b.0 of b.1, refl), same_value c k m a both.1 of result)
routine_has abs c k a m t fits of result is built =
    let both = if_is (class_is is_int c) (their_class c c) k is in
    subst (λ x. RoutineHas x a m) (same_some routines.Absolute t built) (int_form (form_of a) (tested_form is_int c a of both.0), own_mode c k a m of result both.1)
routine_has card c k a m t fits of result is built =
    let both = when_is (class_is is_powerset c) (derived int) k is in
    subst (λ x. RoutineHas x a m) (same_some routines.Cardinality t built) (powerset_form (form_of a) (tested_form is_powerset c a of both.0), same_value (derived int) k m int both.1 refl result)
routine_has min c k a m t fits of result is built =
    let b = there_mapped (λ b. routines.Least b.low) (member_bounds (form_in c)) t built in
    let own = member_is (form_in c) k m b.0 result is b.1 in
    subst (λ x. RoutineHas x a m) b.2 (b.0, its_form c a (of_powerset m) of own.0, own.1, refl)
routine_has max c k a m t fits of result is built =
    let b = there_mapped (λ b. routines.Greatest b.low) (member_bounds (form_in c)) t built in
    let own = member_is (form_in c) k m b.0 result is b.1 in
    subst (λ x. RoutineHas x a m) b.2 (b.0, its_form c a (of_powerset m) of own.0, own.1, refl)
routine_has p c k a m t fits of result is built = no_some k is

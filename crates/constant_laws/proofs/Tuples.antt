-- The values of tuples are values of their modes, where those of their parts are.
use Rattle.std.proofs.Common.{◌≡◌, ℕ, zero, suc, ◌==◌, ◌&&◌, ◌||◌, Bool, true, false, List, [], ◌∷◌, ◌++◌, Option, Some, None, ℤ, pos, length, refl, sym, ap, ◌∙◌, subst, arith, true≢false}
use Rattle.std.proofs.lemmas.Bool.{eqb-true}
use Rattle.std.specs.Prelude.{IsSome, is_some, map, replicate, option_map, option_and_then, not, if◌then◌else◌, ◌+ℤ◌}
use Rattle.chill_base.specs.declared.pos.Pos.{Pos}
use Rattle.chill_tree.specs.declared.tree.name.Name.{Name}
use Rattle.chill_tree.specs.ExprTree.{ExprTree, RangeTree, RangeNodes, tuple, uniform, alone, between, no_ranges, more_ranges}
use Rattle.diagnostics.specs.declared.diagnostic.Diagnostic.{Diagnostic}
use Rattle.diagnostics.specs.declared.rule.Rule.TheVariants as rules
use Rattle.modes.specs.declared.mode.Bounds.{Bounds}
use Rattle.modes.specs.ModeTree.{ModeTree, ClassTree, value, FieldNodes, no_fields, more_fields, SpreadTree}
use Rattle.modes.specs.Form.{FormTree, form_of, of_int, of_boolean, of_char, of_instance, of_set, of_powerset, of_chars, of_array, of_structure, of_meeting}
use Rattle.modes.specs.Bounds.{bounds_of, values_of, count_within}
use Rattle.modes.specs.Similar.{Shape, shape_of, shape_of_fields}
use Rattle.checks_model.specs.ValueTrees.{ValueTree, number, members, parts, ValueNodes, value_nodes}
use Rattle.checks_model.specs.Ground.{Ground}
use Rattle.checks_model.specs.Operations.{when}
use Rattle.checks_model.specs.Told.{tell_at, told_if, then_told, holds_of}
use Rattle.checks_model.specs.Classes.{tuple_mode, value_if, shape_fits, uniform_fits, are_alone, has_parts, count_ranges, count_fields, field_mode_at, part_mode, mode_of_part}
use Rattle.checks_model.specs.Constants.{both_ends, behind, tuple_value, value_of_parts, members_from, set_of_ranges, uniform_value, uniform_of}
use Rattle.checks_model.specs.ConstantRules.{Standing, by_itself, in_a_tuple, in_a_synonym, is_by_itself, is_in_synonym, is_judged, standing_of_parts, told_if_constant, told_misfit, misfits_as, some_misfits}
use Rattle.elaborated_laws.proofs.Told.{no_some, same_some, both_left, both_right, none_inside, none_then, not_broken, not_true, neither_left}
use Rattle.there_laws.proofs.ConstantShapes.{of_when}
use Rattle.constant_laws.specs.Values.{part_bounds, part_shape, IsOfShape, AreOfShape, AreFieldsOf, IsOfMode, FitsClass}
use Rattle.constant_laws.proofs.Shapes.{form_shape, shape_is}
use Rattle.constant_laws.proofs.Operators.{of_choice}

-- ---- values of parts from one on, each of which goes to the mode of its part

abbrev pub AreFrom : (ℕ → Option ModeTree) → ℕ → List (ValueTree × ValueTree) → Type 0
AreFrom part k [] = Unit {0}
AreFrom part k (r ∷ rs) = ((m : ModeTree) → part k ≡ Some m → IsOfMode m r.0) × AreFrom part (suc k) rs

shifted : (part : ℕ → Option ModeTree) (k : ℕ) (rs : List (ValueTree × ValueTree)) → AreFrom part (suc k) rs → AreFrom (λ j. part (suc j)) k rs
shifted part k [] are = tt
shifted part k (r ∷ rs) are = (are.0, shifted part (suc k) rs are.1)

abbrev firsts : List (ValueTree × ValueTree) → ValueNodes
firsts rs = value_nodes (map (λ r. r.0) rs)

elements_of : (e : ModeTree) (k n : ℕ) (rs : List (ValueTree × ValueTree)) → length rs ≡ n → AreFrom (λ j. Some e) k rs → AreOfShape n (bounds_of e) (shape_of e) (firsts rs)
elements_of e k n [] count are = sym count
elements_of e k n (r ∷ rs) count are = (length rs, (sym count, (are.0 e refl, elements_of e (suc k) (length rs) rs refl are.1)))

fields_of : (fs : FieldNodes) (rs : List (ValueTree × ValueTree)) → length rs ≡ count_fields fs → AreFrom (λ j. field_mode_at j fs) 0 rs → AreFieldsOf (shape_of_fields fs) (firsts rs)
fields_of no_fields [] count are = tt
fields_of no_fields (r ∷ rs) count are = absurd (omega (arith, count))
fields_of (more_fields n m at fs) [] count are = absurd (omega (arith, count))
fields_of (more_fields n m at fs) (r ∷ rs) count are = (are.0 m refl, fields_of fs rs (let less : length rs ≡ count_fields fs = omega (arith, count) in less) (shifted (λ j. field_mode_at j (more_fields n m at fs)) 0 rs are.1))

members_long : (ranges : List (ValueTree × ValueTree)) (count : ℕ) (n : ℤ) → length (members_from ranges count n) ≡ count
members_long ranges zero n = refl
members_long ranges (suc count) n = ap suc (members_long ranges count (n +ℤ pos 1))

set_of : (m : ModeTree) (ranges : List (ValueTree × ValueTree)) (b : Option Bounds) (own : ModeTree) (x : ValueTree) → form_of own ≡ of_powerset m → set_of_ranges ranges (values_of m) b ≡ Some x → IsOfMode own x
set_of m ranges None own x form made = no_some x made
set_of m ranges (Some b) own x form made =
    subst (λ y. IsOfMode own y) (same_some (members (members_from ranges (values_of m) b.low)) x made)
    (subst (λ s. IsOfShape (bounds_of own) s (members (members_from ranges (values_of m) b.low))) (sym (shape_is own ∙ ap form_shape form)) (members_long ranges (values_of m) b.low))

-- by the form of its mode
by_form : (own : ModeTree) (f : FormTree) (rs : RangeNodes) (ranges : List (ValueTree × ValueTree)) (x : ValueTree) → form_of own ≡ f → shape_fits rs f ≡ true → length ranges ≡ count_ranges rs → AreFrom (λ j. part_mode j f) 0 ranges → value_of_parts f ranges ≡ Some x → IsOfMode own x
by_form own (of_powerset m) rs ranges x form fits count are made = set_of m ranges (bounds_of m) own x form made
by_form own (of_array i e how) rs ranges x form fits count are made =
    let number_is = eqb-true (count_ranges rs) (values_of i) (both_right (are_alone rs) (count_ranges rs == values_of i) fits) in
    subst (λ y. IsOfMode own y) (same_some (parts (firsts ranges)) x made)
    (subst (λ s. IsOfShape (bounds_of own) s (parts (firsts ranges))) (sym (shape_is own ∙ ap form_shape form)) (elements_of e 0 (values_of i) ranges (count ∙ number_is) are))
by_form own (of_structure fs p) rs ranges x form fits count are made =
    let number_is = eqb-true (count_ranges rs) (count_fields fs) (both_right (are_alone rs) (count_ranges rs == count_fields fs) fits) in
    subst (λ y. IsOfMode own y) (same_some (parts (firsts ranges)) x made)
    (subst (λ s. IsOfShape (bounds_of own) s (parts (firsts ranges))) (sym (shape_is own ∙ ap form_shape form)) (fields_of fs ranges (count ∙ number_is) are))
by_form own f rs ranges x form fits count are made = absurd (true≢false (sym fits))

-- a tuple's mode, and its value
pub record TupleIs (fits : FormTree → Bool) (k : Option ModeTree) (c : ClassTree) : Type 0 where
  pub mode : ModeTree
  pub is : k ≡ Some mode
  pub form : fits (form_of mode) ≡ true
  pub class : value mode ≡ c

pub tuple_is : (fits : FormTree → Bool) (k : Option ModeTree) (c : ClassTree) → option_and_then (value_if fits) k ≡ Some c → TupleIs fits k c
tuple_is fits (Some m) c is = by (fits (form_of m)) refl is
  where
    by : (b : Bool) → fits (form_of m) ≡ b → when b (value m) ≡ Some c → TupleIs fits (Some m) c
    by true at is = record { mode = m; is = refl; form = at; class = same_some (value m) c is }
    by false at is = no_some c is
tuple_is fits None c is = no_some c is

pub tuple_fits : (rs : RangeNodes) (k : Option ModeTree) (vs : Option (List (ValueTree × ValueTree))) (c : ClassTree) (x : ValueTree) → TupleIs (shape_fits rs) k c
    → ((ranges : List (ValueTree × ValueTree)) → vs ≡ Some ranges → (length ranges ≡ count_ranges rs) × ((m : ModeTree) → k ≡ Some m → AreFrom (λ j. part_mode j (form_of m)) 0 ranges)) → tuple_value (shape_fits rs) k vs ≡ Some x → FitsClass c x
tuple_fits rs (Some m) (Some ranges) c x t each made =
    let own = of_choice (shape_fits rs (form_of m)) (value_of_parts (form_of m) ranges) x made in
    let parts_are = each ranges refl in
    let same = same_some m t.mode t.is in
    subst (λ d. FitsClass d x) (ap value same ∙ t.class) (by_form m (form_of m) rs ranges x refl own.0 parts_are.0 (parts_are.1 m refl) own.1)
tuple_fits rs None vs c x t each made = no_some x made
tuple_fits rs (Some m) None c x t each made = no_some x made

-- ---- one value for all

replicated : (e : ModeTree) (n : ℕ) (v : ValueTree) → IsOfMode e v → AreOfShape n (bounds_of e) (shape_of e) (value_nodes (replicate n v))
replicated e zero v of = refl
replicated e (suc n) v of = (n, (refl, (of, replicated e n v of)))

array_fits : (own : ModeTree) (f : FormTree) (v x : ValueTree) → form_of own ≡ f → ((m : ModeTree) → part_mode 0 f ≡ Some m → IsOfMode m v) → uniform_of f v ≡ Some x → IsOfMode own x
array_fits own (of_array i e how) v x form of made =
    subst (λ y. IsOfMode own y) (same_some (parts (value_nodes (replicate (values_of i) v))) x made)
    (subst (λ s. IsOfShape (bounds_of own) s (parts (value_nodes (replicate (values_of i) v)))) (sym (shape_is own ∙ ap form_shape form)) (replicated e (values_of i) v (of e refl)))
array_fits own f v x form of made = no_some x made

pub uniform_value_fits : (k : Option ModeTree) (v : Option ValueTree) (c : ClassTree) (x : ValueTree) → TupleIs uniform_fits k c → ((y : ValueTree) (m : ModeTree) → v ≡ Some y → mode_of_part uniform_fits 0 k ≡ Some m → IsOfMode m y) → uniform_value k v ≡ Some x → FitsClass c x
uniform_value_fits (Some m) (Some v) c x t of made =
    let same = same_some m t.mode t.is in
    let form = ap (λ y. uniform_fits (form_of y)) same ∙ t.form in
    subst (λ d. FitsClass d x) (ap value same ∙ t.class) (array_fits m (form_of m) v x refl (λ e part. of v e refl (ap (λ b. if b then part_mode 0 (form_of m) else None) form ∙ part)) made)
uniform_value_fits None v c x t of made = no_some x made
uniform_value_fits (Some m) None c x t of made = no_some x made

-- ---- where the parts of a tuple stand, in which nothing is told

pub record PartsStand (told : Standing → List Diagnostic) (own : List Diagnostic) (s : Standing) (n : Option Name) : Type 0 where
  pub standing : Standing
  pub apart : is_by_itself standing ≡ false
  pub clean : told standing ≡ []
  pub judged : is_in_synonym standing ≡ false → own ≡ []
  pub unjudged : is_in_synonym standing ≡ true → (n ≡ None) × (is_in_synonym s ≡ true)

judged_parts : (told : Standing → List Diagnostic) (own : List Diagnostic) (s : Standing) (n : Option Name) → then_told (told in_a_tuple) own ≡ [] → PartsStand told own s n
judged_parts told own s n none = record {
  standing = in_a_tuple;
  apart = refl;
  clean = none_inside (told in_a_tuple) own none;
  judged = λ is. none_then (told in_a_tuple) own none;
  unjudged = λ is. absurd (true≢false (sym is));
}

pub parts_stand : (told : Standing → List Diagnostic) (own : List Diagnostic) (s : Standing) (n : Option Name) (form : Bool) → form ≡ true → (not (is_by_itself s) || is_some n) ≡ true
    → then_told (told (standing_of_parts s n form)) (told_if_constant (is_judged s n form) own) ≡ [] → PartsStand told own s n
parts_stand told own s n false is head none = absurd (true≢false (sym is))
parts_stand told own by_itself (Some n) true is head none = judged_parts told own by_itself (Some n) none
parts_stand told own by_itself None true is head none = absurd (true≢false (sym head))
parts_stand told own in_a_tuple (Some n) true is head none = judged_parts told own in_a_tuple (Some n) none
parts_stand told own in_a_tuple None true is head none = judged_parts told own in_a_tuple None none
parts_stand told own in_a_synonym (Some n) true is head none = judged_parts told own in_a_synonym (Some n) none
parts_stand told own in_a_synonym None true is head none = record {
  standing = in_a_synonym;
  apart = refl;
  clean = none_inside (told in_a_synonym) [] none;
  judged = λ is. absurd (true≢false is);
  unjudged = λ is. (refl, refl);
}

-- M10 tells neither of the form nor of the parts
pub told_parts_fit : (fits : FormTree → Bool) (m : ModeTree) (part_misfits : Bool) (at : Pos) → told_misfit fits (Some m) part_misfits at ≡ [] → part_misfits ≡ false
told_parts_fit fits m part_misfits at none = by (not (fits (form_of m))) part_misfits (not_broken (not (fits (form_of m)) || part_misfits) (tell_at rules.M10 at) none)
  where
    by : (a b : Bool) → (a || b) ≡ false → b ≡ false
    by false b none = none
    by true b none = absurd (true≢false none)

-- M12 of an unnamed tuple: of its form and of its parts
pub tuple_judged : (g : Ground) (n : Option Name) (m : Option ModeTree) (at b : Pos) (rs : RangeNodes) → n ≡ None → misfits_as g m (tuple at n b rs) ≡ false
    → (holds_of (λ m. not (shape_fits rs (form_of m))) (tuple_mode g n m) || some_misfits g (shape_fits rs) 0 (tuple_mode g n m) rs) ≡ false
tuple_judged g None m at b rs is none = none
tuple_judged g (Some n) m at b rs is none = absurd (true≢false (ap is_some is))

pub uniform_judged : (g : Ground) (n : Option Name) (m : Option ModeTree) (at b : Pos) (e : ExprTree) → n ≡ None → misfits_as g m (uniform at n b e) ≡ false
    → (holds_of (λ m. not (uniform_fits (form_of m))) (tuple_mode g n m) || misfits_as g (mode_of_part uniform_fits 0 (tuple_mode g n m)) e) ≡ false
uniform_judged g None m at b e is none = none
uniform_judged g (Some n) m at b e is none = absurd (true≢false (ap is_some is))

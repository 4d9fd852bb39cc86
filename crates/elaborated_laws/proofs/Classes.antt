-- The mode of an expression's class is a mode that a location may have.
use Rattle.std.proofs.Common.{◌≡◌, ℕ, zero, suc, ◌+◌, ◌*◌, ◌≤◌, length, le-leb, Bool, true, false, List, [], ◌∷◌, ◌++◌, ℤ, Option, Some, None, true≢false, arith, refl, sym, ap, ◌∙◌, subst}
use Rattle.std.proofs.lemmas.Bool.{leb-true}
use Rattle.std.specs.Prelude.{is_some, option_map, option_and_then, not, ◌&&◌, ◌||◌, if◌then◌else◌, nat_le}
use Rattle.std.specs.Str.{bytes_eq}
use Rattle.chill_tree.specs.declared.tree.name.Name.{Name}
use Rattle.chill_tree.specs.declared.tree.expr.Operator.{Operator}
use Rattle.chill_tree.specs.declared.tree.expr.Operator.TheVariants as ops
use Rattle.chill_tree.specs.declared.tree.expr.Prefix.{Prefix}
use Rattle.chill_tree.specs.declared.tree.expr.Prefix.TheVariants as prefixes
use Rattle.chill_tree.specs.ExprTree.{ExprTree, ExprNodes, whole, character, text, this_instance, paren, receive, start, tuple, uniform, name, apply, field, prefixed, binary, no_exprs, more_exprs}
use Rattle.modes.specs.declared.mode.Bounds.{Bounds}
use Rattle.modes.specs.ModeTree.{ModeTree, ClassTree, value, derived, null, nothing, int, boolean, char, instance, set_of, range, powerset, chars, array, structure, event, buffer, read, named, FieldNodes, no_fields, more_fields}
use Rattle.modes.specs.Form.{FormTree, form_of, of_int, of_boolean, of_char, of_instance, of_set, of_powerset, of_chars, of_array, of_structure, of_meeting}
use Rattle.modes.specs.Bounds.{bounds_of, bounds_in, values_of, count_within}
use Rattle.modes.specs.Roots.{root_of}
use Rattle.modes.specs.Scalars.{leaves_of}
use Rattle.modes.specs.Language.{IsOfLanguage, parts_fit, fields_fit, is_filled, is_from_to, lie_in}
use Rattle.checks_model.specs.Alike.{mode_in, class_is, is_int, is_boolean, is_powerset, is_discrete, is_chars, is_meeting, are_compatible}
use Rattle.checks_model.specs.Ground.{Ground, Origin, Entry, Predefined, of_mode, truth, no_instance, num, succ, pred, abs, card, min, max, upper, lower, size, put_int, put_text, put_nl, get_int, a_synonym, a_mode, an_element, a_location, a_parameter, a_counter, a_received, a_procedure, a_process, a_signal, a_modulion, a_predefined, origin_of, entry_of, mode_of_entry, class_of_entry, mode_of_name, element_of, buffer_element, named_mode, number_at}
use Rattle.checks_model.specs.Operations.{when, their_class, takes, class_of_in, can_be_member, has_order, is_equality, is_order, form_in, class_of_binary, class_of_unary, member_class, class_of_routine, field_in, field_of_form, element_of_form, part_class, part_of_class, is_measuring, is_routine, measured_mode, class_of_measure}
use Rattle.checks_model.specs.Classes.{class_as, class_of, class_of_first, class_behind, class_of_call, class_of_measured, both_classes, result_class, Callee, calls, routine, no_callee, callee_of, Measured, a_mode_of, misfit, other, measured, measured_first, measured_name, located, located_name, measured_part, measured_part_of, tuple_mode, value_if, shape_fits, uniform_fits, class_of_name, class_of_origin}
use Rattle.table_laws.specs.Names.{names_in, names_in_each, names_in_ranges, some_name}
use Rattle.elaborated_laws.specs.Known.{IsDeclarable}
use Rattle.elaborated_laws.specs.Classes.{HasDeclarable, HasModes, HaveModes, HasShortTexts, HaveShortTexts, ClassModeLaw}
use Rattle.elaborated_laws.proofs.Told.{both_left, both_right, no_some, same_some, there_mapped, there_chained}
use Rattle.elaborated_laws.proofs.Modes.{few_leaves, language_declarable}

-- ---- names

have_first : (g : Ground) (ns ks : List Name) → HaveModes g (ns ++ ks) → HaveModes g ns
have_first g [] ks known = tt
have_first g (n ∷ ns) ks known = (known.0, have_first g ns ks known.1)

pub have_later : (g : Ground) (ns ks : List Name) → HaveModes g (ns ++ ks) → HaveModes g ks
have_later g [] ks known = known
have_later g (n ∷ ns) ks known = have_later g ns ks known.1

-- ---- parts of modes

pub of_int_language : IsOfLanguage int
of_int_language = record { parts = refl; size = (let e : 1 ≤ 4096 = omega arith in e) }

of_char_language : IsOfLanguage char
of_char_language = record { parts = refl; size = (let e : 1 ≤ 4096 = omega arith in e) }

pub inner_bounds : (k : Option Bounds) (l h : ℤ) (b : Bounds) → bounds_in k l h ≡ Some b → (c : Bounds) × (k ≡ Some c)
inner_bounds None l h b is = no_some b is
inner_bounds (Some c) l h b is = (c, refl)

-- a discrete mode is one scalar
one_leaf : (m : ModeTree) (b : Bounds) → bounds_of m ≡ Some b → leaves_of m ≡ 1
one_leaf int b is = refl
one_leaf boolean b is = refl
one_leaf char b is = refl
one_leaf instance b is = no_some b is
one_leaf (set_of d n) b is = refl
one_leaf (range p l h) b is = refl
one_leaf (powerset m) b is = no_some b is
one_leaf (chars n) b is = no_some b is
one_leaf (array i e how) b is = no_some b is
one_leaf (structure fs p) b is = no_some b is
one_leaf (event l) b is = no_some b is
one_leaf (buffer l e) b is = no_some b is
one_leaf (read m) b is = one_leaf m b is
one_leaf (named d n m) b is = one_leaf m b is

discrete_language : (m : ModeTree) (b : Bounds) → parts_fit m ≡ true → bounds_of m ≡ Some b → IsOfLanguage m
discrete_language m b fits is = record { parts = fits; size = (let one = one_leaf m b is in omega (arith, one)) }

-- a mode that has values within limits is discrete
pub by_values : (k : Option Bounds) (last : ℕ) → is_from_to 1 last (count_within k) ≡ true → (b : Bounds) × (k ≡ Some b)
by_values None last fits = absurd (true≢false (sym fits))
by_values (Some b) last fits = (b, refl)

counted_language : (m : ModeTree) (last : ℕ) → parts_fit m ≡ true → is_from_to 1 last (values_of m) ≡ true → IsOfLanguage m
counted_language m last fits values = let there = by_values (bounds_of m) last values in discrete_language m there.0 fits there.1

least_one : (n : ℕ) → is_from_to 1 4096 n ≡ true → 1 ≤ n
least_one n fits = leb-true 1 n (both_left (nat_le 1 n) (nat_le n 4096) fits)

no_more : (v x : ℕ) → 1 ≤ v → v * x ≤ 4096 → x ≤ 4096
no_more zero x some few = absurd (omega (arith, some))
no_more (suc k) x some few = omega (arith, few)

pub parent_of : (k : Option Bounds) (l h : ℤ) → lie_in l h k ≡ true → (b : Bounds) × (k ≡ Some b)
parent_of None l h fits = absurd (true≢false (sym fits))
parent_of (Some b) l h fits = (b, refl)

parent_language : (p : ModeTree) (l h : ℤ) → IsOfLanguage (range p l h) → IsOfLanguage p
parent_language p l h fits =
    let there = parent_of (bounds_of p) l h (both_right (parts_fit p) (lie_in l h (bounds_of p)) fits.parts) in
    discrete_language p there.0 (both_left (parts_fit p) (lie_in l h (bounds_of p)) fits.parts) there.1

pub read_of : (m : ModeTree) → IsOfLanguage (read m) → IsOfLanguage m
read_of m fits = record { parts = fits.parts; size = fits.size }

-- each field's mode is of the language
abbrev pub FieldsAre : FieldNodes → Type 0
FieldsAre no_fields = Unit {0}
FieldsAre (more_fields n m at fs) = IsOfLanguage m × FieldsAre fs

abbrev sum_of : FieldNodes → ℕ
sum_of no_fields = 0
sum_of (more_fields n m at fs) = leaves_of m + sum_of fs

sum_is : (fs : FieldNodes) (p : Bool) → leaves_of (structure fs p) ≡ sum_of fs
sum_is no_fields p = refl
sum_is (more_fields n m at fs) p = ap (λ k. leaves_of m + k) (sum_is fs p)

fields_are : (fs : FieldNodes) → fields_fit fs ≡ true → sum_of fs ≤ 4096 → FieldsAre fs
fields_are no_fields fits few = tt
fields_are (more_fields n m at fs) fits few =
    let both : leaves_of m + sum_of fs ≤ 4096 = few in
    (record { parts = both_left (parts_fit m) (fields_fit fs) fits; size = (let one : leaves_of m ≤ 4096 = omega (arith, both) in one) }, fields_are fs (both_right (parts_fit m) (fields_fit fs) fits) (omega (arith, both)))

-- what the form of a mode holds is of the language
abbrev pub FormIs : FormTree → Type 0
FormIs (of_powerset m) = IsOfLanguage m
FormIs (of_array i e how) = IsOfLanguage i × IsOfLanguage e
FormIs (of_structure fs p) = FieldsAre fs
FormIs f = Unit {0}

discrete_form : (m : ModeTree) (b : Bounds) → bounds_of m ≡ Some b → FormIs (form_of m)
discrete_form int b is = tt
discrete_form boolean b is = tt
discrete_form char b is = tt
discrete_form instance b is = tt
discrete_form (set_of d n) b is = tt
discrete_form (range p l h) b is = let there = inner_bounds (bounds_of p) l h b is in discrete_form p there.0 there.1
discrete_form (powerset m) b is = no_some b is
discrete_form (chars n) b is = tt
discrete_form (array i e how) b is = no_some b is
discrete_form (structure fs p) b is = no_some b is
discrete_form (event l) b is = tt
discrete_form (buffer l e) b is = tt
discrete_form (read m) b is = discrete_form m b is
discrete_form (named d n m) b is = discrete_form m b is

array_form : (i e : ModeTree) → (parts_fit i && (is_from_to 1 4096 (values_of i) && parts_fit e)) ≡ true → values_of i * leaves_of e ≤ 4096 → IsOfLanguage i × IsOfLanguage e
array_form i e fits few =
    let inner = both_right (parts_fit i) (is_from_to 1 4096 (values_of i) && parts_fit e) fits in
    let values = both_left (is_from_to 1 4096 (values_of i)) (parts_fit e) inner in (
      counted_language i 4096 (both_left (parts_fit i) (is_from_to 1 4096 (values_of i) && parts_fit e) fits) values,
      record { parts = both_right (is_from_to 1 4096 (values_of i)) (parts_fit e) inner; size = no_more (values_of i) (leaves_of e) (least_one (values_of i) values) few },
    )

pub form_is : (m : ModeTree) → IsDeclarable m → FormIs (form_of m)
form_is int fits = tt
form_is boolean fits = tt
form_is char fits = tt
form_is instance fits = tt
form_is (set_of d n) fits = tt
form_is (range p l h) fits = let there = parent_of (bounds_of p) l h (both_right (parts_fit p) (lie_in l h (bounds_of p)) fits.parts) in discrete_form p there.0 there.1
form_is (powerset m) fits = counted_language m 32 (both_left (parts_fit m) (is_from_to 1 32 (values_of m)) fits.parts) (both_right (parts_fit m) (is_from_to 1 32 (values_of m)) fits.parts)
form_is (chars n) fits = tt
form_is (array i e how) fits = array_form i e fits.parts fits.size
form_is (structure fs p) fits =
    fields_are fs (both_right (is_filled fs) (fields_fit fs) fits.parts) (let few : leaves_of (structure fs p) ≤ 4096 = fits.size in let same = sum_is fs p in omega (arith, few, same))
form_is (event l) fits = tt
form_is (buffer l e) fits = tt
form_is (read m) fits = form_is m (language_declarable m (read_of m fits))
form_is (named d n m) fits = form_is m fits

-- ---- roots

pub root_declarable : (m : ModeTree) → IsDeclarable m → IsDeclarable (root_of m)
root_declarable int fits = fits
root_declarable boolean fits = fits
root_declarable char fits = fits
root_declarable instance fits = fits
root_declarable (set_of d n) fits = fits
root_declarable (range p l h) fits = root_declarable p (language_declarable p (parent_language p l h fits))
root_declarable (powerset m) fits = fits
root_declarable (chars n) fits = fits
root_declarable (array i e how) fits = fits
root_declarable (structure fs p) fits = fits
root_declarable (event l) fits = fits
root_declarable (buffer l e) fits = fits
root_declarable (read m) fits = root_declarable m (language_declarable m (read_of m fits))
root_declarable (named d true m) fits = root_declarable m fits
root_declarable (named d false m) fits = root_declarable m fits

-- ---- operators and routines

of_test : {A : Type 0} (b : Bool) (x y : A) → when b x ≡ Some y → x ≡ y
of_test true x y is = same_some x y is
of_test false x y is = no_some y is

pub boolean_fits : IsDeclarable boolean
boolean_fits = record { parts = refl; size = (let e : 1 ≤ 4096 = omega arith in e) }

of_truth : (b : Bool) (c : ClassTree) → when b (derived boolean) ≡ Some c → HasDeclarable c
of_truth b c is = subst HasDeclarable (of_test b (derived boolean) c is) boolean_fits

theirs : (l r c : ClassTree) → HasDeclarable l → HasDeclarable r → their_class l r ≡ Some c → HasDeclarable c
theirs (value a) (value b) c left right is = subst HasDeclarable (same_some (value (root_of a)) c is) (root_declarable a left)
theirs (value a) (derived b) c left right is = subst HasDeclarable (same_some (value (root_of a)) c is) (root_declarable a left)
theirs (value a) null c left right is = subst HasDeclarable (same_some (value (root_of a)) c is) (root_declarable a left)
theirs (value a) nothing c left right is = subst HasDeclarable (same_some (value (root_of a)) c is) (root_declarable a left)
theirs (derived a) (value b) c left right is = subst HasDeclarable (same_some (value (root_of b)) c is) (root_declarable b right)
theirs (derived a) (derived b) c left right is = subst HasDeclarable (same_some (derived (root_of a)) c is) (root_declarable a left)
theirs (derived a) null c left right is = subst HasDeclarable (same_some (derived (root_of a)) c is) (root_declarable a left)
theirs (derived a) nothing c left right is = subst HasDeclarable (same_some (derived (root_of a)) c is) (root_declarable a left)
theirs null (value b) c left right is = subst HasDeclarable (same_some (value (root_of b)) c is) (root_declarable b right)
theirs null (derived b) c left right is = no_some c is
theirs null null c left right is = no_some c is
theirs null nothing c left right is = no_some c is
theirs nothing (value b) c left right is = subst HasDeclarable (same_some (value (root_of b)) c is) (root_declarable b right)
theirs nothing (derived b) c left right is = no_some c is
theirs nothing null c left right is = no_some c is
theirs nothing nothing c left right is = no_some c is

of_in : (o : Operator) (l r c : ClassTree) → class_of_in o l r ≡ Some c → HasDeclarable c
of_in ops.In l r c is = of_truth (can_be_member l r) c is
of_in ops.Or l r c is = no_some c is
of_in ops.Xor l r c is = no_some c is
of_in ops.OrIf l r c is = no_some c is
of_in ops.And l r c is = no_some c is
of_in ops.AndIf l r c is = no_some c is
of_in ops.Equal l r c is = no_some c is
of_in ops.NotEqual l r c is = no_some c is
of_in ops.Less l r c is = no_some c is
of_in ops.LessOrEqual l r c is = no_some c is
of_in ops.Greater l r c is = no_some c is
of_in ops.GreaterOrEqual l r c is = no_some c is
of_in ops.Plus l r c is = no_some c is
of_in ops.Minus l r c is = no_some c is
of_in ops.Times l r c is = no_some c is
of_in ops.Divide l r c is = no_some c is
of_in ops.Mod l r c is = no_some c is
of_in ops.Rem l r c is = no_some c is

either_way : (b : Bool) (x y : Option ClassTree) (c : ClassTree) → ((d : ClassTree) → x ≡ Some d → HasDeclarable d) → ((d : ClassTree) → y ≡ Some d → HasDeclarable d) → (if b then x else y) ≡ Some c → HasDeclarable c
either_way true x y c first later is = first c is
either_way false x y c first later is = later c is

none_there : (c : ClassTree) → None ≡ Some c → HasDeclarable c
none_there c is = no_some c is

of_binary : (o : Operator) (l r c : ClassTree) → HasDeclarable l → HasDeclarable r → class_of_binary o l r ≡ Some c → HasDeclarable c
of_binary o l r c left right is =
    either_way (is_equality o) (when (are_compatible l r && not (class_is is_meeting l || class_is is_meeting r)) (derived boolean))
    (if is_order o then when (are_compatible l r && class_is has_order l) (derived boolean) else (if takes o l && are_compatible l r then their_class l r else class_of_in o l r)) c
    (λ d h. of_truth (are_compatible l r && not (class_is is_meeting l || class_is is_meeting r)) d h)
    (λ d h. either_way (is_order o) (when (are_compatible l r && class_is has_order l) (derived boolean)) (if takes o l && are_compatible l r then their_class l r else class_of_in o l r) d
    (λ k q. of_truth (are_compatible l r && class_is has_order l) k q)
    (λ k q. either_way (takes o l && are_compatible l r) (their_class l r) (class_of_in o l r) k (λ j u. theirs l r j left right u) (λ j u. of_in o l r j u) q) h)
    is

of_unary : (o : Prefix) (k c : ClassTree) → HasDeclarable k → class_of_unary o k ≡ Some c → HasDeclarable c
of_unary prefixes.Minus k c fits is = either_way (class_is is_int k) (their_class k k) None c (λ d h. theirs k k d fits fits h) none_there is
of_unary prefixes.Not k c fits is = either_way (class_is is_boolean k || class_is is_powerset k) (their_class k k) None c (λ d h. theirs k k d fits fits h) none_there is

-- the form of a class's mode
form_in_is : (k : ClassTree) (f : FormTree) → HasDeclarable k → form_in k ≡ Some f → FormIs f
form_in_is (value m) f fits is = subst FormIs (same_some (form_of m) f is) (form_is m fits)
form_in_is (derived m) f fits is = subst FormIs (same_some (form_of m) f is) (form_is m fits)
form_in_is null f fits is = no_some f is
form_in_is nothing f fits is = no_some f is

member_by : (o : Option FormTree) (c : ClassTree) → ((f : FormTree) → o ≡ Some f → FormIs f) → member_class o ≡ Some c → HasDeclarable c
member_by (Some (of_powerset m)) c fits is = subst HasDeclarable (same_some (value m) c is) (language_declarable m (fits (of_powerset m) refl))
member_by (Some of_int) c fits is = no_some c is
member_by (Some of_boolean) c fits is = no_some c is
member_by (Some of_char) c fits is = no_some c is
member_by (Some of_instance) c fits is = no_some c is
member_by (Some (of_set d n)) c fits is = no_some c is
member_by (Some (of_chars n)) c fits is = no_some c is
member_by (Some (of_array i e how)) c fits is = no_some c is
member_by (Some (of_structure fs p)) c fits is = no_some c is
member_by (Some of_meeting) c fits is = no_some c is
member_by None c fits is = no_some c is

of_int_class : (b : Bool) (c : ClassTree) → when b (derived int) ≡ Some c → HasDeclarable c
of_int_class b c is = subst HasDeclarable (of_test b (derived int) c is) of_int_language

of_same : (b : Bool) (k c : ClassTree) → HasDeclarable k → when b k ≡ Some c → HasDeclarable c
of_same b k c fits is = subst HasDeclarable (of_test b k c is) fits

of_routine : (p : Predefined) (k c : ClassTree) → HasDeclarable k → class_of_routine p k ≡ Some c → HasDeclarable c
of_routine num k c fits is = of_int_class (class_is is_discrete k) c is
of_routine succ k c fits is = of_same (class_is is_discrete k) k c fits is
of_routine pred k c fits is = of_same (class_is is_discrete k) k c fits is
of_routine abs k c fits is = either_way (class_is is_int k) (their_class k k) None c (λ d h. theirs k k d fits fits h) none_there is
of_routine card k c fits is = of_int_class (class_is is_powerset k) c is
of_routine min k c fits is = member_by (form_in k) c (λ f h. form_in_is k f fits h) is
of_routine max k c fits is = member_by (form_in k) c (λ f h. form_in_is k f fits h) is
of_routine (of_mode m) k c fits is = no_some c is
of_routine (truth b) k c fits is = no_some c is
of_routine no_instance k c fits is = no_some c is
of_routine upper k c fits is = no_some c is
of_routine lower k c fits is = no_some c is
of_routine size k c fits is = no_some c is
of_routine put_int k c fits is = no_some c is
of_routine put_text k c fits is = no_some c is
of_routine put_nl k c fits is = no_some c is
of_routine get_int k c fits is = no_some c is

-- ---- what is measured

-- the mode is declarable where one is measured
abbrev MeasuredIs : Measured → Type 0
MeasuredIs (a_mode_of m) = (k : ModeTree) → m ≡ Some k → IsDeclarable k
MeasuredIs misfit = Unit {0}
MeasuredIs other = Unit {0}

measured_by : (m : ModeTree) (f : FormTree) → IsDeclarable m → FormIs f → IsDeclarable (measured_mode m f)
measured_by m (of_array i e how) fits form = language_declarable i form.0
measured_by m of_int fits form = fits
measured_by m of_boolean fits form = fits
measured_by m of_char fits form = fits
measured_by m of_instance fits form = fits
measured_by m (of_set d n) fits form = fits
measured_by m (of_powerset e) fits form = fits
measured_by m (of_chars n) fits form = fits
measured_by m (of_structure fs p) fits form = fits
measured_by m of_meeting fits form = fits

abbrev by_bounds : ModeTree → Option ClassTree
by_bounds m = when (is_some (bounds_of (measured_mode m (form_of m)))) (derived (measured_mode m (form_of m)))

of_bounds : (m : ModeTree) (c : ClassTree) → IsDeclarable m → by_bounds m ≡ Some c → HasDeclarable c
of_bounds m c fits is =
    subst HasDeclarable (of_test (is_some (bounds_of (measured_mode m (form_of m)))) (derived (measured_mode m (form_of m))) c is) (measured_by m (form_of m) fits (form_is m fits))

of_measure : (p : Predefined) (m : ModeTree) (c : ClassTree) → IsDeclarable m → class_of_measure p m ≡ Some c → HasDeclarable c
of_measure size m c fits is = of_int_class (not (is_meeting (form_of m))) c is
of_measure upper m c fits is = of_bounds m c fits is
of_measure lower m c fits is = of_bounds m c fits is
of_measure num m c fits is = of_bounds m c fits is
of_measure succ m c fits is = of_bounds m c fits is
of_measure pred m c fits is = of_bounds m c fits is
of_measure abs m c fits is = of_bounds m c fits is
of_measure card m c fits is = of_bounds m c fits is
of_measure min m c fits is = of_bounds m c fits is
of_measure max m c fits is = of_bounds m c fits is
of_measure (of_mode k) m c fits is = of_bounds m c fits is
of_measure (truth b) m c fits is = of_bounds m c fits is
of_measure no_instance m c fits is = of_bounds m c fits is
of_measure put_int m c fits is = of_bounds m c fits is
of_measure put_text m c fits is = of_bounds m c fits is
of_measure put_nl m c fits is = of_bounds m c fits is
of_measure get_int m c fits is = of_bounds m c fits is

of_measured : (p : Predefined) (m : Measured) (c : ClassTree) → MeasuredIs m → class_of_measured p m ≡ Some c → HasDeclarable c
of_measured p (a_mode_of m) c fits is = let there = there_chained (class_of_measure p) m c is in of_measure p there.0 c (fits there.0 there.1) there.2
of_measured p misfit c fits is = no_some c is
of_measured p other c fits is = no_some c is

-- ---- parts

step_field : (b : Bool) (k m : ModeTree) (rest : Option ModeTree) → IsOfLanguage k → (rest ≡ Some m → IsOfLanguage m) → (if b then Some k else rest) ≡ Some m → IsOfLanguage m
step_field true k m rest first later is = subst IsOfLanguage (same_some k m is) first
step_field false k m rest first later is = later is

field_is : (n : List ℕ) (fs : FieldNodes) (m : ModeTree) → FieldsAre fs → field_in n fs ≡ Some m → IsOfLanguage m
field_is n no_fields m fits is = no_some m is
field_is n (more_fields own k at fs) m fits is = step_field (bytes_eq own n) k m (field_in n fs) fits.0 (λ rest. field_is n fs m fits.1 rest) is

-- a part of a form that is of the language is so
abbrev GivesParts : (FormTree → Option ModeTree) → Type 0
GivesParts part = (f : FormTree) (m : ModeTree) → FormIs f → part f ≡ Some m → IsOfLanguage m

of_element : GivesParts element_of_form
of_element (of_array i e how) m fits is = subst IsOfLanguage (same_some e m is) fits.1
of_element (of_chars n) m fits is = subst IsOfLanguage (same_some char m is) of_char_language
of_element of_int m fits is = no_some m is
of_element of_boolean m fits is = no_some m is
of_element of_char m fits is = no_some m is
of_element of_instance m fits is = no_some m is
of_element (of_set d n) m fits is = no_some m is
of_element (of_powerset e) m fits is = no_some m is
of_element (of_structure fs p) m fits is = no_some m is
of_element of_meeting m fits is = no_some m is

of_field : (n : List ℕ) → GivesParts (field_of_form n)
of_field n (of_structure fs p) m fits is = field_is n fs m fits is
of_field n (of_array i e how) m fits is = no_some m is
of_field n (of_chars k) m fits is = no_some m is
of_field n of_int m fits is = no_some m is
of_field n of_boolean m fits is = no_some m is
of_field n of_char m fits is = no_some m is
of_field n of_instance m fits is = no_some m is
of_field n (of_set d k) m fits is = no_some m is
of_field n (of_powerset e) m fits is = no_some m is
of_field n of_meeting m fits is = no_some m is

part_there : (o : Option ModeTree) → ((m : ModeTree) → o ≡ Some m → IsOfLanguage m) → HasDeclarable (part_class o)
part_there None fits = tt
part_there (Some m) fits = language_declarable m (fits m refl)

of_part : (part : FormTree → Option ModeTree) (k c : ClassTree) → GivesParts part → HasDeclarable k → part_of_class part k ≡ c → HasDeclarable c
of_part part k c gives fits is =
    subst HasDeclarable is
    (part_there (option_and_then part (form_in k)) (λ m h. let there = there_chained part (form_in k) m h in gives there.0 m (form_in_is k there.0 fits there.1) there.2))

mapped_part : (part : FormTree → Option ModeTree) (k : Option ClassTree) (c : ClassTree) → GivesParts part → ((d : ClassTree) → k ≡ Some d → HasDeclarable d) → option_map (part_of_class part) k ≡ Some c → HasDeclarable c
mapped_part part k c gives fits is = let there = there_mapped (part_of_class part) k c is in of_part part there.0 c gives (fits there.0 there.1) there.2

-- ---- locations that are measured

part_measured : (part : FormTree → Option ModeTree) (m : Measured) → GivesParts part → MeasuredIs m → MeasuredIs (measured_part part m)
part_measured part misfit gives fits = tt
part_measured part other gives fits = tt
part_measured part (a_mode_of None) gives fits = λ k is. no_some k is
part_measured part (a_mode_of (Some m)) gives fits = by_part (part (form_of m)) refl
  where
    by_part : (o : Option ModeTree) → part (form_of m) ≡ o → MeasuredIs (measured_part_of part (Some m))
    by_part None is = subst MeasuredIs (sym (ap (λ o. measured_part_of (λ f. o) (Some m)) is)) tt
    by_part (Some p) is =
        subst MeasuredIs (sym (ap (λ o. measured_part_of (λ f. o) (Some m)) is))
        (λ k same. subst IsDeclarable (same_some p k same) (language_declarable p (gives (form_of m) p (form_is m (fits m refl)) is)))

-- the modes of an entry are declarable
abbrev pub EntryIs : Option Entry → Type 0
EntryIs e = (m : ModeTree) → mode_of_entry e ≡ Some m → IsDeclarable m

name_located : (e : Option Entry) (o : Option Origin) → EntryIs e → MeasuredIs (located_name e o)
name_located e None fits = tt
name_located e (Some (a_synonym s)) fits = tt
name_located e (Some (a_mode novel w)) fits = tt
name_located e (Some (an_element names part owner)) fits = tt
name_located e (Some (a_location l)) fits = fits
name_located e (Some (a_parameter w)) fits = fits
name_located e (Some (a_counter c)) fits = tt
name_located e (Some (a_received n count part)) fits = tt
name_located e (Some (a_procedure p)) fits = tt
name_located e (Some (a_process p)) fits = tt
name_located e (Some (a_signal s)) fits = tt
name_located e (Some (a_modulion kind items)) fits = tt
name_located e (Some (a_predefined p)) fits = tt

name_measured : (e : Option Entry) (k : Option ℕ) (o : Option Origin) → EntryIs e → ((m : ModeTree) → named_mode e k o ≡ Some m → IsDeclarable m) → MeasuredIs (measured_name (named_mode e k o) e o)
name_measured e k None fits own = tt
name_measured e k (Some (a_synonym s)) fits own = tt
name_measured e k (Some (a_mode novel w)) fits own = own
name_measured e k (Some (an_element names part owner)) fits own = tt
name_measured e k (Some (a_location l)) fits own = fits
name_measured e k (Some (a_parameter w)) fits own = fits
name_measured e k (Some (a_counter c)) fits own = tt
name_measured e k (Some (a_received n count part)) fits own = tt
name_measured e k (Some (a_procedure p)) fits own = tt
name_measured e k (Some (a_process p)) fits own = tt
name_measured e k (Some (a_signal s)) fits own = tt
name_measured e k (Some (a_modulion kind items)) fits own = tt
name_measured e None (Some (a_predefined (of_mode m))) fits own = own
name_measured e (Some d) (Some (a_predefined (of_mode m))) fits own = own
name_measured e k (Some (a_predefined (truth b))) fits own = tt
name_measured e k (Some (a_predefined no_instance)) fits own = tt
name_measured e k (Some (a_predefined num)) fits own = tt
name_measured e k (Some (a_predefined succ)) fits own = tt
name_measured e k (Some (a_predefined pred)) fits own = tt
name_measured e k (Some (a_predefined abs)) fits own = tt
name_measured e k (Some (a_predefined card)) fits own = tt
name_measured e k (Some (a_predefined min)) fits own = tt
name_measured e k (Some (a_predefined max)) fits own = tt
name_measured e k (Some (a_predefined upper)) fits own = tt
name_measured e k (Some (a_predefined lower)) fits own = tt
name_measured e k (Some (a_predefined size)) fits own = tt
name_measured e k (Some (a_predefined put_int)) fits own = tt
name_measured e k (Some (a_predefined put_text)) fits own = tt
name_measured e k (Some (a_predefined put_nl)) fits own = tt
name_measured e k (Some (a_predefined get_int)) fits own = tt

located_is : (g : Ground) (e : ExprTree) → HaveModes g (names_in e) → MeasuredIs (located g e)
located_is g (whole at n) known = tt
located_is g (character at n) known = tt
located_is g (text at n) known = tt
located_is g (this_instance at) known = tt
located_is g (paren at e) known = tt
located_is g (receive at n) known = tt
located_is g (start at n es) known = tt
located_is g (tuple at m b rs) known = tt
located_is g (uniform at m b e) known = tt
located_is g (name n) known = name_located (entry_of g n) (origin_of g n) known.0.mode
located_is g (apply at e es) known = part_measured element_of_form (located g e) of_element (located_is g e (have_first g (names_in e) (names_in_each es) known))
located_is g (field at e n) known = part_measured (field_of_form n.text) (located g e) (of_field n.text) (located_is g e known)
located_is g (prefixed at o e) known = tt
located_is g (binary at l o q r) known = tt

measured_is : (g : Ground) (e : ExprTree) → HaveModes g (names_in e) → MeasuredIs (measured g e)
measured_is g (whole at n) known = tt
measured_is g (character at n) known = tt
measured_is g (text at n) known = tt
measured_is g (this_instance at) known = tt
measured_is g (paren at e) known = tt
measured_is g (receive at n) known = tt
measured_is g (start at n es) known = tt
measured_is g (tuple at m b rs) known = tt
measured_is g (uniform at m b e) known = tt
measured_is g (name n) known = name_measured (entry_of g n) (number_at g.uses n.at) (origin_of g n) known.0.mode known.0.own
measured_is g (apply at e es) known = located_is g (apply at e es) known
measured_is g (field at e n) known = located_is g (field at e n) known
measured_is g (prefixed at o e) known = tt
measured_is g (binary at l o q r) known = tt

first_measured : (g : Ground) (es : ExprNodes) → HaveModes g (names_in_each es) → MeasuredIs (measured_first g es)
first_measured g no_exprs known = tt
first_measured g (more_exprs e es) known = measured_is g e (have_first g (names_in e) (names_in_each es) known)

-- ---- names

of_value : (o : Option ModeTree) (c : ClassTree) → ((m : ModeTree) → o ≡ Some m → IsDeclarable m) → option_map value o ≡ Some c → HasDeclarable c
of_value o c fits is = let there = there_mapped value o c is in subst HasDeclarable there.2 (fits there.0 there.1)

of_known : (k c : ClassTree) → HasDeclarable k → Some k ≡ Some c → HasDeclarable c
of_known k c fits is = subst HasDeclarable (same_some k c is) fits

of_nothing : (b : Bool) (c : ClassTree) → when b nothing ≡ Some c → HasDeclarable c
of_nothing b c is = subst HasDeclarable (of_test b nothing c is) tt

of_origin : (e : Option Entry) (o : Option Origin) (c : ClassTree) → EntryIs e → ((k : ClassTree) → class_of_entry e ≡ Some k → HasDeclarable k) → class_of_origin e o ≡ Some c → HasDeclarable c
of_origin e None c fits known is = no_some c is
of_origin e (Some (a_synonym s)) c fits known is = known c is
of_origin e (Some (a_mode novel w)) c fits known is = no_some c is
of_origin e (Some (an_element names part owner)) c fits known is = known c is
of_origin e (Some (a_location l)) c fits known is = of_value (mode_of_entry e) c fits is
of_origin e (Some (a_parameter w)) c fits known is = of_value (mode_of_entry e) c fits is
of_origin e (Some (a_counter l)) c fits known is = of_value (mode_of_entry e) c fits is
of_origin e (Some (a_received n count part)) c fits known is = of_value (mode_of_entry e) c fits is
of_origin e (Some (a_procedure p)) c fits known is = of_known nothing c tt is
of_origin e (Some (a_process p)) c fits known is = no_some c is
of_origin e (Some (a_signal s)) c fits known is = no_some c is
of_origin e (Some (a_modulion kind items)) c fits known is = no_some c is
of_origin e (Some (a_predefined (of_mode m))) c fits known is = of_nothing (is_routine (of_mode m)) c is
of_origin e (Some (a_predefined (truth b))) c fits known is = of_known (derived boolean) c boolean_fits is
of_origin e (Some (a_predefined no_instance)) c fits known is = of_known null c tt is
of_origin e (Some (a_predefined num)) c fits known is = of_nothing (is_routine num) c is
of_origin e (Some (a_predefined succ)) c fits known is = of_nothing (is_routine succ) c is
of_origin e (Some (a_predefined pred)) c fits known is = of_nothing (is_routine pred) c is
of_origin e (Some (a_predefined abs)) c fits known is = of_nothing (is_routine abs) c is
of_origin e (Some (a_predefined card)) c fits known is = of_nothing (is_routine card) c is
of_origin e (Some (a_predefined min)) c fits known is = of_nothing (is_routine min) c is
of_origin e (Some (a_predefined max)) c fits known is = of_nothing (is_routine max) c is
of_origin e (Some (a_predefined upper)) c fits known is = of_nothing (is_routine upper) c is
of_origin e (Some (a_predefined lower)) c fits known is = of_nothing (is_routine lower) c is
of_origin e (Some (a_predefined size)) c fits known is = of_nothing (is_routine size) c is
of_origin e (Some (a_predefined put_int)) c fits known is = of_nothing (is_routine put_int) c is
of_origin e (Some (a_predefined put_text)) c fits known is = of_nothing (is_routine put_text) c is
of_origin e (Some (a_predefined put_nl)) c fits known is = of_nothing (is_routine put_nl) c is
of_origin e (Some (a_predefined get_int)) c fits known is = of_nothing (is_routine get_int) c is

pub element_is : (m k : ModeTree) → IsDeclarable m → element_of m ≡ Some k → IsDeclarable k
element_is int k fits is = no_some k is
element_is boolean k fits is = no_some k is
element_is char k fits is = no_some k is
element_is instance k fits is = no_some k is
element_is (set_of d n) k fits is = no_some k is
element_is (range p l h) k fits is = no_some k is
element_is (powerset m) k fits is = no_some k is
element_is (chars n) k fits is = no_some k is
element_is (array i e how) k fits is = no_some k is
element_is (structure fs p) k fits is = no_some k is
element_is (event l) k fits is = no_some k is
element_is (buffer l e) k fits is = subst IsDeclarable (same_some e k is) (language_declarable e fits)
element_is (read m) k fits is = element_is m k (language_declarable m (read_of m fits)) is
element_is (named d n m) k fits is = element_is m k fits is

of_tuple : (g : Ground) (n : Option Name) (receiving : Option ModeTree) (own : ModeTree) → HaveModes g (some_name n) → ((m : ModeTree) → receiving ≡ Some m → IsDeclarable m) → tuple_mode g n receiving ≡ Some own → IsDeclarable own
of_tuple g (Some n) receiving own known fits is = known.0.own own is
of_tuple g None receiving own known fits is = fits own is

of_shape : (fits : FormTree → Bool) (m : Option ModeTree) (c : ClassTree) → ((k : ModeTree) → m ≡ Some k → IsDeclarable k) → option_and_then (value_if fits) m ≡ Some c → HasDeclarable c
of_shape fits m c known is =
    let there = there_chained (value_if fits) m c is in
    subst HasDeclarable (of_test (fits (form_of there.0)) (value there.0) c there.2) (known there.0 there.1)

of_result : (g : Ground) (e : ExprTree) (c : ClassTree) → HaveModes g (names_in e) → result_class g e ≡ Some c → HasDeclarable c
of_result g (whole at n) c known is = no_some c is
of_result g (character at n) c known is = no_some c is
of_result g (text at n) c known is = no_some c is
of_result g (this_instance at) c known is = no_some c is
of_result g (paren at e) c known is = no_some c is
of_result g (receive at n) c known is = no_some c is
of_result g (start at n es) c known is = no_some c is
of_result g (tuple at m b rs) c known is = no_some c is
of_result g (uniform at m b e) c known is = no_some c is
of_result g (name n) c known is = of_value (mode_of_entry (entry_of g n)) c known.0.mode is
of_result g (apply at e es) c known is = no_some c is
of_result g (field at e n) c known is = no_some c is
of_result g (prefixed at o e) c known is = no_some c is
of_result g (binary at l o q r) c known is = no_some c is

-- ---- brackets

-- a class that may be there is declarable
abbrev SomeIs : Option ClassTree → Type 0
SomeIs k = (c : ClassTree) → k ≡ Some c → HasDeclarable c

by_routine : (p : Predefined) (arg : Option ClassTree) (c : ClassTree) → SomeIs arg → option_and_then (class_of_routine p) arg ≡ Some c → HasDeclarable c
by_routine p arg c fits is = let there = there_chained (class_of_routine p) arg c is in of_routine p there.0 c (fits there.0 there.1) there.2

of_call : (p : Predefined) (m : Measured) (arg : Option ClassTree) (c : ClassTree) → MeasuredIs m → SomeIs arg → class_of_call p m arg ≡ Some c → HasDeclarable c
of_call (of_mode k) m arg c measures fits is = by_routine (of_mode k) arg c fits is
of_call (truth b) m arg c measures fits is = by_routine (truth b) arg c fits is
of_call no_instance m arg c measures fits is = by_routine no_instance arg c fits is
of_call num m arg c measures fits is = by_routine num arg c fits is
of_call succ m arg c measures fits is = by_routine succ arg c fits is
of_call pred m arg c measures fits is = by_routine pred arg c fits is
of_call abs m arg c measures fits is = by_routine abs arg c fits is
of_call card m arg c measures fits is = by_routine card arg c fits is
of_call min m arg c measures fits is = by_routine min arg c fits is
of_call max m arg c measures fits is = by_routine max arg c fits is
of_call upper m arg c measures fits is = of_measured upper m c measures is
of_call lower m arg c measures fits is = of_measured lower m c measures is
of_call size m arg c measures fits is = of_measured size m c measures is
of_call put_int m arg c measures fits is = by_routine put_int arg c fits is
of_call put_text m arg c measures fits is = by_routine put_text arg c fits is
of_call put_nl m arg c measures fits is = by_routine put_nl arg c fits is
of_call get_int m arg c measures fits is = of_known (value int) c of_int_language is

of_brackets : (k : Callee) (result base : Option ClassTree) (m : Measured) (arg : Option ClassTree) (c : ClassTree) → SomeIs result → SomeIs base → MeasuredIs m → SomeIs arg → class_behind k result base m arg ≡ Some c → HasDeclarable c
of_brackets (calls n) result base m arg c results bases measures args is = results c is
of_brackets (routine p) result base m arg c results bases measures args is = of_call p m arg c measures args is
of_brackets no_callee result base m arg c results bases measures args is = mapped_part element_of_form base c of_element bases is

-- ---- the law

of_both_classes : (o : Operator) (l r : Option ClassTree) (c : ClassTree) → SomeIs l → SomeIs r → both_classes (class_of_binary o) l r ≡ Some c → HasDeclarable c
of_both_classes o (Some l) (Some r) c left right is = of_binary o l r c (left l refl) (right r refl) is
of_both_classes o (Some l) None c left right is = no_some c is
of_both_classes o None (Some r) c left right is = no_some c is
of_both_classes o None None c left right is = no_some c is

pub no_receiver : (m : ModeTree) → None ≡ Some m → IsDeclarable m
no_receiver m is = no_some m is

instance_fits : IsDeclarable instance
instance_fits = record { parts = refl; size = (let e : 1 ≤ 4096 = omega arith in e) }

text_fits : (n : ℕ) → n ≤ 256 → IsDeclarable (chars n)
text_fits n few = record { parts = le-leb n 256 few; size = few_leaves n few }

mutual
  pub class_mode : ClassModeLaw
  class_mode g receiving (whole at n) c known short fits is = of_known (derived int) c of_int_language is
  class_mode g receiving (character at n) c known short fits is = of_known (derived char) c of_char_language is
  class_mode g receiving (text at bytes) c known short fits is = of_known (derived (chars (length bytes))) c (text_fits (length bytes) short) is
  class_mode g receiving (this_instance at) c known short fits is = of_known (derived instance) c instance_fits is
  class_mode g receiving (paren at e) c known short fits is = class_mode g receiving e c known short fits is
  class_mode g receiving (receive at n) c known short fits is =
      of_value (buffer_element g n) c (λ m h. let there = there_chained element_of (mode_of_entry (entry_of g n)) m h in element_is there.0 m (known.0.mode there.0 there.1) there.2) is
  class_mode g receiving (start at n es) c known short fits is = of_known (derived instance) c instance_fits is
  class_mode g receiving (tuple at n b rs) c known short fits is =
      of_shape (shape_fits rs) (tuple_mode g n receiving) c (λ k h. of_tuple g n receiving k (have_first g (some_name n) (names_in_ranges rs) known) fits h) is
  class_mode g receiving (uniform at n b e) c known short fits is =
      of_shape uniform_fits (tuple_mode g n receiving) c (λ k h. of_tuple g n receiving k (have_first g (some_name n) (names_in e) known) fits h) is
  class_mode g receiving (name n) c known short fits is = of_origin (entry_of g n) (origin_of g n) c known.0.mode known.0.class is
  class_mode g receiving (apply at e es) c known short fits is =
      let first = have_first g (names_in e) (names_in_each es) known in
      let later = have_later g (names_in e) (names_in_each es) known in
      of_brackets (callee_of g e) (result_class g e) (class_of g e) (measured_first g es) (class_of_first g es) c (λ k h. of_result g e k first h) (λ k h. class_mode g None e k first short.0 no_receiver h)
      (first_measured g es later) (λ k h. first_mode g es k later short.1 h) is
  class_mode g receiving (field at e n) c known short fits is = mapped_part (field_of_form n.text) (class_of g e) c (of_field n.text) (λ k h. class_mode g None e k known short no_receiver h) is
  class_mode g receiving (prefixed at o e) c known short fits is =
      let there = there_chained (class_of_unary o) (class_of g e) c is in
      of_unary o there.0 c (class_mode g None e there.0 known short no_receiver there.1) there.2
  class_mode g receiving (binary at l o p r) c known short fits is =
      of_both_classes o (class_of g l) (class_of g r) c (λ k h. class_mode g None l k (have_first g (names_in l) (names_in r) known) short.0 no_receiver h)
      (λ k h. class_mode g None r k (have_later g (names_in l) (names_in r) known) short.1 no_receiver h) is

  first_mode : (g : Ground) (es : ExprNodes) (c : ClassTree) → HaveModes g (names_in_each es) → HaveShortTexts es → class_of_first g es ≡ Some c → HasDeclarable c
  first_mode g no_exprs c known short is = no_some c is
  first_mode g (more_exprs e es) c known short is = class_mode g None e c (have_first g (names_in e) (names_in_each es) known) short.0 no_receiver is

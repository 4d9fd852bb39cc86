-- Names with parts, and locations, are there where their parts are.
use Rattle.std.proofs.Common.{◌≡◌, ℕ, ◌==◌, Bool, true, false, ◌&&◌, List, [], ◌∷◌, ◌++◌, Option, Some, None, refl, sym, ap, ◌∙◌, subst, true≢false}
use Rattle.std.specs.Prelude.{IsSome, is_some, not, if◌then◌else◌, option_map, option_and_then}
use Rattle.chill_base.specs.declared.pos.Pos.{Pos}
use Rattle.chill_tree.specs.declared.tree.name.Name.{Name}
use Rattle.chill_tree.specs.ExprTree.{ExprTree, ExprNodes, whole, character, text, this_instance, paren, receive, start, tuple, uniform, name, apply, field, prefixed, binary, no_exprs, more_exprs, place_of}
use Rattle.modes.specs.ModeTree.{ModeTree, ClassTree, value, nothing}
use Rattle.modes.specs.declared.mode.Bounds.{Bounds}
use Rattle.modes.specs.Form.{FormTree, form_of}
use Rattle.modes.specs.Roots.{read_is, holds_read}
use Rattle.modes.specs.Scalars.{scalars_of}
use Rattle.diagnostics.specs.declared.diagnostic.Diagnostic.{Diagnostic}
use Rattle.diagnostics.specs.declared.rule.Rule.TheVariants as rules
use Rattle.checked_program.specs.declared.expr.Base.{Base}
use Rattle.program_trees.specs.ExprTree as made
use Rattle.checks_model.specs.Alike.{mode_in}
use Rattle.checks_model.specs.Ground.{Ground, Origin, Entry, truth, no_instance, a_synonym, an_element, a_location, a_parameter, a_counter, a_received, a_procedure, a_predefined, origin_of, entry_of, mode_of_entry}
use Rattle.checks_model.specs.Operations.{part_class, part_of_class, element_of_form, field_of_form, index_of_form, is_routine, when}
use Rattle.checks_model.specs.Classes.{class_of, class_of_name, class_of_origin, class_of_first, class_behind, result_class, measured_first, Callee, calls, routine, no_callee, callee_by, callee_of, count_exprs}
use Rattle.checks_model.specs.Constants.{has_form, is_constant_origin}
use Rattle.checks_model.specs.Told.{tell_at, told_if, then_told}
use Rattle.checks_model.specs.ActionRules.{measures, path_class, told_at_index, told_in_indices}
use Rattle.checks_model.specs.ValueRules.{Access, free, read_only, no_location, access_of, Located, located, place_by_mode, place_by_origin, part_access, place_part_of, place_part, path_of, whole_access, place, is_free, nothing_asked, told_in, told_in_args, told_inside_each, told_behind, receivers_behind, index_receiver, index_mode, clean_class}
use Rattle.elaborated_laws.proofs.Told.{no_some, same_some, there_mapped, there_chained}
use Rattle.elaborated_laws.proofs.Classes.{no_receiver}
use Rattle.there_laws.proofs.Modes.{value_in}
use Rattle.elaboration_model.specs.Numbering.{Source, thing_used}
use Rattle.elaboration_model.specs.Parts.{made_of, made_if}
use Rattle.elaboration_model.specs.Expressions.{Root, at_base, of_value, Path, Target, base_of, folded, path_at, path_of_value, with_part, first_of_field, field_path, index_bounds, element_path, applied_path, location_named, path_of_name, only_one, mode_in_brackets, path, target_at, target_of}
use Rattle.expression_laws.specs.Names.{stands_for_value, is_of_values, IsWellNamed, AllNamesKnown}
use Rattle.expression_laws.specs.Expressions.{IsClean}
use Rattle.expression_laws.proofs.Parts.{is_there, shown}
use Rattle.expression_laws.proofs.Applied.{PathThere}

-- ---- paths

pub value_path : (e : Option made.ExprTree) (c : Option ClassTree) (d : ClassTree) (k : ModeTree) → IsSome e → c ≡ Some d → mode_in d ≡ Some k → PathThere (path_of_value e c) k
value_path e c d k there class has =
    let x = value_in e there in
    let made_with : made.ExprTree → ModeTree → Path = λ e m. record { root = of_value e; parts = []; mode = m } in
    record {
      at = record { root = of_value x.0; parts = []; mode = k };
      is = ap (λ y. made_of made_with y (option_and_then mode_in c)) x.1 ∙ (ap (λ y. made_of made_with (Some x.0) (option_and_then mode_in y)) class ∙ ap (λ y. made_of made_with (Some x.0) y) has);
      mode = refl;
    }

base_path : (b : Option Base) (m : Option ModeTree) (k : ModeTree) → IsSome b → m ≡ Some k → PathThere (path_at b m) k
base_path b m k there has =
    let x = value_in b there in
    record { at = record { root = at_base x.0; parts = []; mode = k }; is = ap (λ y. path_at y m) x.1 ∙ ap (λ y. path_at (Some x.0) y) has; mode = refl }

clean_name : (s : Source) (n : Name) → stands_for_value (origin_of s.known n) ≡ true → IsClean s.known nothing_asked (name n)
clean_name s n stands = record { named = record { short = tt; paths = tt; tuples = tt; stands = stands }; receives = no_receiver; constants = refl; told = refl }

-- a location, a parameter, a counter and a received name have the modes of their classes
pub location_shown : (s : Source) (n : Name) (c : ClassTree) (k : ModeTree) → AllNamesKnown s → is_constant_origin (origin_of s.known n) ≡ false → class_of_name s.known n ≡ Some c → is_of_values c ≡ true → mode_in c ≡ Some k → PathThere (location_named s n) k
location_shown s n c k known form class valued has = base_path (option_and_then base_of (thing_used s n)) (option_and_then mode_in (class_of s.known (name n))) k ((known n).base form c class valued) (ap (option_and_then mode_in) class ∙ has)

pub nothing_valued : {A : Type 0} (b : Bool) (c : ClassTree) → when b nothing ≡ Some c → is_of_values c ≡ true → A
nothing_valued true c is valued = absurd (true≢false (sym valued ∙ ap is_of_values (sym (same_some nothing c is))))
nothing_valued false c is valued = no_some c is

of_mode : (m : Option ModeTree) (c : ClassTree) → option_map value m ≡ Some c → (k : ModeTree) × (mode_in c ≡ Some k)
of_mode m c is = let there = there_mapped value m c is in (there.0, ap mode_in (sym there.2))

pub name_mode : (e : Option Entry) (o : Option Origin) (c : ClassTree) → is_constant_origin o ≡ false → class_of_origin e o ≡ Some c → is_of_values c ≡ true → (k : ModeTree) × (mode_in c ≡ Some k)
name_mode e (Some (a_location d)) c form is valued = of_mode (mode_of_entry e) c is
name_mode e (Some (a_parameter m)) c form is valued = of_mode (mode_of_entry e) c is
name_mode e (Some (a_counter l)) c form is valued = of_mode (mode_of_entry e) c is
name_mode e (Some (a_received n count part)) c form is valued = of_mode (mode_of_entry e) c is
name_mode e (Some (a_procedure p)) c form is valued = nothing_valued true c is valued
name_mode e (Some (a_synonym s)) c form is valued = absurd (true≢false form)
name_mode e (Some (an_element names part owner)) c form is valued = absurd (true≢false form)
name_mode e (Some (a_predefined (truth b))) c form is valued = absurd (true≢false form)
name_mode e (Some (a_predefined no_instance)) c form is valued = absurd (true≢false form)
name_mode e (Some (a_predefined p)) c form is valued = nothing_valued (is_routine p) c is valued
name_mode e o c form is valued = no_some c is

pub name_path : (s : Source) (n : Name) (c : ClassTree) (k : ModeTree) → AllNamesKnown s → stands_for_value (origin_of s.known n) ≡ true → class_of_name s.known n ≡ Some c → is_of_values c ≡ true → mode_in c ≡ Some k → PathThere (path_of_name s n) k
name_path s n c k known stands class valued has = by (is_constant_origin (origin_of s.known n)) refl
  where
    by : (b : Bool) → is_constant_origin (origin_of s.known n) ≡ b → PathThere (if b then path_of_value (folded s None (name n) None) (class_of s.known (name n)) else location_named s n) k
    by true form = value_path (folded s None (name n) None) (class_of s.known (name n)) c k (shown s nothing_asked (name n) c None known (clean_name s n stands) class (λ no. absurd (true≢false (sym form ∙ no)))) class has
    by false form = location_shown s n c k known form class valued has

pub field_shown : (n : List ℕ) (p : Option Path) (m k : ModeTree) → PathThere p m → field_of_form n (form_of m) ≡ Some k → PathThere (option_and_then (field_path n) p) k
field_shown n p m k there has =
    let at = there.at in
    record {
      at = with_part (made.one_field (first_of_field n (form_of at.mode)) (scalars_of k)) k at;
      is = ap (option_and_then (field_path n)) there.is ∙ ap (option_map (λ m. with_part (made.one_field (first_of_field n (form_of at.mode)) (scalars_of m)) m at)) (ap (λ x. field_of_form n (form_of x)) there.mode ∙ has);
      mode = refl;
    }

-- ---- locations by the rules

abbrev pub is_located : Access → Bool
is_located no_location = false
is_located a = true

-- a name of a location or a parameter
record IsPlaceName (e : Option Entry) (o : Option Origin) : Type 0 where
  mode : ModeTree
  is : (place_by_origin e o).mode ≡ Some mode
  class : class_of_origin e o ≡ Some (value mode)
  form : is_constant_origin o ≡ false
  called : (n : Name) → callee_by n o ≡ no_callee
  stands : stands_for_value o ≡ true

never_placed : (m : Option ModeTree) → is_located (place_by_mode false m).access ≡ false
never_placed None = refl
never_placed (Some m) = refl

location_name : (e : Option Entry) (o : Option Origin) → is_located (place_by_origin e o).access ≡ true → IsPlaceName e o
location_name e (Some (a_location d)) is = by (mode_of_entry e) refl is
  where
    by : (m : Option ModeTree) → mode_of_entry e ≡ m → is_located (place_by_mode true m).access ≡ true → IsPlaceName e (Some (a_location d))
    by None same is = absurd (true≢false (sym is))
    by (Some m) same is = record { mode = m; is = ap (λ x. (place_by_mode true x).mode) same; class = ap (option_map value) same; form = refl; called = λ n. refl; stands = refl }
location_name e (Some (a_parameter w)) is = by (mode_of_entry e) refl is
  where
    by : (m : Option ModeTree) → mode_of_entry e ≡ m → is_located (place_by_mode true m).access ≡ true → IsPlaceName e (Some (a_parameter w))
    by None same is = absurd (true≢false (sym is))
    by (Some m) same is = record { mode = m; is = ap (λ x. (place_by_mode true x).mode) same; class = ap (option_map value) same; form = refl; called = λ n. refl; stands = refl }
location_name e (Some (a_counter c)) is = absurd (true≢false (sym is ∙ never_placed (mode_of_entry e)))
location_name e (Some (a_received n count part)) is = absurd (true≢false (sym is ∙ never_placed (mode_of_entry e)))
location_name e o is = absurd (true≢false (sym is))

-- a location with its parts, and what is told in its indices, as of a value
pub record InPlace (g : Ground) (e : ExprTree) : Type 0 where
  pub mode : ModeTree
  pub is : (path_of g e).mode ≡ Some mode
  pub class : class_of g e ≡ Some (value mode)
  pub called : callee_of g e ≡ no_callee
  pub told : told_in_indices g e ≡ told_in g nothing_asked e
  pub alike : path_class g e ≡ class_of g e

-- the part of a place
pub record PartPlace (part : FormTree → Option ModeTree) (l : Located) : Type 0 where
  pub whole : is_located l.access ≡ true
  pub own : ModeTree
  pub has : option_and_then (λ m. part (form_of m)) l.mode ≡ Some own

part_located : (a : Access) (m : ModeTree) → is_located (part_access a m) ≡ true → is_located a ≡ true
part_located free m is = refl
part_located read_only m is = refl
part_located no_location m is = is

pub part_place : (part : FormTree → Option ModeTree) (l : Located) → is_located (place_part part l).access ≡ true → PartPlace part l
part_place part l is = by (option_and_then (λ m. part (form_of m)) l.mode) refl is
  where
    by : (m : Option ModeTree) → option_and_then (λ m. part (form_of m)) l.mode ≡ m → is_located (place_part_of l.access m).access ≡ true → PartPlace part l
    by None same is = absurd (true≢false (sym is))
    by (Some m) same is = record { whole = part_located l.access m is; own = m; has = same }

-- the class of a part of something of that class
class_part : (part : FormTree → Option ModeTree) (m : Option ModeTree) (k own : ModeTree) (c : Option ClassTree) → m ≡ Some k → c ≡ Some (value k) → option_and_then (λ m. part (form_of m)) m ≡ Some own → option_map (part_of_class part) c ≡ Some (value own)
class_part part m k own c is class has = ap (option_map (part_of_class part)) class ∙ ap (λ x. Some (part_class x)) (sym (ap (option_and_then (λ m. part (form_of m))) is) ∙ has)

place_mode : (part : FormTree → Option ModeTree) (l : Located) (own : ModeTree) → option_and_then (λ m. part (form_of m)) l.mode ≡ Some own → (place_part part l).mode ≡ Some own
place_mode part l own has = ap (λ m. (place_part_of l.access m).mode) has

element_class : (g : Ground) (at : Pos) (e : ExprTree) (es : ExprNodes) (c : ClassTree) → callee_of g e ≡ no_callee → option_map (part_of_class element_of_form) (class_of g e) ≡ Some c → class_of g (apply at e es) ≡ Some c
element_class g at e es c called is = ap (λ k. class_behind k (result_class g e) (class_of g e) (measured_first g es) (class_of_first g es)) called ∙ is

index_told : (g : Ground) (at : Pos) (e : ExprTree) (es : ExprNodes) → callee_of g e ≡ no_callee → told_in_indices g e ≡ told_in g nothing_asked e → path_class g e ≡ class_of g e → told_in_indices g (apply at e es) ≡ told_in g nothing_asked (apply at e es)
index_told g at e es called told alike =
    let inside = told_in g nothing_asked e in
    let base = class_of g e in
    let with_callee : Callee → List Diagnostic = λ k. told_behind g k (place_of e) base inside (told_in_args g (receivers_behind g k (clean_class inside base) (count_exprs es)) es) (told_inside_each g es) es in
    let at_index : Callee → List Diagnostic → Option ClassTree → List Diagnostic = λ k i b. (if measures k then told_inside_each g es else then_told (i ++ told_in_args g (index_receiver (clean_class i b) (count_exprs es) ∷ []) es) (told_if (is_some (index_mode b) && not (count_exprs es == 1)) (tell_at rules.S5 (place_of e)))) in
    ap (λ k. at_index k (told_in_indices g e) (path_class g e)) called ∙ (ap (λ i. at_index no_callee i (path_class g e)) told ∙ (ap (λ b. at_index no_callee inside b) alike ∙ sym (ap with_callee called)))

index_alike : (g : Ground) (at : Pos) (e : ExprTree) (es : ExprNodes) → callee_of g e ≡ no_callee → path_class g e ≡ class_of g e → path_class g (apply at e es) ≡ class_of g (apply at e es)
index_alike g at e es called alike =
    ap (λ k. if measures k then Some nothing else option_map (part_of_class element_of_form) (path_class g e)) called
    ∙ (ap (option_map (part_of_class element_of_form)) alike ∙ sym (ap (λ k. class_behind k (result_class g e) (class_of g e) (measured_first g es) (class_of_first g es)) called))

pub in_place : (g : Ground) (e : ExprTree) → is_located (path_of g e).access ≡ true → InPlace g e
in_place g (name n) is =
    let there = location_name (entry_of g n) (origin_of g n) is in
    record { mode = there.mode; is = there.is; class = there.class; called = there.called n; told = refl; alike = refl }
in_place g (field at e n) is =
    let part = part_place (field_of_form n.text) (path_of g e) is in
    let whole = in_place g e part.whole in
    record {
      mode = part.own;
      is = place_mode (field_of_form n.text) (path_of g e) part.own part.has;
      class = class_part (field_of_form n.text) (path_of g e).mode whole.mode part.own (class_of g e) whole.is whole.class part.has;
      called = refl;
      told = whole.told;
      alike = ap (option_map (part_of_class (field_of_form n.text))) whole.alike;
    }
in_place g (apply at e es) is =
    let part = part_place element_of_form (path_of g e) is in
    let whole = in_place g e part.whole in
    record {
      mode = part.own;
      is = place_mode element_of_form (path_of g e) part.own part.has;
      class = element_class g at e es (value part.own) whole.called (class_part element_of_form (path_of g e).mode whole.mode part.own (class_of g e) whole.is whole.class part.has);
      called = refl;
      told = index_told g at e es whole.called whole.told whole.alike;
      alike = index_alike g at e es whole.called whole.alike;
    }
in_place g e is = absurd (true≢false (sym is))

-- ---- locations as they are elaborated

pub record IsAtBase (p : Path) : Type 0 where
  pub base : Base
  pub root : p.root ≡ at_base base

path_base : (b : Option Base) (m : Option ModeTree) (p : Path) → path_at b m ≡ Some p → IsAtBase p
path_base (Some b) (Some m) p is = record { base = b; root = sym (ap (λ (q : Path). q.root) (same_some (record { root = at_base b; parts = []; mode = m }) p is)) }
path_base None m p is = no_some p is
path_base (Some b) None p is = no_some p is

part_root : (p q : Path) (part : made.PartTree) (m : ModeTree) → with_part part m p ≡ q → IsAtBase p → IsAtBase q
part_root p q part m is base = record { base = base.base; root = sym (ap (λ (x : Path). x.root) is) ∙ base.root }

name_base : (s : Source) (n : Name) (p : Path) → is_constant_origin (origin_of s.known n) ≡ false → path_of_name s n ≡ Some p → IsAtBase p
name_base s n p form is =
    path_base (option_and_then base_of (thing_used s n)) (option_and_then mode_in (class_of s.known (name n))) p
    (sym (ap (λ b. if b then path_of_value (folded s None (name n) None) (class_of s.known (name n)) else location_named s n) form) ∙ is)

field_base : (n : List ℕ) (p q : Path) → field_path n p ≡ Some q → IsAtBase p → IsAtBase q
field_base n p q is base =
    let there = there_mapped (λ m. with_part (made.one_field (first_of_field n (form_of p.mode)) (scalars_of m)) m p) (field_of_form n (form_of p.mode)) q is in
    part_root p q (made.one_field (first_of_field n (form_of p.mode)) (scalars_of there.0)) there.0 there.2 base

element_base : (i : made.ExprTree) (p q : Path) → element_path i p ≡ Some q → IsAtBase p → IsAtBase q
element_base i p q is base = by (index_bounds (form_of p.mode)) (element_of_form (form_of p.mode)) is
  where
    by : (b : Option Bounds) (m : Option ModeTree) → made_of (λ b m. with_part (made.one_element i b (scalars_of m)) m p) b m ≡ Some q → IsAtBase q
    by (Some b) (Some m) is = part_root p q (made.one_element i b (scalars_of m)) m (same_some (with_part (made.one_element i b (scalars_of m)) m p) q is) base
    by None m is = no_some q is
    by (Some b) None is = no_some q is

-- what stands before brackets, where an element is there
element_before : (i : Option made.ExprTree) (p : Option Path) (q : Path) → made_if element_path i p ≡ Some q → (x : Path) × ((p ≡ Some x) × (IsAtBase x → IsAtBase q))
element_before (Some i) (Some p) q is = (p, (refl, element_base i p q is))
element_before None p q is = no_some q is
element_before (Some i) None q is = no_some q is

not_called : (v : Option made.ExprTree) (c : Option ClassTree) (k : Callee) (x : Option Path) (p : Path) → k ≡ no_callee → applied_path k v c x ≡ Some p → x ≡ Some p
not_called v c k x p called there = sym (ap (λ j. applied_path j v c x) called) ∙ there

pub at_its_base : (s : Source) (e : ExprTree) (p : Path) → is_located (path_of s.known e).access ≡ true → path s e ≡ Some p → IsAtBase p
at_its_base s (name n) p is there = name_base s n p (location_name (entry_of s.known n) (origin_of s.known n) is).form there
at_its_base s (field at e n) p is there =
    let before = there_chained (field_path n.text) (path s e) p there in
    field_base n.text before.0 p before.2 (at_its_base s e before.0 (part_place (field_of_form n.text) (path_of s.known e) is).whole before.1)
at_its_base s (apply at e es) p is there =
    let whole = (part_place element_of_form (path_of s.known e) is).whole in
    let called = (in_place s.known e whole).called in
    let brackets = made_if element_path (only_one s (mode_in_brackets s (callee_of s.known e) e) es) (path s e) in
    let index = only_one s (mode_in_brackets s (callee_of s.known e) e) es in
    let before = element_before index (path s e) p (not_called _ _ (callee_of s.known e) brackets p called there) in
    before.1.1 (at_its_base s e before.0 whole before.1.0)
at_its_base s e p is there = absurd (true≢false (sym is))

-- a location, with its mode
pub record TargetThere (t : Option Target) (m : ModeTree) : Type 0 where
  pub at : Target
  pub is : t ≡ Some at
  pub mode : at.1 ≡ m

pub target_there : (s : Source) (e : ExprTree) (m : ModeTree) → is_located (path_of s.known e).access ≡ true → PathThere (path s e) m → TargetThere (option_and_then target_of (path s e)) m
target_there s e m is there =
    let p = there.at in
    let base = at_its_base s e p is there.is in
    record {
      at = (made.location base.base (made.part_nodes p.parts) (scalars_of p.mode), p.mode);
      is = ap (option_and_then target_of) there.is ∙ ap (λ r. target_at r p.parts p.mode) base.root;
      mode = there.mode;
    }

-- what may be written is a location
pub free_located : (g : Ground) (e : ExprTree) → is_free (place g e).access ≡ true → is_located (path_of g e).access ≡ true
free_located g e is = by (path_of g e).access (path_of g e).mode is
  where
    by : (a : Access) (m : Option ModeTree) → is_free (whole_access a m) ≡ true → is_located a ≡ true
    by free m is = refl
    by read_only m is = refl
    by no_location m is = is

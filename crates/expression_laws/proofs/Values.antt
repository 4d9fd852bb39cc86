-- Which classes are of values: no event, no buffer, and no name that is called.
use Rattle.std.proofs.Common.{◌≡◌, Bool, true, false, Option, Some, None, refl, sym, ap, ◌∙◌, subst, true≢false}
use Rattle.std.specs.Prelude.{IsSome, not, ℤ}
use Rattle.modes.specs.declared.mode.Bounds.{Bounds}
use Rattle.modes.specs.ModeTree.{ModeTree, ClassTree, value, derived, null, nothing, int, boolean, char, instance, set_of, range, powerset, chars, array, structure, event, buffer, read, named}
use Rattle.modes.specs.Form.{FormTree, form_of, of_int, of_boolean, of_char, of_instance, of_set, of_powerset, of_chars, of_array, of_structure, of_meeting}
use Rattle.modes.specs.Bounds.{bounds_of, bounds_in}
use Rattle.modes.specs.Language.{parts_fit, lie_in}
use Rattle.modes.specs.Roots.{novelty_of}
use Rattle.modes.specs.Similar.{Shape, shape_of, has_values, like_int, like_boolean, like_char, like_instance, like_set, like_powerset, like_chars, like_array, like_structure, like_none, part, no_more, next_field}
use Rattle.checks_model.specs.Alike.{same_shape, same_number, are_similar, are_v_equivalent, goes_with, are_compatible, is_meeting, is_instance, is_discrete, mode_in, class_is, of_form}
use Rattle.checks_model.specs.Operations.{form_in, part_class}
use Rattle.elaborated_laws.specs.Known.{IsDeclarable}
use Rattle.elaborated_laws.specs.Classes.{HasDeclarable}
use Rattle.elaborated_laws.proofs.Told.{both_left, both_right, no_some, same_some}
use Rattle.elaborated_laws.proofs.Modes.{language_declarable}
use Rattle.elaborated_laws.proofs.Classes.{parent_of, read_of}
use Rattle.expression_laws.specs.Names.{is_of_values}

-- ---- shapes that are no event's

abbrev is_shape_of_values : Shape → Bool
is_shape_of_values like_none = false
is_shape_of_values s = true

shape_form : (m : ModeTree) → is_shape_of_values (shape_of m) ≡ not (is_meeting (form_of m))
shape_form int = refl
shape_form boolean = refl
shape_form char = refl
shape_form instance = refl
shape_form (set_of d n) = refl
shape_form (range p l h) = shape_form p
shape_form (powerset m) = refl
shape_form (chars n) = refl
shape_form (array i e how) = refl
shape_form (structure fs p) = refl
shape_form (event l) = refl
shape_form (buffer l e) = refl
shape_form (read m) = shape_form m
shape_form (named d n m) = shape_form m

valued_shape : (s : Shape) → has_values s ≡ true → is_shape_of_values s ≡ true
valued_shape like_none has = absurd (true≢false (sym has))
valued_shape s has = refl

same_valued : (a b : Shape) → same_shape a b ≡ true → is_shape_of_values a ≡ true → is_shape_of_values b ≡ true
same_valued like_none b same has = absurd (true≢false (sym has))
same_valued a like_none same has = absurd (true≢false (sym (none_same a same has)))
  where
    none_same : (a : Shape) → same_shape a like_none ≡ true → is_shape_of_values a ≡ true → false ≡ true
    none_same like_none same has = has
    none_same a same has = same
same_valued a b same has = refl

similar_first : (a b : ModeTree) → are_similar a b ≡ true → not (is_meeting (form_of a)) ≡ true
similar_first a b same = sym (shape_form a) ∙ valued_shape (shape_of a) (both_right (same_shape (shape_of a) (shape_of b)) (has_values (shape_of a)) same)

similar_second : (a b : ModeTree) → are_similar a b ≡ true → not (is_meeting (form_of b)) ≡ true
similar_second a b same =
    sym (shape_form b)
    ∙ same_valued (shape_of a) (shape_of b) (both_left (same_shape (shape_of a) (shape_of b)) (has_values (shape_of a)) same) (valued_shape (shape_of a) (both_right (same_shape (shape_of a) (shape_of b)) (has_values (shape_of a)) same))

pub equivalent_similar : (a b : ModeTree) → are_v_equivalent a b ≡ true → are_similar a b ≡ true
equivalent_similar a b same = both_left (are_similar a b) (same_number (novelty_of a) (novelty_of b)) same

pub instance_valued : (f : FormTree) → is_instance f ≡ true → not (is_meeting f) ≡ true
instance_valued of_meeting is = is
instance_valued f is = refl

-- ---- classes that go with a mode, or with each other

pub goes_valued : (c : ClassTree) (m : ModeTree) → goes_with c m ≡ true → is_of_values c ≡ true
goes_valued (value n) m goes = similar_first n m (equivalent_similar n m goes)
goes_valued (derived n) m goes = similar_first n m goes
goes_valued null m goes = refl
goes_valued nothing m goes = goes

-- and the mode is one of values
pub goes_place : (c : ClassTree) (m : ModeTree) → goes_with c m ≡ true → not (is_meeting (form_of m)) ≡ true
goes_place (value n) m goes = similar_second n m (equivalent_similar n m goes)
goes_place (derived n) m goes = similar_second n m goes
goes_place null m goes = instance_valued (form_of m) goes
goes_place nothing m goes = absurd (true≢false (sym goes))

pub compatible_first : (l r : ClassTree) → are_compatible l r ≡ true → is_of_values l ≡ true
compatible_first (value a) (value b) fit = similar_first a b (equivalent_similar a b fit)
compatible_first (value a) (derived b) fit = similar_first a b fit
compatible_first (derived a) (value b) fit = similar_first a b fit
compatible_first (derived a) (derived b) fit = similar_first a b fit
compatible_first (value a) null fit = instance_valued (form_of a) fit
compatible_first (derived a) null fit = instance_valued (form_of a) fit
compatible_first (value a) nothing fit = absurd (true≢false (sym fit))
compatible_first (derived a) nothing fit = absurd (true≢false (sym fit))
compatible_first null r fit = refl
compatible_first nothing r fit = absurd (true≢false (sym fit))

pub compatible_second : (l r : ClassTree) → are_compatible l r ≡ true → is_of_values r ≡ true
compatible_second (value a) (value b) fit = similar_second a b (equivalent_similar a b fit)
compatible_second (value a) (derived b) fit = similar_second a b fit
compatible_second (derived a) (value b) fit = similar_second a b fit
compatible_second (derived a) (derived b) fit = similar_second a b fit
compatible_second null (value b) fit = instance_valued (form_of b) fit
compatible_second null (derived b) fit = instance_valued (form_of b) fit
compatible_second l null fit = refl
compatible_second null nothing fit = absurd (true≢false (sym fit))
compatible_second (value a) nothing fit = absurd (true≢false (sym fit))
compatible_second (derived a) nothing fit = absurd (true≢false (sym fit))
compatible_second nothing r fit = absurd (true≢false (sym fit))

-- ---- classes of a form

form_valued : (test : FormTree → Bool) (f : FormTree) → test of_meeting ≡ false → test f ≡ true → not (is_meeting f) ≡ true
form_valued test of_meeting apart is = absurd (true≢false (sym is ∙ apart))
form_valued test f apart is = refl

pub class_valued : (test : FormTree → Bool) (c : ClassTree) → test of_meeting ≡ false → class_is test c ≡ true → is_of_values c ≡ true
class_valued test (value m) apart is = form_valued test (form_of m) apart is
class_valued test (derived m) apart is = form_valued test (form_of m) apart is
class_valued test null apart is = refl
class_valued test nothing apart is = is

-- ---- modes in classes

pub part_valued : (m : Option ModeTree) → is_of_values (part_class m) ≡ true → (k : ModeTree) × ((m ≡ Some k) × (not (is_meeting (form_of k)) ≡ true))
part_valued (Some k) is = (k, (refl, is))
part_valued None is = absurd (true≢false (sym is))

-- a class with a form has a mode
pub form_there : (c : ClassTree) (f : FormTree) → form_in c ≡ Some f → (m : ModeTree) × ((mode_in c ≡ Some m) × (form_of m ≡ f))
form_there (value m) f is = (m, (refl, same_some (form_of m) f is))
form_there (derived m) f is = (m, (refl, same_some (form_of m) f is))
form_there null f is = no_some f is
form_there nothing f is = no_some f is

pub declarable_in : (c : ClassTree) (m : ModeTree) → HasDeclarable c → mode_in c ≡ Some m → IsDeclarable m
declarable_in (value k) m fits is = subst IsDeclarable (same_some k m is) fits
declarable_in (derived k) m fits is = subst IsDeclarable (same_some k m is) fits
declarable_in null m fits is = no_some m is
declarable_in nothing m fits is = no_some m is

-- ---- bounds of discrete modes

inner_there : (k : Option Bounds) (b : Bounds) → k ≡ Some b → (l h : ℤ) → IsSome (bounds_in k l h)
inner_there None b is l h = no_some b is
inner_there (Some c) b is l h = refl

pub discrete_there : (m : ModeTree) → IsDeclarable m → is_discrete (form_of m) ≡ true → IsSome (bounds_of m)
discrete_there int fits is = refl
discrete_there boolean fits is = refl
discrete_there char fits is = refl
discrete_there instance fits is = absurd (true≢false (sym is))
discrete_there (set_of d n) fits is = refl
discrete_there (range p l h) fits is = let there = parent_of (bounds_of p) l h (both_right (parts_fit p) (lie_in l h (bounds_of p)) fits.parts) in inner_there (bounds_of p) there.0 there.1 l h
discrete_there (powerset m) fits is = absurd (true≢false (sym is))
discrete_there (chars n) fits is = absurd (true≢false (sym is))
discrete_there (array i e how) fits is = absurd (true≢false (sym is))
discrete_there (structure fs p) fits is = absurd (true≢false (sym is))
discrete_there (event l) fits is = absurd (true≢false (sym is))
discrete_there (buffer l e) fits is = absurd (true≢false (sym is))
discrete_there (read m) fits is = discrete_there m (language_declarable m (read_of m fits)) is
discrete_there (named d n m) fits is = discrete_there m fits is

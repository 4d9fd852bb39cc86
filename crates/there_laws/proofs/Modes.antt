-- A mode that a text writes, and of which nothing is told, is there.
use Rattle.std.proofs.Common.{◌≡◌, ℕ, ◌&&◌, ◌||◌, Bool, true, false, List, [], ◌∷◌, ◌++◌, Option, Some, None, ℤ, refl, sym, ap, ◌∙◌, subst, true≢false}
use Rattle.std.specs.Prelude.{IsSome, is_some, codes, flat_map, option_map, option_and_then, not, if◌then◌else◌}
use Rattle.chill_base.specs.declared.pos.Pos.{Pos}
use Rattle.chill_tree.specs.declared.tree.name.Name.{Name}
use Rattle.chill_tree.specs.declared.tree.mode.Packing.{Packing}
use Rattle.chill_tree.specs.declared.tree.mode.Packing.TheVariants as packings
use Rattle.chill_tree.specs.declared.tree.mode.PlaceForm.{PlaceForm}
use Rattle.chill_tree.specs.ExprTree.{ExprTree, place_of}
use Rattle.chill_tree.specs.ModeTree as written
use Rattle.diagnostics.specs.declared.diagnostic.Diagnostic.{Diagnostic}
use Rattle.diagnostics.specs.declared.rule.Rule.TheVariants as rules
use Rattle.names_model.specs.NameRules.{tell}
use Rattle.modes.specs.ModeTree.{ModeTree, ClassTree, value, derived, null, nothing, int, powerset, chars, structure, event, read, FieldNodes, PlaceTree, SpreadTree}
use Rattle.modes.specs.Form.{form_of}
use Rattle.modes.specs.Bounds.{bounds_of, natural_of}
use Rattle.layout_map.specs.Place.{is_possible}
use Rattle.checks_model.specs.Alike.{goes_with, is_discrete}
use Rattle.checks_model.specs.Told.{tell_at, told_if, is_none_told, holds_of, holds_of_both}
use Rattle.checks_model.specs.ValueTrees.{ValueTree, number, members, parts}
use Rattle.checks_model.specs.Ground.{Ground, mode_of_name}
use Rattle.checks_model.specs.Classes.{class_of}
use Rattle.checks_model.specs.Constants.{has_form, constant_of}
use Rattle.checks_model.specs.ConstantRules.{told_of_constants, told_needed, is_outside}
use Rattle.checks_model.specs.WrittenModes.{unless_told, number_in, needed_number, is_no_int, from_to, told_length, told_some_length, length_of, some_length_of, bound_misfits, told_bound, is_above, told_bounds, told_range, range_from, range_of, told_name, told_not_discrete, told_discrete_name, discrete_name, told_of_discrete, mode_of_discrete, first_place_of, is_large_powerset, told_of_powerset, has_index_values, told_of_index, mode_of_index, place_from, numbers_of_place, has_no_int, place_there, told_in_place, step_from, spread_there, step_misfits, holds_of_three, is_impossible_spread, told_spread, told_in_spread, told_large, array_from, told_at_array, FieldThere, have_places, place_has_no_int, is_misplaced, told_overlap, is_twice, told_fields, held_place, field_from, fields_from, is_packed, structure_from, told_at_structure, fields_named, told_in_some_place, mode_of_base, fields_there, told_of_base, told_in_fields, buffer_from, if_whole, told_unless_whole}
use Rattle.elaborated_laws.proofs.Told.{none_first, none_later, none_inside, none_then, not_broken, not_true, not_second, neither_left, neither_right}
use Rattle.there_laws.specs.Shapes.{is_number, is_of_class}
use Rattle.there_laws.specs.Modes.{IsNeeded, IsSomeNeeded, DiscreteNeeds, IndexNeeds, PlaceNeeds, SomePlaceNeeds, SpreadNeeds, BaseNeeds, FieldsNeed, WrittenThereLaw}
use Rattle.there_laws.proofs.Constants.{AllKnown, OperandThere, operand_there, alone_there}
use Rattle.there_laws.proofs.Shapes.{similar_shape}
use Rattle.there_laws.proofs.ConstantShapes.{discrete_form, similar_left, constant_shape}

-- ---- what is there

pub mapped : {A B : Type 0} (f : A → B) (x : Option A) → IsSome x → IsSome (option_map f x)
mapped f (Some x) there = refl
mapped f None there = absurd (true≢false (sym there))

pub told_nothing : {A : Type 0} (told : List Diagnostic) (x : Option A) → told ≡ [] → IsSome x → IsSome (unless_told told x)
told_nothing told x none there = subst (λ t. IsSome (unless_told t x)) (sym none) there

pub value_in : {A : Type 0} (x : Option A) → IsSome x → (y : A) × (x ≡ Some y)
value_in (Some y) there = (y, refl)
value_in None there = absurd (true≢false (sym there))

-- ---- numbers

-- a value of a class that goes with a discrete mode is a number
goes_number : (c : ClassTree) (p : ModeTree) (v : ValueTree) → goes_with c p ≡ true → is_discrete (form_of p) ≡ true → is_of_class c v ≡ true → is_number v ≡ true
goes_number (value n) p v goes is holds = sym (discrete_form (form_of p) v is) ∙ similar_left n p v goes holds
goes_number (derived n) p v goes is holds = sym (discrete_form (form_of p) v is) ∙ similar_shape n p v goes holds
goes_number null p v goes is holds = holds
goes_number nothing p v goes is holds = absurd (true≢false (sym goes))

number_some : (v : ValueTree) → is_number v ≡ true → IsSome (number_in v)
number_some (number n) is = refl
number_some (members bs) is = absurd (true≢false (sym is))
number_some (parts vs) is = absurd (true≢false (sym is))

-- a needed constant in which nothing is told has a class and a value, and a number where the class goes with a discrete mode
operand : (g : Ground) (e : ExprTree) → AllKnown g → IsNeeded g e → told_needed g e ≡ [] → OperandThere g e
operand g e known needs none =
    let no_form = told_if (not (has_form g false e)) (tell_at rules.M1 (place_of e)) in
    let clean = none_inside (told_of_constants g e) no_form none in
    let form = not_true (has_form g false e) (not_broken (not (has_form g false e)) (tell_at rules.M1 (place_of e)) (none_then (told_of_constants g e) no_form none)) in
    operand_there g e known clean form (alone_there g e known needs.0 clean form)

class_goes : (p : ModeTree) (c : Option ClassTree) (k : ClassTree) → c ≡ Some k → holds_of (λ c. not (goes_with c p)) c ≡ false → goes_with k p ≡ true
class_goes p c k is fits = not_true (goes_with k p) (ap (holds_of (λ c. not (goes_with c p))) (sym is) ∙ fits)

needed_there : (g : Ground) (e : ExprTree) (p : ModeTree) → AllKnown g → IsNeeded g e → is_discrete (form_of p) ≡ true → told_needed g e ≡ [] → holds_of (λ c. not (goes_with c p)) (class_of g e) ≡ false → IsSome (needed_number g e)
needed_there g e p known needs is none fits =
    let own = operand g e known needs none in
    let v = value_in (constant_of g e) own.value in
    let c = value_in (class_of g e) own.class in
    let shape = constant_shape g None e c.0 v.0 needs.1 c.1 v.1 in
    told_nothing (told_needed g e) (option_and_then number_in (constant_of g e)) none
    (subst (λ x. IsSome (option_and_then number_in x)) (sym v.1) (number_some v.0 (goes_number c.0 p v.0 (class_goes p (class_of g e) c.0 c.1 fits) is shape)))

-- ---- lengths

length_there : (g : Ground) (low high : ℕ) (e : ExprTree) → AllKnown g → IsNeeded g e → told_length g low high e ≡ [] → IsSome (length_of g low high e)
length_there g low high e known needs none =
    let no_int = holds_of (λ c. not (goes_with c int)) (class_of g e) in
    let out = holds_of (is_outside (from_to low high)) (constant_of g e) in
    let wrong = told_if (no_int || out) (tell_at rules.M6 (place_of e)) in
    let fits = neither_left no_int out (not_broken (no_int || out) (tell_at rules.M6 (place_of e)) (none_then (told_needed g e) wrong none)) in
    told_nothing (told_length g low high e) (option_map natural_of (needed_number g e)) none (mapped natural_of (needed_number g e) (needed_there g e int known needs refl (none_inside (told_needed g e) wrong none) fits))

some_length_there : (g : Ground) (low high : ℕ) (e : Option ExprTree) → AllKnown g → IsSomeNeeded g e → told_some_length g low high e ≡ [] → IsSome (some_length_of g low high e)
some_length_there g low high None known needs none = refl
some_length_there g low high (Some e) known needs none = mapped Some (length_of g low high e) (length_there g low high e known needs none)

-- ---- ranges

bound_there : (g : Ground) (p : ModeTree) (e : ExprTree) → AllKnown g → IsNeeded g e → is_discrete (form_of p) ≡ true → told_bound g (Some p) e ≡ [] → IsSome (needed_number g e)
bound_there g p e known needs is none =
    let misfits = bound_misfits g e p in
    let wrong = told_if misfits (tell_at rules.M3 (place_of e)) in
    let no_class = holds_of (λ c. not (goes_with c p)) (class_of g e) in
    let out = holds_of (λ c. goes_with c p) (class_of g e) && holds_of (is_outside (bounds_of p)) (constant_of g e) in
    needed_there g e p known needs is (none_inside (told_needed g e) wrong none) (neither_left no_class out (not_broken misfits (tell_at rules.M3 (place_of e)) (none_then (told_needed g e) wrong none)))

from_there : (p : ModeTree) (l h : Option ℤ) → IsSome l → IsSome h → IsSome (range_from (Some p) l h)
from_there p (Some l) (Some h) first later = refl
from_there p None h first later = absurd (true≢false (sym first))
from_there p (Some l) None first later = absurd (true≢false (sym later))

range_there : (g : Ground) (p : ModeTree) (l h : ExprTree) → AllKnown g → IsNeeded g l → IsNeeded g h → is_discrete (form_of p) ≡ true → told_range g (Some p) l h ≡ [] → IsSome (range_of g (Some p) l h)
range_there g p l h known first later is none =
    let wrong = told_if (holds_of_both is_above (needed_number g l) (needed_number g h)) (tell_at rules.M2 (place_of l)) in
    let bounds = none_inside (told_bounds g (Some p) l h) wrong none in
    told_nothing (told_range g (Some p) l h) (range_from (Some p) (needed_number g l) (needed_number g h)) none
    (from_there p (needed_number g l) (needed_number g h) (bound_there g p l known first is (none_first (told_bound g (Some p) l) (told_bound g (Some p) h) bounds)) (bound_there g p h known later is (none_later (told_bound g (Some p) l) (told_bound g (Some p) h) bounds)))

discrete_told : (k : Option ModeTree) (m : ModeTree) (at : Pos) → k ≡ Some m → told_not_discrete k at ≡ [] → is_discrete (form_of m) ≡ true
discrete_told k m at is none =
    not_true (is_discrete (form_of m)) (ap (holds_of (λ m. not (is_discrete (form_of m)))) (sym is) ∙ not_broken (holds_of (λ m. not (is_discrete (form_of m))) k) (tell_at rules.M4 at) none)

-- a part of a mode by its name
part_there : (g : Ground) (n : Name) (l h : ExprTree) → AllKnown g → IsSome (mode_of_name g n) → IsNeeded g l → IsNeeded g h → told_discrete_name g n ++ told_range g (discrete_name g n) l h ≡ [] → IsSome (range_of g (discrete_name g n) l h)
part_there g n l h known there first later none =
    let p = value_in (mode_of_name g n) there in
    let named = none_first (told_discrete_name g n) (told_range g (discrete_name g n) l h) none in
    let same : discrete_name g n ≡ Some p.0 = ap (λ t. unless_told t (mode_of_name g n)) named ∙ p.1 in
    let clean : told_range g (Some p.0) l h ≡ [] = sym (ap (λ k. told_range g k l h) same) ∙ none_later (told_discrete_name g n) (told_range g (discrete_name g n) l h) none in
    subst (λ k. IsSome (range_of g k l h)) (sym same)
    (range_there g p.0 l h known first later (discrete_told (mode_of_name g n) p.0 n.at p.1 (none_then (told_name g false n) (told_not_discrete (mode_of_name g n) n.at) named)) clean)

discrete_there : (g : Ground) (whole : Bool) (d : written.DiscreteTree) → AllKnown g → DiscreteNeeds g d → told_of_discrete g whole d ≡ [] → IsSome (mode_of_discrete g whole d)
discrete_there g whole (written.named n) known needs none = told_nothing (told_name g whole n) (mode_of_name g n) none needs
discrete_there g whole (written.bounded n l h) known needs none = part_there g n l h known needs.0 needs.1.0 needs.1.1 none
discrete_there g whole (written.set_of at ns) known needs none = needs

index_there : (g : Ground) (i : written.IndexTree) → AllKnown g → IndexNeeds g i → told_of_index g i ≡ [] → IsSome (mode_of_index g i)
index_there g (written.index_named n) known needs none = told_nothing (told_of_index g (written.index_named n)) (mode_of_name g n) none needs
index_there g (written.index_bounded l h) known needs none =
    told_nothing (told_of_index g (written.index_bounded l h)) (range_of g (Some int) l h) none
    (range_there g int l h known needs.0 needs.1 refl (none_inside (told_range g (Some int) l h) (told_if (holds_of (λ m. not (has_index_values m)) (range_of g (Some int) l h)) (tell_at rules.M6 (place_of l))) none))

-- ---- places

int_there : (g : Ground) (e : ExprTree) → AllKnown g → IsNeeded g e → told_needed g e ≡ [] → is_no_int g e ≡ false → IsSome (needed_number g e)
int_there g e known needs none fits =
    needed_there g e int known needs refl none (not_second (is_none_told (told_needed g e)) (holds_of (λ c. not (goes_with c int)) (class_of g e)) (ap is_none_told none) fits)

from_numbers : (f : PlaceForm) (w s b : Option ℤ) → IsSome w → IsSome s → IsSome b → IsSome (place_from f w s b)
from_numbers f (Some w) (Some s) (Some b) first second third = refl
from_numbers f None s b first second third = absurd (true≢false (sym first))
from_numbers f (Some w) None b first second third = absurd (true≢false (sym second))
from_numbers f (Some w) (Some s) None first second third = absurd (true≢false (sym third))

three_false : (a b c : Bool) → a ≡ false → b ≡ false → c ≡ false → (a || (b || (c || false))) ≡ false
three_false false false false first second third = refl
three_false true b c first second third = absurd (true≢false first)
three_false false true c first second third = absurd (true≢false second)
three_false false false true first second third = absurd (true≢false third)

-- nothing is told in a number, and it is one of INT
record IsClean (g : Ground) (e : ExprTree) : Type 0 where
  clean : told_needed g e ≡ []
  fits : is_no_int g e ≡ false

place_by : (g : Ground) (p : written.PlaceTree) → AllKnown g → PlaceNeeds g p → IsClean g p.word → IsClean g p.start → IsClean g p.bound → IsSome (place_there g p)
place_by g p known needs word first bound =
    subst (λ b. IsSome (if b then None else place_from p.form (needed_number g p.word) (needed_number g p.start) (needed_number g p.bound))) (sym (three_false (is_no_int g p.word) (is_no_int g p.start) (is_no_int g p.bound) word.fits first.fits bound.fits))
    (from_numbers p.form (needed_number g p.word) (needed_number g p.start) (needed_number g p.bound) (int_there g p.word known needs.0 word.clean word.fits) (int_there g p.start known needs.1.0 first.clean first.fits) (int_there g p.bound known needs.1.1 bound.clean bound.fits))

-- of some numbers in a row
record Row (g : Ground) (e : ExprTree) (es : List ExprTree) : Type 0 where
  own : IsClean g e
  clean : flat_map (told_needed g) es ≡ []
  fits : has_no_int g es ≡ false

row : (g : Ground) (e : ExprTree) (es : List ExprTree) → flat_map (told_needed g) (e ∷ es) ≡ [] → has_no_int g (e ∷ es) ≡ false → Row g e es
row g e es none fits = record {
  own = record { clean = none_first (told_needed g e) (flat_map (told_needed g) es) none; fits = neither_left (is_no_int g e) (has_no_int g es) fits };
  clean = none_later (told_needed g e) (flat_map (told_needed g) es) none;
  fits = neither_right (is_no_int g e) (has_no_int g es) fits;
}

place_made : (g : Ground) (p : written.PlaceTree) → AllKnown g → PlaceNeeds g p → told_in_place g p ≡ [] → has_no_int g (numbers_of_place p) ≡ false → IsSome (place_there g p)
place_made g p known needs none fits =
    let word = row g p.word (p.start ∷ p.bound ∷ []) none fits in
    let first = row g p.start (p.bound ∷ []) word.clean word.fits in
    let bound = row g p.bound [] first.clean first.fits in
    place_by g p known needs word.own first.own bound.own

-- ---- arrays

step_some : (p : Option PlaceTree) (d : Option ℤ) → IsSome p → IsSome d → IsSome (step_from p d)
step_some (Some p) (Some d) first later = refl
step_some None d first later = absurd (true≢false (sym first))
step_some (Some p) None first later = absurd (true≢false (sym later))

spread_made : (g : Ground) (s : Option written.SpreadTree) → AllKnown g → SpreadNeeds g s → told_in_spread g s ≡ [] → step_misfits g s ≡ false → IsSome (spread_there g s)
spread_made g None known needs none fits = refl
spread_made g (Some (written.by_packing packings.Pack)) known needs none fits = refl
spread_made g (Some (written.by_packing packings.NoPack)) known needs none fits = refl
spread_made g (Some (written.by_step s)) known needs none fits =
    let word = row g s.place.word (s.place.start ∷ s.place.bound ∷ s.distance ∷ []) none fits in
    let first = row g s.place.start (s.place.bound ∷ s.distance ∷ []) word.clean word.fits in
    let bound = row g s.place.bound (s.distance ∷ []) first.clean first.fits in
    let distance = row g s.distance [] bound.clean bound.fits in
    subst (λ b. IsSome (if b then None else step_from (place_there g s.place) (needed_number g s.distance))) (sym fits)
    (step_some (place_there g s.place) (needed_number g s.distance) (place_by g s.place known needs.0 word.own first.own bound.own) (int_there g s.distance known needs.1 distance.own.clean distance.own.fits))

array_some : (i e : Option ModeTree) (s : Option SpreadTree) → IsSome i → IsSome e → IsSome s → IsSome (array_from i e s)
array_some (Some i) (Some e) (Some s) first second third = refl
array_some None e s first second third = absurd (true≢false (sym first))
array_some (Some i) None s first second third = absurd (true≢false (sym second))
array_some (Some i) (Some e) None first second third = absurd (true≢false (sym third))

array_made : (g : Ground) (at : Pos) (i e : Option ModeTree) (s : Option written.SpreadTree) → AllKnown g → SpreadNeeds g s → IsSome i → IsSome e → told_in_spread g s ≡ [] → told_at_array g at i e s ≡ [] → IsSome (unless_told (told_at_array g at i e s) (array_from i e (spread_there g s)))
array_made g at i e s known needs index element inside none =
    let misfits = step_misfits g s || holds_of_three is_impossible_spread i e (spread_there g s) in
    let fits = not_broken misfits (tell at rules.M14 (codes "element")) (none_inside (told_spread g at i e s) (told_large (array_from i e (spread_there g s)) at) none) in
    told_nothing (told_at_array g at i e s) (array_from i e (spread_there g s)) none
    (array_some i e (spread_there g s) index element (spread_made g s known needs inside (neither_left (step_misfits g s) (holds_of_three is_impossible_spread i e (spread_there g s)) fits)))

-- ---- structures

-- a field's mode is there, and its place where its numbers are of INT
record IsKnownField (g : Ground) (f : FieldThere) : Type 0 where
  mode : IsSome f.mode
  place : place_has_no_int g f.written ≡ false → IsSome (held_place f)

abbrev AreKnownFields : Ground → List FieldThere → Type 0
AreKnownFields g [] = Unit {0}
AreKnownFields g (f ∷ fs) = IsKnownField g f × AreKnownFields g fs

known_both : (g : Ground) (xs ys : List FieldThere) → AreKnownFields g xs → AreKnownFields g ys → AreKnownFields g (xs ++ ys)
known_both g [] ys first later = later
known_both g (x ∷ xs) ys first later = (first.0, known_both g xs ys first.1 later)

named_known : (g : Ground) (m : Option ModeTree) (p : Option written.PlaceTree) (ns : List Name) → AllKnown g → IsSome m → SomePlaceNeeds g p → told_in_some_place g p ≡ [] → AreKnownFields g (fields_named g m p ns)
named_known g m p [] known there needs none = tt
named_known g m None (n ∷ ns) known there needs none = (record { mode = there; place = λ fits. refl }, named_known g m None ns known there needs none)
named_known g m (Some p) (n ∷ ns) known there needs none = (record { mode = there; place = λ fits. mapped Some (place_there g p) (place_made g p known needs none fits) }, named_known g m (Some p) ns known there needs none)

field_some : (n : List ℕ) (m : Option ModeTree) (at : Option (Option PlaceTree)) (fs : Option FieldNodes) → IsSome m → IsSome at → IsSome fs → IsSome (field_from n m at fs)
field_some n (Some m) (Some at) (Some fs) first second third = refl
field_some n None at fs first second third = absurd (true≢false (sym first))
field_some n (Some m) None fs first second third = absurd (true≢false (sym second))
field_some n (Some m) (Some at) None first second third = absurd (true≢false (sym third))

-- M14 isn't told of a field: where it has a place, its numbers are of INT
placed_well : (g : Ground) (w : Option written.PlaceTree) (unplaced impossible : Bool) → (is_some w && (unplaced || (place_has_no_int g w || impossible))) ≡ false → place_has_no_int g w ≡ false
placed_well g None unplaced impossible fits = refl
placed_well g (Some p) unplaced impossible fits = neither_left (place_has_no_int g (Some p)) impossible (neither_right unplaced (place_has_no_int g (Some p) || impossible) fits)

fields_made : (g : Ground) (all_placed : Bool) (earlier fs : List FieldThere) → AreKnownFields g fs → told_fields g all_placed earlier fs ≡ [] → IsSome (fields_from fs)
fields_made g all_placed earlier [] known none = refl
fields_made g all_placed earlier (f ∷ fs) known none =
    let twice = told_if (is_twice earlier f) (tell f.name.at rules.M7 f.name.text) ++ told_overlap earlier f in
    let misplaced = told_if (is_misplaced g all_placed f) (tell f.name.at rules.M14 f.name.text) in
    let own = none_first (twice ++ misplaced) (told_fields g all_placed (earlier ++ f ∷ []) fs) none in
    let fits = not_broken (is_misplaced g all_placed f) (tell f.name.at rules.M14 f.name.text) (none_later twice misplaced own) in
    field_some f.name.text f.mode (held_place f) (fields_from fs) known.0.mode (known.0.place (placed_well g f.written (not all_placed) (holds_of_both (λ m p. not (is_possible m p)) f.mode f.place) fits))
    (fields_made g all_placed (earlier ++ f ∷ []) fs known.1 (none_later (twice ++ misplaced) (told_fields g all_placed (earlier ++ f ∷ []) fs) none))

structure_made : (g : Ground) (at : Pos) (p : Option Packing) (fs : List FieldThere) → AreKnownFields g fs → told_at_structure g at p fs ≡ [] → IsSome (unless_told (told_at_structure g at p fs) (structure_from p fs))
structure_made g at p fs known none =
    told_nothing (told_at_structure g at p fs) (structure_from p fs) none
    (mapped (λ fs. structure fs (is_packed p)) (fields_from fs) (fields_made g (have_places fs) [] fs known (none_inside (told_fields g (have_places fs) [] fs) (told_large (structure_from p fs) at) none)))

-- ---- modes

mutual
  base_there : (g : Ground) (whole : Bool) (b : written.BaseTree) → AllKnown g → BaseNeeds g b → told_of_base g whole b ≡ [] → IsSome (mode_of_base g whole b)
  base_there g whole (written.discrete d) known needs none = discrete_there g whole d known needs none
  base_there g whole (written.powerset at d) known needs none =
      let not_discrete = told_not_discrete (mode_of_discrete g false d) (first_place_of d) in
      let large = told_if (holds_of is_large_powerset (mode_of_discrete g false d)) (tell_at rules.M5 at) in
      told_nothing (told_of_powerset g at d) (option_map powerset (mode_of_discrete g false d)) none (mapped powerset (mode_of_discrete g false d) (discrete_there g false d known needs (none_first (told_of_discrete g false d) (not_discrete ++ large) none)))
  base_there g whole (written.chars at e) known needs none = mapped chars (length_of g 0 256 e) (length_there g 0 256 e known needs none)
  base_there g whole (written.structure at fs p) known needs none =
      structure_made g at p (fields_there g fs) (fields_known g fs known needs (none_first (told_in_fields g fs) (told_at_structure g at p (fields_there g fs)) none)) (none_later (told_in_fields g fs) (told_at_structure g at p (fields_there g fs)) none)
  base_there g whole (written.array at i b s) known needs none =
      let inside = (told_of_index g i ++ told_of_base g false b) ++ told_in_spread g s in
      let at_it = told_at_array g at (mode_of_index g i) (mode_of_base g false b) s in
      let parts = none_first inside at_it none in
      let first = none_first (told_of_index g i ++ told_of_base g false b) (told_in_spread g s) parts in
      array_made g at (mode_of_index g i) (mode_of_base g false b) s known needs.1.1 (index_there g i known needs.0 (none_first (told_of_index g i) (told_of_base g false b) first))
      (base_there g false b known needs.1.0 (none_later (told_of_index g i) (told_of_base g false b) first)) (none_later (told_of_index g i ++ told_of_base g false b) (told_in_spread g s) parts) (none_later inside at_it none)

  fields_known : (g : Ground) (fs : written.FieldNodes) → AllKnown g → FieldsNeed g fs → told_in_fields g fs ≡ [] → AreKnownFields g (fields_there g fs)
  fields_known g written.no_fields known needs none = tt
  fields_known g (written.more_fields ns b p fs) known needs none =
      let own = none_first (told_of_base g false b ++ told_in_some_place g p) (told_in_fields g fs) none in
      known_both g (fields_named g (mode_of_base g false b) p ns) (fields_there g fs)
      (named_known g (mode_of_base g false b) p ns known (base_there g false b known needs.0.0 (none_first (told_of_base g false b) (told_in_some_place g p) own)) needs.0.1 (none_later (told_of_base g false b) (told_in_some_place g p) own))
      (fields_known g fs known needs.1 (none_later (told_of_base g false b ++ told_in_some_place g p) (told_in_fields g fs) none))

buffer_some : (l : Option (Option ℕ)) (e : Option ModeTree) → IsSome l → IsSome e → IsSome (buffer_from l e)
buffer_some (Some l) (Some e) first later = refl
buffer_some None e first later = absurd (true≢false (sym first))
buffer_some (Some l) None first later = absurd (true≢false (sym later))

-- as the whole mode
is_whole : (whole : Bool) (at : Pos) (m : Option ModeTree) → told_unless_whole whole at ≡ [] → IsSome m → IsSome (if_whole whole m)
is_whole whole at m none there = subst (λ b. IsSome (if b then m else None)) (sym (not_true whole (not_broken (not whole) (tell_at rules.M8 at) none))) there

pub written_there : WrittenThereLaw
written_there g whole (written.base_mode b) known needs none = base_there g whole b known needs none
written_there g whole (written.read_mode at b) known needs none = mapped read (mode_of_base g false b) (base_there g false b known needs none)
written_there g whole (written.event_mode at l) known needs none =
    is_whole whole at (option_map event (some_length_of g 1 1000 l)) (none_first (told_unless_whole whole at) (told_some_length g 1 1000 l) none)
    (mapped event (some_length_of g 1 1000 l) (some_length_there g 1 1000 l known needs (none_later (told_unless_whole whole at) (told_some_length g 1 1000 l) none)))
written_there g whole (written.buffer_mode at l b) known needs none =
    let first = none_first (told_unless_whole whole at ++ told_some_length g 0 1000 l) (told_of_base g false b) none in
    is_whole whole at (buffer_from (some_length_of g 0 1000 l) (mode_of_base g false b)) (none_first (told_unless_whole whole at) (told_some_length g 0 1000 l) first)
    (buffer_some (some_length_of g 0 1000 l) (mode_of_base g false b) (some_length_there g 0 1000 l known needs.0 (none_later (told_unless_whole whole at) (told_some_length g 0 1000 l) first))
    (base_there g false b known needs.1 (none_later (told_unless_whole whole at ++ told_some_length g 0 1000 l) (told_of_base g false b) none)))

-- The mode that is written, and what is told of it, depend on the ground only by the names in the mode.
use Rattle.std.proofs.Common.{◌≡◌, ℕ, Bool, true, false, List, [], ◌∷◌, ◌++◌, Option, Some, None, refl, ap, ◌∙◌}
use Rattle.std.specs.Prelude.{option_map, option_and_then, ◌&&◌, ◌||◌, is_some, not, if◌then◌else◌, map, length}
use Rattle.chill_base.specs.declared.pos.Pos.{Pos}
use Rattle.chill_tree.specs.declared.tree.name.Name.{Name}
use Rattle.chill_tree.specs.declared.tree.mode.Packing.{Packing}
use Rattle.chill_tree.specs.declared.tree.mode.Packing.TheVariants as packings
use Rattle.chill_tree.specs.ExprTree.{ExprTree, place_of}
use Rattle.chill_tree.specs.ModeTree as written
use Rattle.modes.specs.ModeTree.{ModeTree, int, set_of, powerset, chars, event, read}
use Rattle.modes.specs.Bounds.{bounds_of, natural_of}
use Rattle.diagnostics.specs.declared.rule.Rule.TheVariants as rules
use Rattle.std.specs.Prelude.{codes}
use Rattle.layout_map.specs.Place.{is_possible}
use Rattle.names_model.specs.NameRules.{tell}
use Rattle.checks_model.specs.Alike.{goes_with, is_meeting, of_form}
use Rattle.checks_model.specs.Told.{tell_at, told_if, is_none_told, then_told, holds_of, holds_of_both}
use Rattle.checks_model.specs.Ground.{Ground, number_at}
use Rattle.checks_model.specs.Classes.{class_of}
use Rattle.checks_model.specs.Constants.{has_form}
use Rattle.checks_model.specs.ConstantRules.{by_itself, told_of_constants, told_needed, is_outside}
use Rattle.checks_model.specs.WrittenModes.{unless_told, number_in, needed_number, is_no_int, from_to, told_length, told_some_length, length_of, some_length_of, bound_misfits, told_bound, is_above, told_range, range_from, range_of, told_name, named_mode_in, told_not_discrete, told_discrete_name, discrete_name, told_of_discrete, set_named, mode_of_discrete, first_place_of, is_large_powerset, told_of_powerset, has_index_values, told_of_index, mode_of_index, place_from, numbers_of_place, holds_of_three, is_impossible_spread, has_no_int, place_there, told_in_place, numbers_of_step, step_from, spread_there, step_misfits, told_in_spread, told_large, array_from, told_at_array, FieldThere, place_has_no_int, told_field, told_fields, have_places, has_place, is_twice, told_overlap, structure_from, told_at_structure, fields_named, told_in_some_place, mode_of_base, fields_there, told_of_base, told_in_fields, buffer_from, if_whole, told_unless_whole}
use Rattle.table_laws.specs.Names.{names_in, names_in_some, names_in_discrete, names_in_index, names_in_place, names_in_some_place, names_in_spread, names_in_base, names_in_fields}
use Rattle.table_laws.specs.Frames.{SameKnown, SameKnownEach, ModeFrame, ToldModeFrame}
use Rattle.table_laws.proofs.KnownFrames.{first_known, later_known, of_two, of_three, of_four, mode_of_name_known, form_frame, formed_class}
use Rattle.table_laws.proofs.ConstantFrames.{constant_frame, told_constant_frame, then_guarded, none_formed}

-- ---- numbers

needed_frame : (g h : Ground) (e : ExprTree) → SameKnownEach g h (names_in e) → told_needed g e ≡ told_needed h e
needed_frame g h e same = of_two (λ t f. then_told t (told_if (not f) (tell_at rules.M1 (place_of e)))) (told_constant_frame g h by_itself None e same) (form_frame g h false e same)

number_frame : (g h : Ground) (e : ExprTree) → SameKnownEach g h (names_in e) → needed_number g e ≡ needed_number h e
number_frame g h e same = of_two (λ t v. unless_told t (option_and_then number_in v)) (needed_frame g h e same) (constant_frame g h None e same)

-- where nothing is told in a needed constant it has the form, and so its class is the same
needed_class : (g h : Ground) (e : ExprTree) → SameKnownEach g h (names_in e) → is_none_told (told_needed g e) ≡ true → class_of g e ≡ class_of h e
needed_class g h e same none = formed_class g h None false e same (none_formed (told_of_constants g e) (has_form g false e) (tell_at rules.M1 (place_of e)) none)

no_int_frame : (g h : Ground) (e : ExprTree) → SameKnownEach g h (names_in e) → is_no_int g e ≡ is_no_int h e
no_int_frame g h e same = by (is_none_told (told_needed g e)) (needed_class g h e same) ∙ ap (λ t. is_none_told t && holds_of (λ c. not (goes_with c int)) (class_of h e)) (needed_frame g h e same)
  where
    by : (b : Bool) → (b ≡ true → class_of g e ≡ class_of h e) → (b && holds_of (λ c. not (goes_with c int)) (class_of g e)) ≡ (b && holds_of (λ c. not (goes_with c int)) (class_of h e))
    by true same = ap (holds_of (λ c. not (goes_with c int))) (same refl)
    by false same = refl

told_length_frame : (g h : Ground) (low high : ℕ) (e : ExprTree) → SameKnownEach g h (names_in e) → told_length g low high e ≡ told_length h low high e
told_length_frame g h low high e same =
    then_guarded (told_needed g e) (needed_frame g h e same)
    (λ none. of_two (λ c v. told_if (holds_of (λ c. not (goes_with c int)) c || holds_of (is_outside (from_to low high)) v) (tell_at rules.M6 (place_of e))) (needed_class g h e same none) (constant_frame g h None e same))

length_frame : (g h : Ground) (low high : ℕ) (e : ExprTree) → SameKnownEach g h (names_in e) → length_of g low high e ≡ length_of h low high e
length_frame g h low high e same = of_two (λ t n. unless_told t (option_map natural_of n)) (told_length_frame g h low high e same) (number_frame g h e same)

some_length_frame : (g h : Ground) (low high : ℕ) (e : Option ExprTree) → SameKnownEach g h (names_in_some e) → some_length_of g low high e ≡ some_length_of h low high e
some_length_frame g h low high None same = refl
some_length_frame g h low high (Some e) same = ap (option_map Some) (length_frame g h low high e same)

told_some_length_frame : (g h : Ground) (low high : ℕ) (e : Option ExprTree) → SameKnownEach g h (names_in_some e) → told_some_length g low high e ≡ told_some_length h low high e
told_some_length_frame g h low high None same = refl
told_some_length_frame g h low high (Some e) same = told_length_frame g h low high e same

-- ---- ranges

misfits_frame : (g h : Ground) (e : ExprTree) (p : Option ModeTree) → SameKnownEach g h (names_in e) → class_of g e ≡ class_of h e → holds_of (bound_misfits g e) p ≡ holds_of (bound_misfits h e) p
misfits_frame g h e p same class =
    of_two (λ c v. holds_of (λ p. holds_of (λ c. not (goes_with c p)) c || (holds_of (λ c. goes_with c p) c && holds_of (is_outside (bounds_of p)) v)) p) class (constant_frame g h None e same)

bound_frame : (g h : Ground) (p : Option ModeTree) (e : ExprTree) → SameKnownEach g h (names_in e) → told_bound g p e ≡ told_bound h p e
bound_frame g h p e same =
    then_guarded (told_needed g e) (needed_frame g h e same) (λ none. ap (λ b. told_if b (tell_at rules.M3 (place_of e))) (misfits_frame g h e p same (needed_class g h e same none)))

told_range_frame : (g h : Ground) (p : Option ModeTree) (l k : ExprTree) → SameKnownEach g h (names_in l) → SameKnownEach g h (names_in k) → told_range g p l k ≡ told_range h p l k
told_range_frame g h p l k low high =
    of_four (λ a b m n. then_told (a ++ b) (told_if (is_some p && holds_of_both is_above m n) (tell_at rules.M2 (place_of l)))) (bound_frame g h p l low) (bound_frame g h p k high) (number_frame g h l low) (number_frame g h k high)

range_frame : (g h : Ground) (p : Option ModeTree) (l k : ExprTree) → SameKnownEach g h (names_in l) → SameKnownEach g h (names_in k) → range_of g p l k ≡ range_of h p l k
range_frame g h p l k low high =
    of_three (λ t m n. unless_told t (range_from p m n)) (told_range_frame g h p l k low high) (number_frame g h l low) (number_frame g h k high)

-- ---- names and what is discrete

told_name_frame : (g h : Ground) (whole : Bool) (n : Name) → SameKnown g h n → told_name g whole n ≡ told_name h whole n
told_name_frame g h whole n same = ap (λ m. told_if (not whole && of_form is_meeting m) (tell_at rules.M8 n.at)) (mode_of_name_known g h n same)

named_frame : (g h : Ground) (whole : Bool) (n : Name) → SameKnown g h n → named_mode_in g whole n ≡ named_mode_in h whole n
named_frame g h whole n same = of_two unless_told (told_name_frame g h whole n same) (mode_of_name_known g h n same)

told_discrete_name_frame : (g h : Ground) (n : Name) → SameKnown g h n → told_discrete_name g n ≡ told_discrete_name h n
told_discrete_name_frame g h n same = of_two (λ t m. then_told t (told_not_discrete m n.at)) (told_name_frame g h false n same) (mode_of_name_known g h n same)

discrete_name_frame : (g h : Ground) (n : Name) → SameKnown g h n → discrete_name g n ≡ discrete_name h n
discrete_name_frame g h n same = of_two unless_told (told_discrete_name_frame g h n same) (mode_of_name_known g h n same)

told_discrete_frame : (g h : Ground) (whole : Bool) (d : written.DiscreteTree) → SameKnownEach g h (names_in_discrete d) → told_of_discrete g whole d ≡ told_of_discrete h whole d
told_discrete_frame g h whole (written.named n) same = told_name_frame g h whole n same.0
told_discrete_frame g h whole (written.bounded n l k) same =
    let low = first_known g h (names_in l) (names_in k) same.1 in
    let high = later_known g h (names_in l) (names_in k) same.1 in
    of_two (λ a b. a ++ b) (told_discrete_name_frame g h n same.0) (ap (λ p. told_range g p l k) (discrete_name_frame g h n same.0) ∙ told_range_frame g h (discrete_name h n) l k low high)
told_discrete_frame g h whole (written.set_of at ns) same = refl

set_frame : (g h : Ground) (ns : List Name) → g.defined ≡ h.defined → set_named g ns ≡ set_named h ns
set_frame g h [] defined = refl
set_frame g h (n ∷ ns) defined = ap (λ ds. option_map (λ first. set_of first (length (n ∷ ns))) (number_at ds n.at)) defined

discrete_frame : (g h : Ground) (whole : Bool) (d : written.DiscreteTree) → g.defined ≡ h.defined → SameKnownEach g h (names_in_discrete d) → mode_of_discrete g whole d ≡ mode_of_discrete h whole d
discrete_frame g h whole (written.named n) defined same = named_frame g h whole n same.0
discrete_frame g h whole (written.bounded n l k) defined same =
    ap (λ p. range_of g p l k) (discrete_name_frame g h n same.0) ∙ range_frame g h (discrete_name h n) l k (first_known g h (names_in l) (names_in k) same.1) (later_known g h (names_in l) (names_in k) same.1)
discrete_frame g h whole (written.set_of at ns) defined same = set_frame g h ns defined

told_powerset_frame : (g h : Ground) (at : Pos) (d : written.DiscreteTree) → g.defined ≡ h.defined → SameKnownEach g h (names_in_discrete d) → told_of_powerset g at d ≡ told_of_powerset h at d
told_powerset_frame g h at d defined same =
    of_two (λ t m. t ++ (told_not_discrete m (first_place_of d) ++ told_if (holds_of is_large_powerset m) (tell_at rules.M5 at))) (told_discrete_frame g h false d same) (discrete_frame g h false d defined same)

told_index_frame : (g h : Ground) (i : written.IndexTree) → SameKnownEach g h (names_in_index i) → told_of_index g i ≡ told_of_index h i
told_index_frame g h (written.index_named n) same =
    of_two (λ t m. then_told t (told_if (holds_of (λ m. not (has_index_values m)) m) (tell_at rules.M6 n.at))) (told_discrete_name_frame g h n same.0) (mode_of_name_known g h n same.0)
told_index_frame g h (written.index_bounded l k) same =
    let low = first_known g h (names_in l) (names_in k) same in
    let high = later_known g h (names_in l) (names_in k) same in
    of_two (λ t m. then_told t (told_if (holds_of (λ m. not (has_index_values m)) m) (tell_at rules.M6 (place_of l)))) (told_range_frame g h (Some int) l k low high) (range_frame g h (Some int) l k low high)

index_frame : (g h : Ground) (i : written.IndexTree) → SameKnownEach g h (names_in_index i) → mode_of_index g i ≡ mode_of_index h i
index_frame g h (written.index_named n) same = of_two unless_told (told_index_frame g h (written.index_named n) same) (mode_of_name_known g h n same.0)
index_frame g h (written.index_bounded l k) same =
    of_two unless_told (told_index_frame g h (written.index_bounded l k) same)
    (range_frame g h (Some int) l k (first_known g h (names_in l) (names_in k) same) (later_known g h (names_in l) (names_in k) same))

-- ---- places

-- the three expressions of a place
record SameInPlace (g h : Ground) (p : written.PlaceTree) : Type 0 where
  word : SameKnownEach g h (names_in p.word)
  start : SameKnownEach g h (names_in p.start)
  bound : SameKnownEach g h (names_in p.bound)

in_place : (g h : Ground) (p : written.PlaceTree) → SameKnownEach g h (names_in_place p) → SameInPlace g h p
in_place g h p same =
    let first = first_known g h (names_in p.word ++ names_in p.start) (names_in p.bound) same in
    record {
      word = first_known g h (names_in p.word) (names_in p.start) first;
      start = later_known g h (names_in p.word) (names_in p.start) first;
      bound = later_known g h (names_in p.word ++ names_in p.start) (names_in p.bound) same;
    }

place_no_int_frame : (g h : Ground) (p : written.PlaceTree) → SameKnownEach g h (names_in_place p) → has_no_int g (numbers_of_place p) ≡ has_no_int h (numbers_of_place p)
place_no_int_frame g h p same =
    let each = in_place g h p same in
    of_three (λ a b c. a || (b || (c || false))) (no_int_frame g h p.word each.word) (no_int_frame g h p.start each.start) (no_int_frame g h p.bound each.bound)

place_frame : (g h : Ground) (p : written.PlaceTree) → SameKnownEach g h (names_in_place p) → place_there g p ≡ place_there h p
place_frame g h p same =
    let each = in_place g h p same in
    of_four (λ bad w s b. if bad then None else place_from p.form w s b) (place_no_int_frame g h p same) (number_frame g h p.word each.word) (number_frame g h p.start each.start) (number_frame g h p.bound each.bound)

told_place_frame : (g h : Ground) (p : written.PlaceTree) → SameKnownEach g h (names_in_place p) → told_in_place g p ≡ told_in_place h p
told_place_frame g h p same =
    let each = in_place g h p same in
    of_three (λ a b c. a ++ (b ++ (c ++ []))) (needed_frame g h p.word each.word) (needed_frame g h p.start each.start) (needed_frame g h p.bound each.bound)

some_place_frame : (g h : Ground) (p : Option written.PlaceTree) → SameKnownEach g h (names_in_some_place p) → option_and_then (place_there g) p ≡ option_and_then (place_there h) p
some_place_frame g h None same = refl
some_place_frame g h (Some p) same = place_frame g h p same

some_place_no_int_frame : (g h : Ground) (p : Option written.PlaceTree) → SameKnownEach g h (names_in_some_place p) → place_has_no_int g p ≡ place_has_no_int h p
some_place_no_int_frame g h None same = refl
some_place_no_int_frame g h (Some p) same = place_no_int_frame g h p same

told_some_place_frame : (g h : Ground) (p : Option written.PlaceTree) → SameKnownEach g h (names_in_some_place p) → told_in_some_place g p ≡ told_in_some_place h p
told_some_place_frame g h None same = refl
told_some_place_frame g h (Some p) same = told_place_frame g h p same

-- ---- how elements lie

step_no_int_frame : (g h : Ground) (s : written.StepTree) → SameKnownEach g h (names_in_spread (Some (written.by_step s))) → has_no_int g (numbers_of_step s) ≡ has_no_int h (numbers_of_step s)
step_no_int_frame g h s same =
    let each = in_place g h s.place (first_known g h (names_in_place s.place) (names_in s.distance) same) in
    of_four (λ a b c d. a || (b || (c || (d || false)))) (no_int_frame g h s.place.word each.word) (no_int_frame g h s.place.start each.start) (no_int_frame g h s.place.bound each.bound)
    (no_int_frame g h s.distance (later_known g h (names_in_place s.place) (names_in s.distance) same))

spread_frame : (g h : Ground) (s : Option written.SpreadTree) → SameKnownEach g h (names_in_spread s) → spread_there g s ≡ spread_there h s
spread_frame g h None same = refl
spread_frame g h (Some (written.by_packing packings.NoPack)) same = refl
spread_frame g h (Some (written.by_packing packings.Pack)) same = refl
spread_frame g h (Some (written.by_step s)) same =
    of_three (λ bad p d. if bad then None else step_from p d) (step_no_int_frame g h s same)
    (place_frame g h s.place (first_known g h (names_in_place s.place) (names_in s.distance) same)) (number_frame g h s.distance (later_known g h (names_in_place s.place) (names_in s.distance) same))

step_misfits_frame : (g h : Ground) (s : Option written.SpreadTree) → SameKnownEach g h (names_in_spread s) → step_misfits g s ≡ step_misfits h s
step_misfits_frame g h None same = refl
step_misfits_frame g h (Some (written.by_packing p)) same = refl
step_misfits_frame g h (Some (written.by_step s)) same = step_no_int_frame g h s same

told_in_spread_frame : (g h : Ground) (s : Option written.SpreadTree) → SameKnownEach g h (names_in_spread s) → told_in_spread g s ≡ told_in_spread h s
told_in_spread_frame g h None same = refl
told_in_spread_frame g h (Some (written.by_packing p)) same = refl
told_in_spread_frame g h (Some (written.by_step s)) same =
    let each = in_place g h s.place (first_known g h (names_in_place s.place) (names_in s.distance) same) in
    of_four (λ a b c d. a ++ (b ++ (c ++ (d ++ [])))) (needed_frame g h s.place.word each.word) (needed_frame g h s.place.start each.start) (needed_frame g h s.place.bound each.bound)
    (needed_frame g h s.distance (later_known g h (names_in_place s.place) (names_in s.distance) same))

array_frame : (g h : Ground) (at : Pos) {i j e f : Option ModeTree} (s : Option written.SpreadTree) → i ≡ j → e ≡ f → SameKnownEach g h (names_in_spread s) → told_at_array g at i e s ≡ told_at_array h at j f s
array_frame g h at s index element same =
    of_four (λ i e b how. then_told (told_if (b || holds_of_three is_impossible_spread i e how) (tell at rules.M14 (codes "element"))) (told_large (array_from i e how) at))
    index element (step_misfits_frame g h s same) (spread_frame g h s same)

-- ---- fields

-- whether the numbers of the places of fields are of INT is the same
abbrev SamePlaces : Ground → Ground → List FieldThere → Type 0
SamePlaces g h [] = Unit {0}
SamePlaces g h (f ∷ fs) = (place_has_no_int g f.written ≡ place_has_no_int h f.written) × SamePlaces g h fs

places_append : (g h : Ground) (fs ks : List FieldThere) → SamePlaces g h fs → SamePlaces g h ks → SamePlaces g h (fs ++ ks)
places_append g h [] ks a b = b
places_append g h (f ∷ fs) ks a b = (a.0, places_append g h fs ks a.1 b)

named_places : (g h k : Ground) (m : Option ModeTree) (p : Option written.PlaceTree) (ns : List Name) → place_has_no_int g p ≡ place_has_no_int h p → SamePlaces g h (fields_named k m p ns)
named_places g h k m p [] same = tt
named_places g h k m p (n ∷ ns) same = (same, named_places g h k m p ns same)

told_field_frame : (g h : Ground) (all_placed : Bool) (earlier : List FieldThere) (f : FieldThere) → place_has_no_int g f.written ≡ place_has_no_int h f.written → told_field g all_placed earlier f ≡ told_field h all_placed earlier f
told_field_frame g h all_placed earlier f same =
    ap (λ b. told_if (is_twice earlier f) (tell f.name.at rules.M7 f.name.text) ++ told_overlap earlier f ++ told_if (has_place f && (not all_placed || (b || holds_of_both (λ m p. not (is_possible m p)) f.mode f.place))) (tell f.name.at rules.M14 f.name.text)) same

told_fields_frame : (g h : Ground) (all_placed : Bool) (earlier fs : List FieldThere) → SamePlaces g h fs → told_fields g all_placed earlier fs ≡ told_fields h all_placed earlier fs
told_fields_frame g h all_placed earlier [] same = refl
told_fields_frame g h all_placed earlier (f ∷ fs) same = of_two (λ a b. a ++ b) (told_field_frame g h all_placed earlier f same.0) (told_fields_frame g h all_placed (earlier ++ f ∷ []) fs same.1)

told_structure_frame : (g h : Ground) (at : Pos) (p : Option Packing) {fs ks : List FieldThere} → fs ≡ ks → SamePlaces g h ks → told_at_structure g at p fs ≡ told_at_structure h at p ks
told_structure_frame g h at p {fs} {ks} same places =
    ap (told_at_structure g at p) same ∙ ap (λ t. then_told t (told_large (structure_from p ks) at)) (told_fields_frame g h (have_places ks) [] ks places)

-- ---- modes of values

mutual
  base_frame : (g h : Ground) (whole : Bool) (b : written.BaseTree) → g.defined ≡ h.defined → SameKnownEach g h (names_in_base b) → mode_of_base g whole b ≡ mode_of_base h whole b
  base_frame g h whole (written.discrete d) defined same = discrete_frame g h whole d defined same
  base_frame g h whole (written.powerset at d) defined same = of_two (λ t m. unless_told t (option_map powerset m)) (told_powerset_frame g h at d defined same) (discrete_frame g h false d defined same)
  base_frame g h whole (written.chars at e) defined same = ap (option_map chars) (length_frame g h 0 256 e same)
  base_frame g h whole (written.structure at fs p) defined same =
      of_two (λ t fs. unless_told t (structure_from p fs)) (told_structure_frame g h at p (fields_frame g h fs defined same) (fields_places g h h fs same)) (fields_frame g h fs defined same)
  base_frame g h whole (written.array at i b s) defined same =
      let first = first_known g h (names_in_index i ++ names_in_base b) (names_in_spread s) same in
      let last = later_known g h (names_in_index i ++ names_in_base b) (names_in_spread s) same in
      let index = index_frame g h i (first_known g h (names_in_index i) (names_in_base b) first) in
      let element = base_frame g h false b defined (later_known g h (names_in_index i) (names_in_base b) first) in
      of_four (λ t i e how. unless_told t (array_from i e how)) (array_frame g h at s index element last) index element (spread_frame g h s last)

  fields_frame : (g h : Ground) (fs : written.FieldNodes) → g.defined ≡ h.defined → SameKnownEach g h (names_in_fields fs) → fields_there g fs ≡ fields_there h fs
  fields_frame g h written.no_fields defined same = refl
  fields_frame g h (written.more_fields ns b p fs) defined same =
      let first = first_known g h (names_in_base b ++ names_in_some_place p) (names_in_fields fs) same in
      of_three (λ m at rest. map (λ n. record { name = n; mode = m; written = p; place = at }) ns ++ rest)
      (base_frame g h false b defined (first_known g h (names_in_base b) (names_in_some_place p) first))
      (some_place_frame g h p (later_known g h (names_in_base b) (names_in_some_place p) first))
      (fields_frame g h fs defined (later_known g h (names_in_base b ++ names_in_some_place p) (names_in_fields fs) same))

  fields_places : (g h k : Ground) (fs : written.FieldNodes) → SameKnownEach g h (names_in_fields fs) → SamePlaces g h (fields_there k fs)
  fields_places g h k written.no_fields same = tt
  fields_places g h k (written.more_fields ns b p fs) same =
      let first = first_known g h (names_in_base b ++ names_in_some_place p) (names_in_fields fs) same in
      places_append g h (fields_named k (mode_of_base k false b) p ns) (fields_there k fs)
      (named_places g h k (mode_of_base k false b) p ns (some_place_no_int_frame g h p (later_known g h (names_in_base b) (names_in_some_place p) first)))
      (fields_places g h k fs (later_known g h (names_in_base b ++ names_in_some_place p) (names_in_fields fs) same))

mutual
  told_base_frame : (g h : Ground) (whole : Bool) (b : written.BaseTree) → g.defined ≡ h.defined → SameKnownEach g h (names_in_base b) → told_of_base g whole b ≡ told_of_base h whole b
  told_base_frame g h whole (written.discrete d) defined same = told_discrete_frame g h whole d same
  told_base_frame g h whole (written.powerset at d) defined same = told_powerset_frame g h at d defined same
  told_base_frame g h whole (written.chars at e) defined same = told_length_frame g h 0 256 e same
  told_base_frame g h whole (written.structure at fs p) defined same =
      of_two (λ a b. a ++ b) (told_in_fields_frame g h fs defined same) (told_structure_frame g h at p (fields_frame g h fs defined same) (fields_places g h h fs same))
  told_base_frame g h whole (written.array at i b s) defined same =
      let first = first_known g h (names_in_index i ++ names_in_base b) (names_in_spread s) same in
      let last = later_known g h (names_in_index i ++ names_in_base b) (names_in_spread s) same in
      let at_index = first_known g h (names_in_index i) (names_in_base b) first in
      let at_base = later_known g h (names_in_index i) (names_in_base b) first in
      of_four (λ a b c d. (a ++ b ++ c) ++ d) (told_index_frame g h i at_index) (told_base_frame g h false b defined at_base) (told_in_spread_frame g h s last)
      (array_frame g h at s (index_frame g h i at_index) (base_frame g h false b defined at_base) last)

  told_in_fields_frame : (g h : Ground) (fs : written.FieldNodes) → g.defined ≡ h.defined → SameKnownEach g h (names_in_fields fs) → told_in_fields g fs ≡ told_in_fields h fs
  told_in_fields_frame g h written.no_fields defined same = refl
  told_in_fields_frame g h (written.more_fields ns b p fs) defined same =
      let first = first_known g h (names_in_base b ++ names_in_some_place p) (names_in_fields fs) same in
      of_three (λ a b c. (a ++ b) ++ c)
      (told_base_frame g h false b defined (first_known g h (names_in_base b) (names_in_some_place p) first))
      (told_some_place_frame g h p (later_known g h (names_in_base b) (names_in_some_place p) first))
      (told_in_fields_frame g h fs defined (later_known g h (names_in_base b ++ names_in_some_place p) (names_in_fields fs) same))

-- ---- modes

pub mode_frame : ModeFrame
mode_frame g h whole (written.base_mode b) defined same = base_frame g h whole b defined same
mode_frame g h whole (written.read_mode at b) defined same = ap (option_map read) (base_frame g h false b defined same)
mode_frame g h whole (written.event_mode at l) defined same = ap (λ l. if_whole whole (option_map event l)) (some_length_frame g h 1 1000 l same)
mode_frame g h whole (written.buffer_mode at l b) defined same =
    of_two (λ l e. if_whole whole (buffer_from l e)) (some_length_frame g h 0 1000 l (first_known g h (names_in_some l) (names_in_base b) same)) (base_frame g h false b defined (later_known g h (names_in_some l) (names_in_base b) same))

pub told_mode_frame : ToldModeFrame
told_mode_frame g h whole (written.base_mode b) defined same = told_base_frame g h whole b defined same
told_mode_frame g h whole (written.read_mode at b) defined same = told_base_frame g h false b defined same
told_mode_frame g h whole (written.event_mode at l) defined same = ap (λ t. told_unless_whole whole at ++ t) (told_some_length_frame g h 1 1000 l same)
told_mode_frame g h whole (written.buffer_mode at l b) defined same =
    of_two (λ a b. told_unless_whole whole at ++ a ++ b) (told_some_length_frame g h 0 1000 l (first_known g h (names_in_some l) (names_in_base b) same))
    (told_base_frame g h false b defined (later_known g h (names_in_some l) (names_in_base b) same))

-- In a mode that a text writes no place is impossible, where none is in the modes that it names.
use Rattle.std.proofs.Common.{◌≡◌, ℕ, ◌&&◌, ◌||◌, Bool, true, false, List, [], ◌∷◌, ◌++◌, Option, Some, None, ℤ, refl, sym, ap, ◌∙◌, subst, true≢false}
use Rattle.std.specs.Prelude.{option_map, option_and_then, not, map, length, is_some, if◌then◌else◌}
use Rattle.chill_tree.specs.declared.tree.name.Name.{Name}
use Rattle.chill_tree.specs.ModeTree as written
use Rattle.diagnostics.specs.declared.diagnostic.Diagnostic.{Diagnostic}
use Rattle.diagnostics.specs.declared.rule.Rule.TheVariants as rules
use Rattle.std.specs.Prelude.{codes}
use Rattle.modes.specs.ModeTree.{ModeTree, set_of, range, powerset, chars, array, structure, event, buffer, read, FieldNodes, no_fields, more_fields, PlaceTree, SpreadTree, words, packed, step}
use Rattle.modes.specs.Bounds.{values_of}
use Rattle.layout_map.specs.Place.{is_possible, is_possible_step}
use Rattle.names_model.specs.NameRules.{tell}
use Rattle.checks_model.specs.Ground.{Ground, number_at, mode_of_name}
use Rattle.checks_model.specs.Told.{told_if, then_told, holds_of_both}
use Rattle.checks_model.specs.WrittenModes.{unless_told, told_name, discrete_name, told_discrete_name, told_range, range_from, needed_number, set_named, mode_of_discrete, told_of_powerset, length_of, mode_of_index, spread_there, step_misfits, is_impossible_spread, holds_of_three, told_spread, told_large, array_from, told_at_array, FieldThere, has_place, have_places, place_has_no_int, is_misplaced, is_twice, told_overlap, told_field, told_fields, held_place, field_from, fields_from, structure_from, is_packed, told_at_structure, fields_named, mode_of_base, fields_there, some_length_of, if_whole, buffer_from, mode_of, place_there}
use Rattle.table_laws.specs.Names.{names_in, names_in_discrete, names_in_index, names_in_some_place, names_in_spread, names_in_base, names_in_fields, names_in_some, names_in_mode}
use Rattle.elaborated_laws.proofs.Told.{no_some, same_some, there_mapped, not_broken, not_true, none_first, none_later, none_inside, none_then, of_both, neither_left, neither_right, unless_none, unless_there}
use Rattle.constant_laws.specs.Places.{is_possible_spread, is_possible_at, are_possible, fields_are_possible}

-- the modes of names have possible places
abbrev pub IsOwnPossible : Ground → Name → Type 0
IsOwnPossible g n = (m : ModeTree) → mode_of_name g n ≡ Some m → are_possible m ≡ true

abbrev pub ArePossible : Ground → List Name → Type 0
ArePossible g [] = Unit {0}
ArePossible g (n ∷ ns) = IsOwnPossible g n × ArePossible g ns

possible_first : (g : Ground) (ns ks : List Name) → ArePossible g (ns ++ ks) → ArePossible g ns
possible_first g [] ks all = tt
possible_first g (n ∷ ns) ks all = (all.0, possible_first g ns ks all.1)

possible_later : (g : Ground) (ns ks : List Name) → ArePossible g (ns ++ ks) → ArePossible g ks
possible_later g [] ks all = all
possible_later g (n ∷ ns) ks all = possible_later g ns ks all.1

-- ---- modes without parts

range_possible : (p : Option ModeTree) (l h : Option ℤ) (m : ModeTree) → ((x : ModeTree) → p ≡ Some x → are_possible x ≡ true) → range_from p l h ≡ Some m → are_possible m ≡ true
range_possible (Some p) (Some l) (Some h) m own is = ap are_possible (sym (same_some (range p l h) m is)) ∙ own p refl
range_possible None l h m own is = no_some m is
range_possible (Some p) None h m own is = no_some m is
range_possible (Some p) (Some l) None m own is = no_some m is

set_possible : (g : Ground) (ns : List Name) (m : ModeTree) → set_named g ns ≡ Some m → are_possible m ≡ true
set_possible g [] m is = no_some m is
set_possible g (n ∷ ns) m is = let there = there_mapped (λ first. set_of first (length (n ∷ ns))) (number_at g.defined n.at) m is in ap are_possible (sym there.2)

discrete_possible : (g : Ground) (whole : Bool) (d : written.DiscreteTree) (m : ModeTree) → ArePossible g (names_in_discrete d) → mode_of_discrete g whole d ≡ Some m → are_possible m ≡ true
discrete_possible g whole (written.named n) m all is = all.0 m (unless_there (told_name g whole n) (mode_of_name g n) m is)
discrete_possible g whole (written.bounded n l h) m all is =
    range_possible (discrete_name g n) (needed_number g l) (needed_number g h) m (λ x own. all.0 x (unless_there (told_discrete_name g n) (mode_of_name g n) x own))
    (unless_there (told_range g (discrete_name g n) l h) (range_from (discrete_name g n) (needed_number g l) (needed_number g h)) m is)
discrete_possible g whole (written.set_of at ns) m all is = set_possible g ns m is

powerset_possible : (x : Option ModeTree) (m : ModeTree) → option_map powerset x ≡ Some m → are_possible m ≡ true
powerset_possible x m is = let there = there_mapped powerset x m is in ap are_possible (sym there.2)

chars_possible : (x : Option ℕ) (m : ModeTree) → option_map chars x ≡ Some m → are_possible m ≡ true
chars_possible x m is = let there = there_mapped chars x m is in ap are_possible (sym there.2)

-- ---- arrays

spread_possible : (i e : ModeTree) (how : SpreadTree) → is_impossible_spread i e how ≡ false → is_possible_spread (values_of i) e how ≡ true
spread_possible i e words none = refl
spread_possible i e packed none = refl
spread_possible i e (step p d) none = not_true (is_possible_step (values_of i) e p d) none

array_possible : (i e : Option ModeTree) (how : Option SpreadTree) (m : ModeTree) → holds_of_three is_impossible_spread i e how ≡ false → ((x : ModeTree) → e ≡ Some x → are_possible x ≡ true) → array_from i e how ≡ Some m → are_possible m ≡ true
array_possible (Some i) (Some e) (Some how) m none own is = ap are_possible (sym (same_some (array i e how) m is)) ∙ of_both (is_possible_spread (values_of i) e how) (are_possible e) (spread_possible i e how none) (own e refl)
array_possible None e how m none own is = no_some m is
array_possible (Some i) None how m none own is = no_some m is
array_possible (Some i) (Some e) None m none own is = no_some m is

-- ---- fields

-- what is there of a field: its mode is possible, and so is its place in it
abbrev AreSeen : List FieldThere → Type 0
AreSeen [] = Unit {0}
AreSeen (f ∷ fs) = ((m : ModeTree) → f.mode ≡ Some m → are_possible m ≡ true) × AreSeen fs

record FieldMade (name : List ℕ) (m : Option ModeTree) (at : Option (Option PlaceTree)) (fs : Option FieldNodes) (nodes : FieldNodes) : Type 0 where
  mode : ModeTree
  place : Option PlaceTree
  rest : FieldNodes
  of_mode : m ≡ Some mode
  of_place : at ≡ Some place
  of_rest : fs ≡ Some rest
  whole : more_fields name mode place rest ≡ nodes

field_made : (name : List ℕ) (m : Option ModeTree) (at : Option (Option PlaceTree)) (fs : Option FieldNodes) (nodes : FieldNodes) → field_from name m at fs ≡ Some nodes → FieldMade name m at fs nodes
field_made name (Some m) (Some at) (Some fs) nodes is = record { mode = m; place = at; rest = fs; of_mode = refl; of_place = refl; of_rest = refl; whole = same_some (more_fields name m at fs) nodes is }
field_made name None at fs nodes is = no_some nodes is
field_made name (Some m) None fs nodes is = no_some nodes is
field_made name (Some m) (Some at) None nodes is = no_some nodes is

abbrev field_seen : Name → Option ModeTree → Option written.PlaceTree → Option PlaceTree → FieldThere
field_seen n m w p = record { name = n; mode = m; written = w; place = p }

at_possible : (g : Ground) (all : Bool) (n : Name) (o : Option ModeTree) (w : Option written.PlaceTree) (p : Option PlaceTree) (m : ModeTree) (at : Option PlaceTree) → is_misplaced g all (field_seen n o w p) ≡ false → o ≡ Some m → held_place (field_seen n o w p) ≡ Some at → is_possible_at m at ≡ true
at_possible g all n o None p m at none is held = ap (is_possible_at m) (sym (same_some None at held))
at_possible g all n o (Some x) None m at none is held = no_some at held
at_possible g all n o (Some x) (Some q) m at none is held =
    let later = neither_right (not all) (place_has_no_int g (Some x) || holds_of_both (λ m p. not (is_possible m p)) o (Some q)) none in
    let own = neither_right (place_has_no_int g (Some x)) (holds_of_both (λ m p. not (is_possible m p)) o (Some q)) later in
    ap (is_possible_at m) (sym (same_some (Some q) at held)) ∙ not_true (is_possible m q) (ap (λ y. holds_of_both (λ m p. not (is_possible m p)) y (Some q)) (sym is) ∙ own)

fields_possible : (g : Ground) (all : Bool) (earlier fs : List FieldThere) (nodes : FieldNodes) → told_fields g all earlier fs ≡ [] → AreSeen fs → fields_from fs ≡ Some nodes → fields_are_possible nodes ≡ true
fields_possible g all earlier [] nodes none seen is = ap fields_are_possible (sym (same_some no_fields nodes is))
fields_possible g all earlier (f ∷ fs) nodes none seen is =
    let x = field_made f.name.text f.mode (held_place f) (fields_from fs) nodes is in
    let own = none_first (told_field g all earlier f) (told_fields g all (earlier ++ f ∷ []) fs) none in
    let placed = not_broken (is_misplaced g all f) (tell f.name.at rules.M14 f.name.text) (none_later (told_if (is_twice earlier f) (tell f.name.at rules.M7 f.name.text) ++ told_overlap earlier f) (told_if (is_misplaced g all f) (tell f.name.at rules.M14 f.name.text)) own) in
    ap fields_are_possible (sym x.whole)
    ∙ of_both (is_possible_at x.mode x.place) (are_possible x.mode && fields_are_possible x.rest) (at_possible g all f.name f.mode f.written f.place x.mode x.place placed x.of_mode x.of_place)
    (of_both (are_possible x.mode) (fields_are_possible x.rest) (seen.0 x.mode x.of_mode) (fields_possible g all (earlier ++ f ∷ []) fs x.rest (none_later (told_field g all earlier f) (told_fields g all (earlier ++ f ∷ []) fs) none) seen.1 x.of_rest))

named_seen : (g : Ground) (m : Option ModeTree) (w : Option written.PlaceTree) (ns : List Name) (fs : List FieldThere) → ((x : ModeTree) → m ≡ Some x → are_possible x ≡ true) → AreSeen fs → AreSeen (fields_named g m w ns ++ fs)
named_seen g m w [] fs own seen = seen
named_seen g m w (n ∷ ns) fs own seen = (own, named_seen g m w ns fs own seen)

structure_possible : (g : Ground) (p : Bool) (fs : List FieldThere) (m : ModeTree) → told_fields g (have_places fs) [] fs ≡ [] → AreSeen fs → option_map (λ ns. structure ns p) (fields_from fs) ≡ Some m → are_possible m ≡ true
structure_possible g p fs m none seen is = let there = there_mapped (λ ns. structure ns p) (fields_from fs) m is in ap are_possible (sym there.2) ∙ fields_possible g (have_places fs) [] fs there.0 none seen there.1

-- ---- modes

mutual
  base_possible : (g : Ground) (whole : Bool) (b : written.BaseTree) (m : ModeTree) → ArePossible g (names_in_base b) → mode_of_base g whole b ≡ Some m → are_possible m ≡ true
  base_possible g whole (written.discrete d) m all is = discrete_possible g whole d m all is
  base_possible g whole (written.powerset at d) m all is = powerset_possible (mode_of_discrete g false d) m (unless_there (told_of_powerset g at d) (option_map powerset (mode_of_discrete g false d)) m is)
  base_possible g whole (written.chars at e) m all is = chars_possible (length_of g 0 256 e) m is
  base_possible g whole (written.structure at fs p) m all is =
      let there = fields_there g fs in
      let told = told_at_structure g at p there in
      structure_possible g (is_packed p) there m (none_inside (told_fields g (have_places there) [] there) (told_large (structure_from p there) at) (unless_none told (structure_from p there) m is)) (all_seen g fs all) (unless_there told (structure_from p there) m is)
  base_possible g whole (written.array at i b w) m all is =
      let e = mode_of_base g false b in
      let o = array_from (mode_of_index g i) e (spread_there g w) in
      let told = told_at_array g at (mode_of_index g i) e w in
      let misfit = step_misfits g w || holds_of_three is_impossible_spread (mode_of_index g i) e (spread_there g w) in
      let spread = not_broken misfit (tell at rules.M14 (codes "element")) (none_inside (told_spread g at (mode_of_index g i) e w) (told_large o at) (unless_none told o m is)) in
      array_possible (mode_of_index g i) e (spread_there g w) m (neither_right (step_misfits g w) (holds_of_three is_impossible_spread (mode_of_index g i) e (spread_there g w)) spread)
      (λ x own. base_possible g false b x (possible_later g (names_in_index i) (names_in_base b) (possible_first g (names_in_index i ++ names_in_base b) (names_in_spread w) all)) own) (unless_there told o m is)

  all_seen : (g : Ground) (fs : written.FieldNodes) → ArePossible g (names_in_fields fs) → AreSeen (fields_there g fs)
  all_seen g written.no_fields all = tt
  all_seen g (written.more_fields ns b w fs) all =
      named_seen g (mode_of_base g false b) w ns (fields_there g fs) (λ x own. base_possible g false b x (possible_first g (names_in_base b) (names_in_some_place w) (possible_first g (names_in_base b ++ names_in_some_place w) (names_in_fields fs) all)) own)
      (all_seen g fs (possible_later g (names_in_base b ++ names_in_some_place w) (names_in_fields fs) all))

event_possible : (whole : Bool) (l : Option (Option ℕ)) (m : ModeTree) → if_whole whole (option_map event l) ≡ Some m → are_possible m ≡ true
event_possible true l m is = let there = there_mapped event l m is in ap are_possible (sym there.2)
event_possible false l m is = no_some m is

buffer_possible : (whole : Bool) (l : Option (Option ℕ)) (e : Option ModeTree) (m : ModeTree) → if_whole whole (buffer_from l e) ≡ Some m → are_possible m ≡ true
buffer_possible true (Some l) (Some e) m is = ap are_possible (sym (same_some (buffer l e) m is))
buffer_possible true None e m is = no_some m is
buffer_possible true (Some l) None m is = no_some m is
buffer_possible false l e m is = no_some m is

read_possible : (x : Option ModeTree) (m : ModeTree) → ((k : ModeTree) → x ≡ Some k → are_possible k ≡ true) → option_map read x ≡ Some m → are_possible m ≡ true
read_possible x m own is = let there = there_mapped read x m is in ap are_possible (sym there.2) ∙ own there.0 there.1

pub mode_possible : (g : Ground) (whole : Bool) (w : written.ModeTree) (m : ModeTree) → ArePossible g (names_in_mode w) → mode_of g whole w ≡ Some m → are_possible m ≡ true
mode_possible g whole (written.base_mode b) m all is = base_possible g whole b m all is
mode_possible g whole (written.read_mode at b) m all is = read_possible (mode_of_base g false b) m (λ k own. base_possible g false b k all own) is
mode_possible g whole (written.event_mode at l) m all is = event_possible whole (some_length_of g 1 1000 l) m is
mode_possible g whole (written.buffer_mode at l b) m all is = buffer_possible whole (some_length_of g 0 1000 l) (mode_of_base g false b) m is

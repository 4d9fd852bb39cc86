-- The mode that a text writes: none where something in it is broken, or where something that it uses isn't known; and what
-- is told of it: M2 to M8, M13, M14 and L5, with M1, M10 and M11 of its expressions.
use Rattle.std.specs.Prelude.{ℕ, Bool, true, false, ◌&&◌, ◌||◌, not, nat_lt, nat_le, if◌then◌else◌, List, [], ◌∷◌, ◌++◌, map, flat_map, length, Option, Some, None, is_some, option_map, option_and_then, ℤ, pos, negsuc, ◌+ℤ◌, ◌-ℤ◌, int_le}
use Rattle.std.specs.List.{list_any}
use Rattle.std.specs.Str.{bytes_eq}
use Rattle.chill_base.specs.declared.pos.Pos.{Pos}
use Rattle.chill_tree.specs.declared.tree.name.Name.{Name}
use Rattle.chill_tree.specs.declared.tree.mode.Packing.{Packing}
use Rattle.chill_tree.specs.declared.tree.mode.Packing.TheVariants as packings
use Rattle.chill_tree.specs.declared.tree.mode.PlaceForm.{PlaceForm}
use Rattle.chill_tree.specs.declared.tree.mode.PlaceForm.TheVariants as forms
use Rattle.chill_tree.specs.ExprTree.{ExprTree, place_of}
use Rattle.chill_tree.specs.ModeTree as written
use Rattle.modes.specs.declared.mode.Bounds.{Bounds}
use Rattle.modes.specs.ModeTree.{ModeTree, int, set_of, range, powerset, chars, array, structure, event, buffer, read, FieldNodes, no_fields, more_fields, PlaceTree, SpreadTree, words, packed, step}
use Rattle.modes.specs.Form.{form_of}
use Rattle.modes.specs.Bounds.{bounds_of, values_of, natural_of}
use Rattle.modes.specs.Language.{is_from_to}
use Rattle.modes.specs.Scalars.{leaves_of}
use Rattle.layout_map.specs.Place.{is_possible, is_possible_step, shares}
use Rattle.diagnostics.specs.declared.diagnostic.Diagnostic.{Diagnostic}
use Rattle.diagnostics.specs.declared.rule.Rule.TheVariants as rules
use Rattle.std.specs.Prelude.{codes}
use Rattle.names_model.specs.NameRules.{tell}
use Rattle.checks_model.specs.Alike.{goes_with, is_discrete, is_meeting, of_form}
use Rattle.checks_model.specs.ValueTrees.{ValueTree, number}
use Rattle.checks_model.specs.Ground.{Ground, number_at, mode_of_name}
use Rattle.checks_model.specs.Classes.{class_of}
use Rattle.checks_model.specs.Constants.{constant_of}
use Rattle.checks_model.specs.ConstantRules.{told_needed, is_outside}
use Rattle.checks_model.specs.Told.{tell_at, told_if, is_none_told, then_told, holds_of, holds_of_both}

-- ---- numbers in modes

-- what is there only where nothing is told
abbrev pub unless_told : {A : Type 0} → List Diagnostic → Option A → Option A
unless_told told x = if is_none_told told then x else None

abbrev pub number_in : ValueTree → Option ℤ
number_in (number n) = Some n
number_in _ = None

-- the number that a needed constant is, where nothing is told in it
abbrev pub needed_number : Ground → ExprTree → Option ℤ
needed_number g e = unless_told (told_needed g e) (option_and_then number_in (constant_of g e))

-- nothing is told in it, and its class, which is there, doesn't go with INT
abbrev pub is_no_int : Ground → ExprTree → Bool
is_no_int g e = is_none_told (told_needed g e) && holds_of (λ c. not (goes_with c int)) (class_of g e)

abbrev pub from_to : ℕ → ℕ → Option Bounds
from_to low high = Some (record { low = pos low; high = pos high })

-- ---- M6: a length isn't within its limits

abbrev pub told_length : Ground → ℕ → ℕ → ExprTree → List Diagnostic
told_length g low high e =
    then_told (told_needed g e)
    (told_if (holds_of (λ c. not (goes_with c int)) (class_of g e) || holds_of (is_outside (from_to low high)) (constant_of g e)) (tell_at rules.M6 (place_of e)))

abbrev pub told_some_length : Ground → ℕ → ℕ → Option ExprTree → List Diagnostic
told_some_length g low high None = []
told_some_length g low high (Some e) = told_length g low high e

-- a length: none where something is told of it
abbrev pub length_of : Ground → ℕ → ℕ → ExprTree → Option ℕ
length_of g low high e = unless_told (told_length g low high e) (option_map natural_of (needed_number g e))

-- a length that may be written: it is known, too, where none is
abbrev pub some_length_of : Ground → ℕ → ℕ → Option ExprTree → Option (Option ℕ)
some_length_of g low high None = Some None
some_length_of g low high (Some e) = option_map Some (length_of g low high e)

-- ---- M3: a bound doesn't go with its parent mode or lies outside it. M2: a lower bound is above its upper

abbrev pub bound_misfits : Ground → ExprTree → ModeTree → Bool
bound_misfits g e p =
    holds_of (λ c. not (goes_with c p)) (class_of g e) || (holds_of (λ c. goes_with c p) (class_of g e) && holds_of (is_outside (bounds_of p)) (constant_of g e))

-- a bound of a part of a mode that may be unknown
abbrev pub told_bound : Ground → Option ModeTree → ExprTree → List Diagnostic
told_bound g p e = then_told (told_needed g e) (told_if (holds_of (bound_misfits g e) p) (tell_at rules.M3 (place_of e)))

abbrev pub is_above : ℤ → ℤ → Bool
is_above l h = not (int_le l h)

abbrev pub told_bounds : Ground → Option ModeTree → ExprTree → ExprTree → List Diagnostic
told_bounds g p l h = told_bound g p l ++ told_bound g p h

abbrev pub told_range : Ground → Option ModeTree → ExprTree → ExprTree → List Diagnostic
told_range g p l h =
    then_told (told_bounds g p l h) (told_if (is_some p && holds_of_both is_above (needed_number g l) (needed_number g h)) (tell_at rules.M2 (place_of l)))

abbrev pub range_from : Option ModeTree → Option ℤ → Option ℤ → Option ModeTree
range_from (Some p) (Some l) (Some h) = Some (range p l h)
range_from _ _ _ = None

abbrev pub range_of : Ground → Option ModeTree → ExprTree → ExprTree → Option ModeTree
range_of g p l h = unless_told (told_range g p l h) (range_from p (needed_number g l) (needed_number g h))

-- ---- M8: an event or buffer mode stands elsewhere than in DCL, SYNMODE or NEWMODE as the whole mode. M4: a mode isn't discrete

abbrev pub is_meeting_name : Ground → Name → Bool
is_meeting_name g n = of_form is_meeting (mode_of_name g n)

-- `whole` says that the mode is the whole one of a DCL, SYNMODE or NEWMODE
abbrev pub told_name : Ground → Bool → Name → List Diagnostic
told_name g whole n = told_if (not whole && is_meeting_name g n) (tell_at rules.M8 n.at)

abbrev pub named_mode_in : Ground → Bool → Name → Option ModeTree
named_mode_in g whole n = unless_told (told_name g whole n) (mode_of_name g n)

-- M4 of a mode that is known
abbrev pub told_not_discrete : Option ModeTree → Pos → List Diagnostic
told_not_discrete m at = told_if (holds_of (λ m. not (is_discrete (form_of m))) m) (tell_at rules.M4 at)

-- M8 and M4 of the name of a parent or an index mode
abbrev pub told_discrete_name : Ground → Name → List Diagnostic
told_discrete_name g n = then_told (told_name g false n) (told_not_discrete (mode_of_name g n) n.at)

-- the mode of that name, where it is discrete
abbrev pub discrete_name : Ground → Name → Option ModeTree
discrete_name g n = unless_told (told_discrete_name g n) (mode_of_name g n)

-- ---- what is written where a discrete mode may stand

abbrev pub told_of_discrete : Ground → Bool → written.DiscreteTree → List Diagnostic
told_of_discrete g whole (written.named n) = told_name g whole n
told_of_discrete g whole (written.bounded n l h) = told_discrete_name g n ++ told_range g (discrete_name g n) l h
told_of_discrete g whole (written.set_of at ns) = []

abbrev pub set_named : Ground → List Name → Option ModeTree
set_named g [] = None
set_named g (n ∷ ns) = option_map (λ first. set_of first (length (n ∷ ns))) (number_at g.defined n.at)

abbrev pub mode_of_discrete : Ground → Bool → written.DiscreteTree → Option ModeTree
mode_of_discrete g whole (written.named n) = named_mode_in g whole n
mode_of_discrete g whole (written.bounded n l h) = range_of g (discrete_name g n) l h
mode_of_discrete g whole (written.set_of at ns) = set_named g ns

abbrev pub first_place_of : written.DiscreteTree → Pos
first_place_of (written.named n) = n.at
first_place_of (written.bounded n l h) = n.at
first_place_of (written.set_of at ns) = at

-- ---- powersets: M4 of the member mode, and M5: there are more than 32 members

abbrev pub is_large_powerset : ModeTree → Bool
is_large_powerset m = is_discrete (form_of m) && nat_lt 32 (values_of m)

abbrev pub told_of_powerset : Ground → Pos → written.DiscreteTree → List Diagnostic
told_of_powerset g at d =
    told_of_discrete g false d
    ++ (told_not_discrete (mode_of_discrete g false d) (first_place_of d)
    ++ told_if (holds_of is_large_powerset (mode_of_discrete g false d)) (tell_at rules.M5 at))

-- ---- indices of arrays

abbrev pub has_index_values : ModeTree → Bool
has_index_values m = is_from_to 1 4096 (values_of m)

-- M6 at the name, or at the lower bound where it isn't above the upper
abbrev pub told_of_index : Ground → written.IndexTree → List Diagnostic
told_of_index g (written.index_named n) =
    then_told (told_discrete_name g n) (told_if (holds_of (λ m. not (has_index_values m)) (mode_of_name g n)) (tell_at rules.M6 n.at))
told_of_index g (written.index_bounded l h) =
    then_told (told_range g (Some int) l h) (told_if (holds_of (λ m. not (has_index_values m)) (range_of g (Some int) l h)) (tell_at rules.M6 (place_of l)))

abbrev pub mode_of_index : Ground → written.IndexTree → Option ModeTree
mode_of_index g (written.index_named n) = unless_told (told_of_index g (written.index_named n)) (mode_of_name g n)
mode_of_index g (written.index_bounded l h) = unless_told (told_of_index g (written.index_bounded l h)) (range_of g (Some int) l h)

-- ---- places

-- a number as it is held: one below 0 or above 4,294,967,295 as that
abbrev pub held : ℤ → ℕ
held (pos n) = if nat_le n 4294967295 then n else 4294967295
held (negsuc n) = 4294967295

-- the last bit: as it is written, or so many bits from the first on
abbrev pub last_bit : PlaceForm → ℤ → ℤ → ℤ
last_bit forms.End start bound = bound
last_bit forms.Length start bound = start +ℤ bound -ℤ pos 1

abbrev pub place_from : PlaceForm → Option ℤ → Option ℤ → Option ℤ → Option PlaceTree
place_from form (Some w) (Some s) (Some b) = Some (record { word = held w; start = held s; end = held (last_bit form s b) })
place_from form _ _ _ = None

abbrev pub numbers_of_place : written.PlaceTree → List ExprTree
numbers_of_place p = p.word ∷ p.start ∷ p.bound ∷ []

-- some of the numbers is there and isn't of INT
abbrev pub has_no_int : Ground → List ExprTree → Bool
has_no_int g es = list_any (is_no_int g) es

-- a place: none where one of its numbers isn't there or isn't of INT
abbrev pub place_there : Ground → written.PlaceTree → Option PlaceTree
place_there g p = if has_no_int g (numbers_of_place p) then None else place_from p.form (needed_number g p.word) (needed_number g p.start) (needed_number g p.bound)

abbrev pub told_in_place : Ground → written.PlaceTree → List Diagnostic
told_in_place g p = flat_map (told_needed g) (numbers_of_place p)

-- ---- M14 of an array: its elements have an impossible place

abbrev pub numbers_of_step : written.StepTree → List ExprTree
numbers_of_step s = numbers_of_place s.place ++ s.distance ∷ []

abbrev pub step_from : Option PlaceTree → Option ℤ → Option SpreadTree
step_from (Some p) (Some d) = Some (step p (held d))
step_from _ _ = None

abbrev pub is_impossible_spread : ModeTree → ModeTree → SpreadTree → Bool
is_impossible_spread i e (step p d) = not (is_possible_step (values_of i) e p d)
is_impossible_spread i e words = false
is_impossible_spread i e packed = false

-- how elements lie: none where a number isn't there or isn't of INT
abbrev pub spread_there : Ground → Option written.SpreadTree → Option SpreadTree
spread_there g None = Some words
spread_there g (Some (written.by_packing packings.NoPack)) = Some words
spread_there g (Some (written.by_packing packings.Pack)) = Some packed
spread_there g (Some (written.by_step s)) = if has_no_int g (numbers_of_step s) then None else step_from (place_there g s.place) (needed_number g s.distance)

abbrev pub step_misfits : Ground → Option written.SpreadTree → Bool
step_misfits g (Some (written.by_step s)) = has_no_int g (numbers_of_step s)
step_misfits g _ = false

abbrev pub holds_of_three : {A B C : Type 0} → (A → B → C → Bool) → Option A → Option B → Option C → Bool
holds_of_three test (Some x) (Some y) (Some z) = test x y z
holds_of_three test _ _ _ = false

abbrev pub told_spread : Ground → Pos → Option ModeTree → Option ModeTree → Option written.SpreadTree → List Diagnostic
told_spread g at i e s = told_if (step_misfits g s || holds_of_three is_impossible_spread i e (spread_there g s)) (tell at rules.M14 (codes "element"))

abbrev pub told_in_spread : Ground → Option written.SpreadTree → List Diagnostic
told_in_spread g (Some (written.by_step s)) = flat_map (told_needed g) (numbers_of_step s)
told_in_spread g _ = []

-- ---- L5: a mode has more than 4,096 scalars; a text of no characters counts one

abbrev pub is_large : ModeTree → Bool
is_large m = nat_lt 4096 (leaves_of m)

abbrev pub told_large : Option ModeTree → Pos → List Diagnostic
told_large m at = told_if (holds_of is_large m) (tell_at rules.L5 at)

abbrev pub array_from : Option ModeTree → Option ModeTree → Option SpreadTree → Option ModeTree
array_from (Some i) (Some e) (Some how) = Some (array i e how)
array_from _ _ _ = None

-- what is told at an array itself
abbrev pub told_at_array : Ground → Pos → Option ModeTree → Option ModeTree → Option written.SpreadTree → List Diagnostic
told_at_array g at i e s = then_told (told_spread g at i e s) (told_large (array_from i e (spread_there g s)) at)

-- ---- fields

-- a field of a structure by its name, with its mode and place as far as they are known
pub record FieldThere : Type 0 where
  pub name : Name
  pub mode : Option ModeTree
  pub written : Option written.PlaceTree
  pub place : Option PlaceTree

abbrev pub has_place : FieldThere → Bool
has_place f = is_some f.written

abbrev pub have_places : List FieldThere → Bool
have_places [] = true
have_places (f ∷ fs) = has_place f && have_places fs

-- M7: an earlier field has the name
abbrev pub is_twice : List FieldThere → FieldThere → Bool
is_twice earlier f = list_any (λ e. bytes_eq e.name.text f.name.text) earlier

abbrev pub place_has_no_int : Ground → Option written.PlaceTree → Bool
place_has_no_int g None = false
place_has_no_int g (Some p) = has_no_int g (numbers_of_place p)

-- M14: it has a place, and another field has none, or a number of the place isn't of INT, or the place is impossible
abbrev pub is_misplaced : Ground → Bool → FieldThere → Bool
is_misplaced g all_placed f =
    has_place f && (not all_placed || (place_has_no_int g f.written || holds_of_both (λ m p. not (is_possible m p)) f.mode f.place))

abbrev pub shares_with : FieldThere → FieldThere → Bool
shares_with f e = holds_of_both shares e.place f.place

-- M13: it shares a bit with earlier fields, of which the first is told
abbrev pub told_overlap : List FieldThere → FieldThere → List Diagnostic
told_overlap [] f = []
told_overlap (e ∷ es) f =
    if shares_with f e then record { at = f.name.at; rule = rules.M13; first = e.name.text; second = f.name.text } ∷ [] else told_overlap es f

abbrev pub told_field : Ground → Bool → List FieldThere → FieldThere → List Diagnostic
told_field g all_placed earlier f =
    told_if (is_twice earlier f) (tell f.name.at rules.M7 f.name.text)
    ++ told_overlap earlier f
    ++ told_if (is_misplaced g all_placed f) (tell f.name.at rules.M14 f.name.text)

abbrev pub told_fields : Ground → Bool → List FieldThere → List FieldThere → List Diagnostic
told_fields g all_placed earlier [] = []
told_fields g all_placed earlier (f ∷ fs) = told_field g all_placed earlier f ++ told_fields g all_placed (earlier ++ f ∷ []) fs

-- the place that a field is held with: it is known, too, where none is written
abbrev pub held_place : FieldThere → Option (Option PlaceTree)
held_place f = by_written f.written f.place
  where
    by_written : Option written.PlaceTree → Option PlaceTree → Option (Option PlaceTree)
    by_written None p = Some None
    by_written (Some w) p = option_map Some p

abbrev pub field_from : List ℕ → Option ModeTree → Option (Option PlaceTree) → Option FieldNodes → Option FieldNodes
field_from name (Some m) (Some at) (Some fs) = Some (more_fields name m at fs)
field_from name _ _ _ = None

abbrev pub fields_from : List FieldThere → Option FieldNodes
fields_from [] = Some no_fields
fields_from (f ∷ fs) = field_from f.name.text f.mode (held_place f) (fields_from fs)

abbrev pub is_packed : Option Packing → Bool
is_packed (Some packings.Pack) = true
is_packed _ = false

abbrev pub structure_from : Option Packing → List FieldThere → Option ModeTree
structure_from p fs = option_map (λ fs. structure fs (is_packed p)) (fields_from fs)

-- what is told at a structure itself: L5 where none of the rules on its fields is
abbrev pub told_at_structure : Ground → Pos → Option Packing → List FieldThere → List Diagnostic
told_at_structure g at p fs = then_told (told_fields g (have_places fs) [] fs) (told_large (structure_from p fs) at)

-- the names of one clause share its mode and its place
abbrev pub fields_named : Ground → Option ModeTree → Option written.PlaceTree → List Name → List FieldThere
fields_named g m p ns = map (λ n. record { name = n; mode = m; written = p; place = option_and_then (place_there g) p }) ns

abbrev pub told_in_some_place : Ground → Option written.PlaceTree → List Diagnostic
told_in_some_place g None = []
told_in_some_place g (Some p) = told_in_place g p

-- ---- modes of values

abbrev mutual
  pub mode_of_base : Ground → Bool → written.BaseTree → Option ModeTree
  mode_of_base g whole (written.discrete d) = mode_of_discrete g whole d
  mode_of_base g whole (written.powerset at d) = unless_told (told_of_powerset g at d) (option_map powerset (mode_of_discrete g false d))
  mode_of_base g whole (written.chars at e) = option_map chars (length_of g 0 256 e)
  mode_of_base g whole (written.structure at fs p) = unless_told (told_at_structure g at p (fields_there g fs)) (structure_from p (fields_there g fs))
  mode_of_base g whole (written.array at i b s) =
      unless_told (told_at_array g at (mode_of_index g i) (mode_of_base g false b) s) (array_from (mode_of_index g i) (mode_of_base g false b) (spread_there g s))

  pub fields_there : Ground → written.FieldNodes → List FieldThere
  fields_there g written.no_fields = []
  fields_there g (written.more_fields ns b p fs) = fields_named g (mode_of_base g false b) p ns ++ fields_there g fs

abbrev mutual
  pub told_of_base : Ground → Bool → written.BaseTree → List Diagnostic
  told_of_base g whole (written.discrete d) = told_of_discrete g whole d
  told_of_base g whole (written.powerset at d) = told_of_powerset g at d
  told_of_base g whole (written.chars at e) = told_length g 0 256 e
  told_of_base g whole (written.structure at fs p) = told_in_fields g fs ++ told_at_structure g at p (fields_there g fs)
  told_of_base g whole (written.array at i b s) =
      (told_of_index g i ++ told_of_base g false b ++ told_in_spread g s) ++ told_at_array g at (mode_of_index g i) (mode_of_base g false b) s

  -- in the modes and the places of fields
  pub told_in_fields : Ground → written.FieldNodes → List Diagnostic
  told_in_fields g written.no_fields = []
  told_in_fields g (written.more_fields ns b p fs) = (told_of_base g false b ++ told_in_some_place g p) ++ told_in_fields g fs

-- ---- modes

abbrev pub buffer_from : Option (Option ℕ) → Option ModeTree → Option ModeTree
buffer_from (Some l) (Some e) = Some (buffer l e)
buffer_from _ _ = None

abbrev pub if_whole : Bool → Option ModeTree → Option ModeTree
if_whole whole m = if whole then m else None

-- the mode that is written, as the whole one of a DCL, SYNMODE or NEWMODE or elsewhere
abbrev pub mode_of : Ground → Bool → written.ModeTree → Option ModeTree
mode_of g whole (written.base_mode b) = mode_of_base g whole b
mode_of g whole (written.read_mode at b) = option_map read (mode_of_base g false b)
mode_of g whole (written.event_mode at l) = if_whole whole (option_map event (some_length_of g 1 1000 l))
mode_of g whole (written.buffer_mode at l b) = if_whole whole (buffer_from (some_length_of g 0 1000 l) (mode_of_base g false b))

abbrev pub told_unless_whole : Bool → Pos → List Diagnostic
told_unless_whole whole at = told_if (not whole) (tell_at rules.M8 at)

abbrev pub told_of_mode : Ground → Bool → written.ModeTree → List Diagnostic
told_of_mode g whole (written.base_mode b) = told_of_base g whole b
told_of_mode g whole (written.read_mode at b) = told_of_base g false b
told_of_mode g whole (written.event_mode at l) = told_unless_whole whole at ++ told_some_length g 1 1000 l
told_of_mode g whole (written.buffer_mode at l b) = told_unless_whole whole at ++ told_some_length g 0 1000 l ++ told_of_base g false b

abbrev pub told_of_some_mode : Ground → Option written.ModeTree → List Diagnostic
told_of_some_mode g None = []
told_of_some_mode g (Some m) = told_of_mode g false m

abbrev pub some_mode_of : Ground → Option written.ModeTree → Option ModeTree
some_mode_of g None = None
some_mode_of g (Some m) = mode_of g false m

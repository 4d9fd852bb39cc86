-- The names by which an expression, a mode and a definition are looked up: all that are used in them. A field's name and the
-- elements of a SET are none of these.
use Rattle.std.specs.Prelude.{List, [], ◌∷◌, ◌++◌, flat_map, Option, Some, None}
use Rattle.chill_tree.specs.declared.tree.name.Name.{Name}
use Rattle.chill_tree.specs.ExprTree.{ExprTree, ExprNodes, RangeTree, RangeNodes, whole, character, text, this_instance, paren, receive, start, tuple, uniform, name, apply, field, prefixed, binary, no_exprs, more_exprs, alone, between, no_ranges, more_ranges}
use Rattle.chill_tree.specs.ModeTree as written
use Rattle.chill_tree.specs.SimpleTree.{ControlTree, while_holds, for_ever, for_members, for_steps}
use Rattle.checks_model.specs.Ground.{Origin, a_synonym, a_mode, an_element, a_location, a_parameter, a_counter, a_received, a_procedure, a_process, a_signal, a_modulion, a_predefined}

abbrev pub some_name : Option Name → List Name
some_name None = []
some_name (Some n) = n ∷ []

abbrev mutual
  pub names_in : ExprTree → List Name
  names_in (whole at n) = []
  names_in (character at n) = []
  names_in (text at n) = []
  names_in (this_instance at) = []
  names_in (paren at e) = names_in e
  names_in (receive at n) = n ∷ []
  names_in (start at n es) = n ∷ names_in_each es
  names_in (tuple at m b rs) = some_name m ++ names_in_ranges rs
  names_in (uniform at m b e) = some_name m ++ names_in e
  names_in (name n) = n ∷ []
  names_in (apply at e es) = names_in e ++ names_in_each es
  names_in (field at e n) = names_in e
  names_in (prefixed at o e) = names_in e
  names_in (binary at l o p r) = names_in l ++ names_in r

  pub names_in_each : ExprNodes → List Name
  names_in_each no_exprs = []
  names_in_each (more_exprs e es) = names_in e ++ names_in_each es

  pub names_in_range : RangeTree → List Name
  names_in_range (alone e) = names_in e
  names_in_range (between l h) = names_in l ++ names_in h

  pub names_in_ranges : RangeNodes → List Name
  names_in_ranges no_ranges = []
  names_in_ranges (more_ranges r rs) = names_in_range r ++ names_in_ranges rs

abbrev pub names_in_some : Option ExprTree → List Name
names_in_some None = []
names_in_some (Some e) = names_in e

-- ---- modes

abbrev pub names_in_discrete : written.DiscreteTree → List Name
names_in_discrete (written.named n) = n ∷ []
names_in_discrete (written.bounded n l h) = n ∷ names_in l ++ names_in h
names_in_discrete (written.set_of at ns) = []

abbrev pub names_in_index : written.IndexTree → List Name
names_in_index (written.index_named n) = n ∷ []
names_in_index (written.index_bounded l h) = names_in l ++ names_in h

abbrev pub names_in_place : written.PlaceTree → List Name
names_in_place p = names_in p.word ++ names_in p.start ++ names_in p.bound

abbrev pub names_in_some_place : Option written.PlaceTree → List Name
names_in_some_place None = []
names_in_some_place (Some p) = names_in_place p

abbrev pub names_in_spread : Option written.SpreadTree → List Name
names_in_spread None = []
names_in_spread (Some (written.by_packing p)) = []
names_in_spread (Some (written.by_step s)) = names_in_place s.place ++ names_in s.distance

abbrev mutual
  pub names_in_base : written.BaseTree → List Name
  names_in_base (written.discrete d) = names_in_discrete d
  names_in_base (written.powerset at d) = names_in_discrete d
  names_in_base (written.chars at e) = names_in e
  names_in_base (written.structure at fs p) = names_in_fields fs
  names_in_base (written.array at i b s) = names_in_index i ++ names_in_base b ++ names_in_spread s

  pub names_in_fields : written.FieldNodes → List Name
  names_in_fields written.no_fields = []
  names_in_fields (written.more_fields ns b p fs) = names_in_base b ++ names_in_some_place p ++ names_in_fields fs

abbrev pub names_in_mode : written.ModeTree → List Name
names_in_mode (written.base_mode b) = names_in_base b
names_in_mode (written.read_mode at b) = names_in_base b
names_in_mode (written.event_mode at l) = names_in_some l
names_in_mode (written.buffer_mode at l b) = names_in_some l ++ names_in_base b

abbrev pub names_in_some_mode : Option written.ModeTree → List Name
names_in_some_mode None = []
names_in_some_mode (Some m) = names_in_mode m

abbrev pub names_in_modes : Option (List written.ModeTree) → List Name
names_in_modes None = []
names_in_modes (Some ms) = flat_map names_in_mode ms

-- ---- definitions

-- the names that what is known of a definition depends on; a counter is known in the phase of statements alone
abbrev pub names_needed : Origin → List Name
names_needed (a_synonym s) = names_in_some_mode s.mode ++ names_in s.value
names_needed (a_mode novel m) = names_in_mode m
names_needed (an_element names part owner) = []
names_needed (a_location d) = names_in_mode d.mode
names_needed (a_parameter m) = names_in_mode m
names_needed (a_counter c) = []
names_needed (a_received n count part) = n ∷ []
names_needed (a_procedure p) = names_in_some_mode p.returns
names_needed (a_process p) = []
names_needed (a_signal s) = names_in_modes s.parts
names_needed (a_modulion kind items) = []
names_needed (a_predefined p) = []

-- the names that the mode of a loop's counter depends on: those of its bounds, or of the set that it goes through
abbrev pub names_bounding : ControlTree → List Name
names_bounding (while_holds at c) = []
names_bounding (for_ever at) = []
names_bounding (for_members at n s c) = names_in s
names_bounding (for_steps at n s b down e c) = names_in s ++ names_in e

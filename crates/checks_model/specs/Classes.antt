-- The class of an expression: a recursion on its tree, by the table of operators and routines. None is where the language
-- gives none, or where something that is used isn't known. It asks of no rule: a rule asks for a class only where nothing is
-- told in the expression.
use Rattle.std.specs.Prelude.{ℕ, zero, suc, Bool, true, false, ◌&&◌, ◌==◌, not, if◌then◌else◌, length, Option, Some, None, is_some, option_map, option_and_then}
use Rattle.chill_tree.specs.declared.tree.name.Name.{Name}
use Rattle.chill_tree.specs.ExprTree.{ExprTree, ExprNodes, RangeNodes, whole, character, text, this_instance, paren, receive, start, tuple, uniform, name, apply, field, prefixed, binary, no_exprs, more_exprs, alone, between, no_ranges, more_ranges}
use Rattle.modes.specs.ModeTree.{ModeTree, ClassTree, value, derived, null, nothing, int, boolean, char, chars, instance, FieldNodes, no_fields, more_fields}
use Rattle.modes.specs.Form.{FormTree, form_of, of_powerset, of_array, of_structure}
use Rattle.modes.specs.Bounds.{values_of}
use Rattle.checks_model.specs.Ground.{Ground, Origin, Entry, Predefined, of_mode, truth, no_instance, get_int, a_synonym, a_mode, an_element, a_location, a_parameter, a_counter, a_received, a_procedure, a_predefined, origin_of, entry_of, mode_of_entry, class_of_entry, mode_of_name, buffer_element}
use Rattle.checks_model.specs.Told.{holds_of}
use Rattle.checks_model.specs.Operations.{class_of_binary, class_of_unary, class_of_routine, class_of_measure, part_of_class, field_of_form, element_of_form, is_measuring, is_routine, when}

-- ---- tuples

abbrev pub count_ranges : RangeNodes → ℕ
count_ranges no_ranges = 0
count_ranges (more_ranges r rs) = suc (count_ranges rs)

-- no part is a range
abbrev pub are_alone : RangeNodes → Bool
are_alone no_ranges = true
are_alone (more_ranges (alone e) rs) = are_alone rs
are_alone (more_ranges (between l h) rs) = false

abbrev pub count_fields : FieldNodes → ℕ
count_fields no_fields = 0
count_fields (more_fields n m at fs) = suc (count_fields fs)

-- so many parts, none of which is a range
abbrev pub has_parts : ℕ → RangeNodes → Bool
has_parts count rs = are_alone rs && (count_ranges rs == count)

-- the form of a tuple is that of its mode
abbrev pub shape_fits : RangeNodes → FormTree → Bool
shape_fits rs (of_powerset m) = true
shape_fits rs (of_array i e how) = has_parts (values_of i) rs
shape_fits rs (of_structure fs p) = has_parts (count_fields fs) rs
shape_fits rs _ = false

abbrev pub uniform_fits : FormTree → Bool
uniform_fits (of_array i e how) = true
uniform_fits _ = false

abbrev pub value_if : (FormTree → Bool) → ModeTree → Option ClassTree
value_if fits m = when (fits (form_of m)) (value m)

-- the mode of a tuple: that of its name, else that of what receives it
abbrev pub tuple_mode : Ground → Option Name → Option ModeTree → Option ModeTree
tuple_mode g (Some n) receiving = mode_of_name g n
tuple_mode g None receiving = receiving

-- ---- what receives the parts of a tuple

abbrev pub field_mode_at : ℕ → FieldNodes → Option ModeTree
field_mode_at k no_fields = None
field_mode_at zero (more_fields n m at fs) = Some m
field_mode_at (suc k) (more_fields n m at fs) = field_mode_at k fs

abbrev pub part_mode : ℕ → FormTree → Option ModeTree
part_mode k (of_powerset m) = Some m
part_mode k (of_array i e how) = Some e
part_mode k (of_structure fs p) = field_mode_at k fs
part_mode k _ = None

-- the mode of part k of a tuple of a mode: none where the tuple hasn't the form of its mode
abbrev pub mode_of_part : (FormTree → Bool) → ℕ → Option ModeTree → Option ModeTree
mode_of_part fits k m = option_and_then (λ m. if fits (form_of m) then part_mode k (form_of m) else None) m

-- ---- names

-- a name that is called stands for no value
abbrev pub class_of_origin : Option Entry → Option Origin → Option ClassTree
class_of_origin e (Some (a_synonym s)) = class_of_entry e
class_of_origin e (Some (an_element names part owner)) = class_of_entry e
class_of_origin e (Some (a_location d)) = option_map value (mode_of_entry e)
class_of_origin e (Some (a_parameter m)) = option_map value (mode_of_entry e)
class_of_origin e (Some (a_counter c)) = option_map value (mode_of_entry e)
class_of_origin e (Some (a_received n count part)) = option_map value (mode_of_entry e)
class_of_origin e (Some (a_procedure p)) = Some nothing
class_of_origin e (Some (a_predefined (truth b))) = Some (derived boolean)
class_of_origin e (Some (a_predefined no_instance)) = Some null
class_of_origin e (Some (a_predefined p)) = when (is_routine p) nothing
class_of_origin e _ = None

abbrev pub class_of_name : Ground → Name → Option ClassTree
class_of_name g n = class_of_origin (entry_of g n) (origin_of g n)

-- ---- what brackets do

pub data Callee : Type 0 where
  calls : Name → Callee
  routine : Predefined → Callee
  -- the brackets hold an index
  no_callee : Callee

abbrev pub callee_by : Name → Option Origin → Callee
callee_by n (Some (a_procedure p)) = calls n
callee_by n (Some (a_predefined p)) = if is_routine p then routine p else no_callee
callee_by n _ = no_callee

abbrev pub callee_named : Ground → Name → Callee
callee_named g n = callee_by n (origin_of g n)

abbrev pub callee_of : Ground → ExprTree → Callee
callee_of g (name n) = callee_named g n
callee_of g _ = no_callee

-- ---- UPPER, LOWER and SIZE

-- what the whole argument is: a mode, or a location or parameter with its parts, of a mode that may be unknown; a part that
-- doesn't fit; or neither
pub data Measured : Type 0 where
  a_mode_of : Option ModeTree → Measured
  misfit : Measured
  other : Measured

abbrev pub measured_part_of : (FormTree → Option ModeTree) → Option ModeTree → Measured
measured_part_of part None = a_mode_of None
measured_part_of part (Some m) = found (part (form_of m))
  where
    found : Option ModeTree → Measured
    found None = misfit
    found (Some p) = a_mode_of (Some p)

abbrev pub measured_part : (FormTree → Option ModeTree) → Measured → Measured
measured_part part (a_mode_of m) = measured_part_of part m
measured_part part misfit = misfit
measured_part part other = other

abbrev pub located_name : Option Entry → Option Origin → Measured
located_name e (Some (a_location d)) = a_mode_of (mode_of_entry e)
located_name e (Some (a_parameter m)) = a_mode_of (mode_of_entry e)
located_name e _ = other

-- a location or parameter with its parts
abbrev pub located : Ground → ExprTree → Measured
located g (name n) = located_name (entry_of g n) (origin_of g n)
located g (apply at e es) = measured_part element_of_form (located g e)
located g (field at e n) = measured_part (field_of_form n.text) (located g e)
located g _ = other

-- a name, by its mode where it is that of a mode
abbrev pub measured_name : Option ModeTree → Option Entry → Option Origin → Measured
measured_name own e (Some (a_mode novel m)) = a_mode_of own
measured_name own e (Some (a_predefined (of_mode m))) = a_mode_of (Some m)
measured_name own e o = located_name e o

abbrev pub measured : Ground → ExprTree → Measured
measured g (name n) = measured_name (mode_of_name g n) (entry_of g n) (origin_of g n)
measured g e = located g e

abbrev pub class_of_measured : Predefined → Measured → Option ClassTree
class_of_measured p (a_mode_of m) = option_and_then (class_of_measure p) m
class_of_measured p misfit = None
class_of_measured p other = None

-- ---- expressions

abbrev pub first_of : ExprNodes → Option ExprTree
first_of no_exprs = None
first_of (more_exprs e es) = Some e

abbrev pub measured_first : Ground → ExprNodes → Measured
measured_first g no_exprs = other
measured_first g (more_exprs e es) = measured g e

abbrev pub both_classes : (ClassTree → ClassTree → Option ClassTree) → Option ClassTree → Option ClassTree → Option ClassTree
both_classes op (Some l) (Some r) = op l r
both_classes op _ _ = None

-- GET_INT gives INT; the others by their one argument
abbrev pub class_of_call : Predefined → Measured → Option ClassTree → Option ClassTree
class_of_call get_int m arg = Some (value int)
class_of_call p m arg = if is_measuring p then class_of_measured p m else option_and_then (class_of_routine p) arg

-- what a call of the procedure of that name gives
abbrev pub result_class : Ground → ExprTree → Option ClassTree
result_class g (name n) = option_map value (mode_of_entry (entry_of g n))
result_class g _ = None

-- the class of what stands before brackets with them: of the result of a procedure, of a routine by its only argument, else
-- of a part
abbrev pub class_behind : Callee → Option ClassTree → Option ClassTree → Measured → Option ClassTree → Option ClassTree
class_behind (calls n) result base m arg = result
class_behind (routine p) result base m arg = class_of_call p m arg
class_behind no_callee result base m arg = option_map (part_of_class element_of_form) base

abbrev mutual
  -- the class of an expression that goes to a place of a mode, where that has one
  pub class_as : Ground → Option ModeTree → ExprTree → Option ClassTree
  class_as g receiving (whole at n) = Some (derived int)
  class_as g receiving (character at n) = Some (derived char)
  class_as g receiving (text at bytes) = Some (derived (chars (length bytes)))
  class_as g receiving (this_instance at) = Some (derived instance)
  class_as g receiving (paren at e) = class_as g receiving e
  class_as g receiving (receive at n) = option_map value (buffer_element g n)
  class_as g receiving (start at n es) = Some (derived instance)
  class_as g receiving (tuple at m b rs) = option_and_then (value_if (shape_fits rs)) (tuple_mode g m receiving)
  class_as g receiving (uniform at m b e) = option_and_then (value_if uniform_fits) (tuple_mode g m receiving)
  class_as g receiving (name n) = class_of_name g n
  class_as g receiving (apply at e es) = class_behind (callee_of g e) (result_class g e) (class_as g None e) (measured_first g es) (class_of_first g es)
  class_as g receiving (field at e n) = option_map (part_of_class (field_of_form n.text)) (class_as g None e)
  class_as g receiving (prefixed at o e) = option_and_then (class_of_unary o) (class_as g None e)
  class_as g receiving (binary at l o p r) = both_classes (class_of_binary o) (class_as g None l) (class_as g None r)

  pub class_of_first : Ground → ExprNodes → Option ClassTree
  class_of_first g no_exprs = None
  class_of_first g (more_exprs e es) = class_as g None e

-- the class of an expression that stands by itself
abbrev pub class_of : Ground → ExprTree → Option ClassTree
class_of g e = class_as g None e

abbrev pub count_exprs : ExprNodes → ℕ
count_exprs no_exprs = 0
count_exprs (more_exprs e es) = suc (count_exprs es)

-- the argument of UPPER, LOWER or SIZE is no mode and no location or parameter with its parts, or of a mode that doesn't fit
abbrev pub measured_misfits : Predefined → Measured → Option ClassTree → Bool
measured_misfits p (a_mode_of m) c = holds_of (λ m. not (is_some (class_of_measure p m))) m
measured_misfits p misfit c = true
measured_misfits p other c = is_some c

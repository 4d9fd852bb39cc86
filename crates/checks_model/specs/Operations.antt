-- The table of operators and routines: which operands fit, and the class of the result.
use Rattle.std.specs.Prelude.{ℕ, Bool, true, false, ◌&&◌, ◌||◌, not, if◌then◌else◌, List, Option, Some, None, is_some, option_map, option_and_then}
use Rattle.std.specs.Str.{bytes_eq}
use Rattle.chill_tree.specs.declared.tree.expr.Operator.{Operator}
use Rattle.chill_tree.specs.declared.tree.expr.Operator.TheVariants as ops
use Rattle.chill_tree.specs.declared.tree.expr.Prefix.{Prefix}
use Rattle.chill_tree.specs.declared.tree.expr.Prefix.TheVariants as prefixes
use Rattle.modes.specs.ModeTree.{ModeTree, ClassTree, value, derived, nothing, int, boolean, char, FieldNodes, no_fields, more_fields}
use Rattle.modes.specs.Form.{FormTree, form_of, of_powerset, of_chars, of_array, of_structure}
use Rattle.modes.specs.Roots.{root_of}
use Rattle.modes.specs.Bounds.{bounds_of}
use Rattle.checks_model.specs.Alike.{is_int, is_boolean, is_chars, is_powerset, is_meeting, is_discrete, mode_in, class_is, goes_with, are_compatible}
use Rattle.checks_model.specs.Ground.{Predefined, of_mode, truth, no_instance, num, succ, pred, abs, card, min, max, upper, lower, size, put_int, put_text, put_nl, get_int}

abbrev pub when : {A : Type 0} → Bool → A → Option A
when holds x = if holds then Some x else None

-- Value of the root where one is Value, else Derived of the root
abbrev pub their_class : ClassTree → ClassTree → Option ClassTree
their_class (value a) _ = Some (value (root_of a))
their_class _ (value b) = Some (value (root_of b))
their_class (derived a) _ = Some (derived (root_of a))
their_class _ _ = None

-- + - * / MOD REM
abbrev pub is_arithmetic : Operator → Bool
is_arithmetic ops.Plus = true
is_arithmetic ops.Minus = true
is_arithmetic ops.Times = true
is_arithmetic ops.Divide = true
is_arithmetic ops.Mod = true
is_arithmetic ops.Rem = true
is_arithmetic _ = false

-- OR AND XOR ORIF ANDIF
abbrev pub is_logic : Operator → Bool
is_logic ops.Or = true
is_logic ops.And = true
is_logic ops.Xor = true
is_logic ops.OrIf = true
is_logic ops.AndIf = true
is_logic _ = false

-- - OR AND XOR
abbrev pub is_on_sets : Operator → Bool
is_on_sets ops.Minus = true
is_on_sets ops.Or = true
is_on_sets ops.And = true
is_on_sets ops.Xor = true
is_on_sets _ = false

abbrev pub is_equality : Operator → Bool
is_equality ops.Equal = true
is_equality ops.NotEqual = true
is_equality _ = false

abbrev pub is_order : Operator → Bool
is_order ops.Less = true
is_order ops.LessOrEqual = true
is_order ops.Greater = true
is_order ops.GreaterOrEqual = true
is_order _ = false

-- a form whose values are ordered
abbrev pub has_order : FormTree → Bool
has_order f = is_discrete f || (is_chars f || is_powerset f)

-- the first three lines of the table: root INT, powersets, root BOOL
abbrev pub takes : Operator → ClassTree → Bool
takes op c = (is_arithmetic op && class_is is_int c) || ((is_on_sets op && class_is is_powerset c) || (is_logic op && class_is is_boolean c))

abbrev pub goes_with_member : ClassTree → Option FormTree → Bool
goes_with_member c (Some (of_powerset m)) = goes_with c m
goes_with_member c _ = false

abbrev pub form_in : ClassTree → Option FormTree
form_in c = option_map form_of (mode_in c)

-- IN: a class that goes with the member mode; a powerset
abbrev pub can_be_member : ClassTree → ClassTree → Bool
can_be_member l r = goes_with_member l (form_in r)

abbrev pub class_of_in : Operator → ClassTree → ClassTree → Option ClassTree
class_of_in ops.In l r = when (can_be_member l r) (derived boolean)
class_of_in _ l r = None

-- the class of an operator between two operands; none where they don't fit
abbrev pub class_of_binary : Operator → ClassTree → ClassTree → Option ClassTree
class_of_binary op l r =
    if is_equality op then when (are_compatible l r && not (class_is is_meeting l || class_is is_meeting r)) (derived boolean)
    else (if is_order op then when (are_compatible l r && class_is has_order l) (derived boolean)
    else (if takes op l && are_compatible l r then their_class l r else class_of_in op l r))

-- monadic - and NOT
abbrev pub class_of_unary : Prefix → ClassTree → Option ClassTree
class_of_unary prefixes.Minus c = if class_is is_int c then their_class c c else None
class_of_unary prefixes.Not c = if class_is is_boolean c || class_is is_powerset c then their_class c c else None

abbrev pub member_class : Option FormTree → Option ClassTree
member_class (Some (of_powerset m)) = Some (value m)
member_class _ = None

-- the class of a routine of one value; none where the argument doesn't fit, or the routine isn't one of those
abbrev pub class_of_routine : Predefined → ClassTree → Option ClassTree
class_of_routine num c = when (class_is is_discrete c) (derived int)
class_of_routine succ c = when (class_is is_discrete c) c
class_of_routine pred c = when (class_is is_discrete c) c
class_of_routine abs c = if class_is is_int c then their_class c c else None
class_of_routine card c = when (class_is is_powerset c) (derived int)
class_of_routine min c = member_class (form_in c)
class_of_routine max c = member_class (form_in c)
class_of_routine _ c = None

-- ---- parts

abbrev pub field_in : List ℕ → FieldNodes → Option ModeTree
field_in name no_fields = None
field_in name (more_fields n m at fs) = if bytes_eq n name then Some m else field_in name fs

-- the mode of the field of that name
abbrev pub field_of_form : List ℕ → FormTree → Option ModeTree
field_of_form name (of_structure fs p) = field_in name fs
field_of_form name _ = None

-- the mode of the elements of an array or a text
abbrev pub element_of_form : FormTree → Option ModeTree
element_of_form (of_array i e how) = Some e
element_of_form (of_chars n) = Some char
element_of_form _ = None

-- the mode that an index has to go with
abbrev pub index_of_form : FormTree → Option ModeTree
index_of_form (of_array i e how) = Some i
index_of_form (of_chars n) = Some int
index_of_form _ = None

-- a part is Value of its mode; one that doesn't fit has the class Nothing
abbrev pub part_class : Option ModeTree → ClassTree
part_class None = nothing
part_class (Some m) = value m

abbrev pub part_of_class : (FormTree → Option ModeTree) → ClassTree → ClassTree
part_of_class part c = part_class (option_and_then part (form_in c))

-- ---- routines

abbrev pub is_measuring : Predefined → Bool
is_measuring upper = true
is_measuring lower = true
is_measuring size = true
is_measuring _ = false

-- PUT_INT, PUT_TEXT, PUT_NL
abbrev pub gives_no_value : Predefined → Bool
gives_no_value put_int = true
gives_no_value put_text = true
gives_no_value put_nl = true
gives_no_value _ = false

abbrev pub is_routine : Predefined → Bool
is_routine (of_mode m) = false
is_routine (truth b) = false
is_routine no_instance = false
is_routine _ = true

-- how many arguments a routine has
abbrev pub arguments_of : Predefined → ℕ
arguments_of put_nl = 0
arguments_of get_int = 0
arguments_of _ = 1

-- what UPPER or LOWER measures: the index mode of an array, else the mode itself
abbrev pub measured_mode : ModeTree → FormTree → ModeTree
measured_mode m (of_array i e how) = i
measured_mode m _ = m

-- the class of UPPER, LOWER or SIZE of a mode; none where the mode doesn't fit
abbrev pub class_of_measure : Predefined → ModeTree → Option ClassTree
class_of_measure size m = when (not (is_meeting (form_of m))) (derived int)
class_of_measure _ m = when (is_some (bounds_of (measured_mode m (form_of m)))) (derived (measured_mode m (form_of m)))

-- ---- operands and arguments that break the table

abbrev pub operands_misfit : Operator → ClassTree → ClassTree → Bool
operands_misfit op l r = not (is_some (class_of_binary op l r))

abbrev pub operand_misfits : Prefix → ClassTree → Bool
operand_misfits op c = not (is_some (class_of_unary op c))

-- PUT_INT takes root INT, PUT_TEXT root CHARS
abbrev pub argument_misfits : Predefined → ClassTree → Bool
argument_misfits put_int c = not (class_is is_int c)
argument_misfits put_text c = not (class_is is_chars c)
argument_misfits put_nl c = false
argument_misfits get_int c = false
argument_misfits p c = not (is_some (class_of_routine p c))

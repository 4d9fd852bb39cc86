-- The steps in which a walk tells of an expression, by what it knows so far.
use Rattle.std.specs.Prelude.{ℕ, suc, Bool, true, false, ◌&&◌, ◌==◌, not, if◌then◌else◌, List, [], ◌∷◌, ◌++◌, length, Option, Some, None, is_some, option_map, option_and_then}
use Rattle.chill_base.specs.declared.pos.Pos.{Pos}
use Rattle.chill_tree.specs.declared.tree.name.Name.{Name}
use Rattle.chill_tree.specs.declared.tree.expr.Operator.{Operator}
use Rattle.chill_tree.specs.ExprTree.{ExprTree, ExprNodes, RangeTree, RangeNodes, apply, binary, no_exprs, more_exprs, alone, between, no_ranges, more_ranges, place_of}
use Rattle.modes.specs.ModeTree.{ModeTree, ClassTree, value, int}
use Rattle.modes.specs.Form.{FormTree}
use Rattle.diagnostics.specs.declared.diagnostic.Diagnostic.{Diagnostic}
use Rattle.diagnostics.specs.declared.rule.Rule.TheVariants as rules
use Rattle.checks_model.specs.Told.{tell_at, told_if, is_none_told, then_told, holds_of, holds_of_both}
use Rattle.checks_model.specs.Ground.{Ground, Origin, Entry, Predefined, origin_of, get_int, a_location, a_parameter, a_counter, a_received, mode_of_entry}
use Rattle.checks_model.specs.Operations.{is_measuring, gives_no_value, operands_misfit, arguments_of, argument_misfits, part_of_class, element_of_form}
use Rattle.checks_model.specs.Classes.{class_as, class_of, Measured, measured_misfits, measured_first, count_exprs, shape_fits, uniform_fits, value_if, mode_of_part}
use Rattle.checks_model.specs.ValueRules.{Receiver, nothing_asked, of_mode, passed_back, condition, selector, bound, set_of_members, place, does_not_go, does_not_fit_parameter, is_not_boolean, is_not_discrete, is_no_powerset, received_mode, shape_misfits, told_in, told_in_args, told_in_parts, told_value, told_number, receivers_of, each_receiver, returns_none, call_misfits, own_told, index_mode, index_receiver, clean_class}
use Rattle.checks_model.specs.ActionRules.{told_in_routine, told_target, target_mode, clean}

-- what a receiver tells of an expression of a class
abbrev pub told_by : Ground → Receiver → Option ClassTree → ExprTree → List Diagnostic
told_by g nothing_asked c e = []
told_by g (of_mode m) c e = told_if (holds_of_both does_not_go c m) (tell_at rules.S2 (place_of e))
told_by g (passed_back m) c e = told_if (holds_of (does_not_fit_parameter (place g e)) m) (tell_at rules.S6 (place_of e))
told_by g condition c e = told_if (holds_of is_not_boolean c) (tell_at rules.S4 (place_of e))
told_by g selector c e = told_if (holds_of is_not_discrete c) (tell_at rules.S7 (place_of e))
told_by g bound c e = told_if (holds_of is_not_discrete c) (tell_at rules.S8 (place_of e))
told_by g set_of_members c e = told_if (holds_of is_no_powerset c) (tell_at rules.S8 (place_of e))

-- the mode of what can stand as a location, by what it is defined by and what is known of it
abbrev pub mode_placed : Option Origin → Option Entry → Option ModeTree
mode_placed (Some (a_location d)) e = mode_of_entry e
mode_placed (Some (a_parameter m)) e = mode_of_entry e
mode_placed (Some (a_counter c)) e = mode_of_entry e
mode_placed (Some (a_received n count part)) e = mode_of_entry e
mode_placed _ e = None

-- the class of what a routine gives without an argument
abbrev pub class_without : Predefined → Option ClassTree
class_without get_int = Some (value int)
class_without _ = None

-- ---- brackets

-- what is told in an argument of a routine: what is measured is no value
abbrev pub told_of_argument : Ground → Predefined → ExprTree → List Diagnostic
told_of_argument g p e = if is_measuring p then told_in g nothing_asked e else told_value g nothing_asked e

-- the class of the only argument, which is known where nothing but L6 is told of it
abbrev pub only_class : Ground → ExprNodes → Option ClassTree
only_class g (more_exprs e no_exprs) = clean_class (told_in g nothing_asked e) (class_of g e)
only_class g _ = None

-- the only argument of a class breaks the table
abbrev pub routine_misfits : Ground → Predefined → ExprNodes → Bool → Option ClassTree → Bool
routine_misfits g p es clean c = if is_measuring p then clean && measured_misfits p (measured_first g es) c else holds_of (argument_misfits p) c

-- S5 and S1 of a routine, of whose only argument the class is known
abbrev pub told_of_routine : Ground → Predefined → ExprNodes → Bool → Option ClassTree → Pos → List Diagnostic
told_of_routine g p es clean c at = then_told (told_number at (count_exprs es) (arguments_of p)) (told_if (routine_misfits g p es clean c) (tell_at rules.S1 at))

-- what is told in the indices of something of a class
abbrev pub args_in_index : Ground → ExprNodes → Option ClassTree → List Diagnostic
args_in_index g es base = told_in_args g (index_receiver base (count_exprs es) ∷ []) es

-- S5 at something of a class
abbrev pub told_at_base : ExprNodes → Pos → Option ClassTree → List Diagnostic
told_at_base es at base = told_if (is_some (index_mode base) && not (count_exprs es == 1)) (tell_at rules.S5 at)

-- both, the second where nothing is told in it nor in the indices
abbrev pub told_in_index : Ground → ExprNodes → Pos → Option ClassTree → Bool → List Diagnostic
told_in_index g es at base clean = args_in_index g es base ++ (if clean && is_none_told (args_in_index g es base) then told_at_base es at base else [])

abbrev pub is_clean_index : Ground → ExprNodes → Pos → Option ClassTree → Bool → Bool
is_clean_index g es at base clean = (clean && is_none_told (args_in_index g es base)) && is_none_told (told_at_base es at base)

abbrev pub class_in_index : Ground → ExprNodes → Pos → Option ClassTree → Bool → Option ClassTree
class_in_index g es at base clean = if is_clean_index g es at base clean then option_map (part_of_class element_of_form) base else None

-- a call of a procedure
abbrev pub called_told : Ground → Name → ExprNodes → List Diagnostic
called_told g n es = then_told (told_in_args g (each_receiver (receivers_of g n) (count_exprs es)) es) (told_number n.at (count_exprs es) (length (receivers_of g n)) ++ told_if (returns_none (origin_of g n)) (tell_at rules.S10 n.at))

-- a START
abbrev pub started_told : Ground → Name → ExprNodes → List Diagnostic
started_told g n es = then_told (told_in_args g (each_receiver (receivers_of g n) (count_exprs es)) es) (told_number n.at (count_exprs es) (length (receivers_of g n)))

-- a call of a routine
abbrev pub routine_call_told : Ground → Predefined → ExprNodes → Pos → List Diagnostic
routine_call_told g p es at = then_told (told_in_routine g p es) (told_if (gives_no_value p) (tell_at rules.S10 at) ++ then_told (told_number at (count_exprs es) (arguments_of p)) (told_if (call_misfits g p es) (tell_at rules.S1 at)))

-- ---- nodes with two parts, and what is told of no others

abbrev pub told_of_apply : Ground → ExprTree → List Diagnostic
told_of_apply g (apply at e es) = told_in g nothing_asked (apply at e es)
told_of_apply g _ = []

abbrev pub class_of_apply : Ground → ExprTree → Option ClassTree
class_of_apply g (apply at e es) = class_of g (apply at e es)
class_of_apply g _ = None

abbrev pub told_of_binary : Ground → ExprTree → List Diagnostic
told_of_binary g (binary at l o p r) = told_in g nothing_asked (binary at l o p r)
told_of_binary g _ = []

abbrev pub class_of_binary : Ground → ExprTree → Option ClassTree
class_of_binary g (binary at l o p r) = class_of g (binary at l o p r)
class_of_binary g _ = None

-- ---- tuples

-- a part of a tuple for what receives it
abbrev pub range_told : Ground → Receiver → RangeTree → List Diagnostic
range_told g r (alone e) = told_value g r e
range_told g r (between l h) = told_value g r l ++ told_value g r h

-- a tuple that takes its mode from a receiver
abbrev pub shaped_told : Ground → RangeNodes → Pos → Receiver → List Diagnostic
shaped_told g rs b r = then_told (told_in_parts g (shape_fits rs) 0 (received_mode r) rs) (told_if (shape_misfits (shape_fits rs) None r (received_mode r)) (tell_at rules.S11 b))

abbrev pub shaped_class : RangeNodes → Receiver → Option ClassTree
shaped_class rs r = option_and_then (value_if (shape_fits rs)) (received_mode r)

abbrev pub uniform_shaped_told : Ground → ExprTree → Pos → Receiver → List Diagnostic
uniform_shaped_told g e b r = then_told (told_value g (of_mode (mode_of_part uniform_fits 0 (received_mode r))) e) (told_if (shape_misfits uniform_fits None r (received_mode r)) (tell_at rules.S11 b))

abbrev pub uniform_shaped_class : Receiver → Option ClassTree
uniform_shaped_class r = option_and_then (value_if uniform_fits) (received_mode r)

-- ---- values and assignments

-- a value without what receives it
abbrev pub value_own_told : Ground → Receiver → ExprTree → List Diagnostic
value_own_told g r e = own_told g r e (told_in g r e)

abbrev pub assignment_told : Ground → ExprTree → ExprTree → List Diagnostic
assignment_told g t v = told_target g t ++ told_value g (of_mode (target_mode g t)) v

abbrev pub update_told : Ground → ExprTree → Operator → Pos → ExprTree → List Diagnostic
update_told g t o p v = told_target g t ++ told_value g nothing_asked v ++ told_if (holds_of_both (operands_misfit o) (option_map value (target_mode g t)) (clean g v)) (tell_at rules.S1 p)

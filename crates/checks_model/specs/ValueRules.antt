-- The rules on statements that speak of one expression: S1, S5, S10, S11 and L6 of its nodes, and S2, S4, S6, S7 and S8 of what
-- receives it. Each is one definition; `told_in` goes over the nodes.
use Rattle.std.specs.Prelude.{ℕ, suc, Bool, true, false, ◌&&◌, ◌==◌, not, nat_lt, if◌then◌else◌, List, [], ◌∷◌, ◌++◌, map, length, Option, Some, None, is_some, option_and_then}
use Rattle.std.specs.Prelude.{replicate, flat_map}
use Rattle.chill_base.specs.declared.pos.Pos.{Pos}
use Rattle.chill_tree.specs.declared.tree.name.Name.{Name}
use Rattle.chill_tree.specs.declared.tree.item.Passing.{Passing}
use Rattle.chill_tree.specs.declared.tree.item.Passing.TheVariants as passings
use Rattle.chill_tree.specs.ExprTree.{ExprTree, ExprNodes, RangeTree, RangeNodes, whole, character, text, this_instance, paren, receive, start, tuple, uniform, name, apply, field, prefixed, binary, no_exprs, more_exprs, alone, between, no_ranges, more_ranges, place_of}
use Rattle.chill_tree.specs.ItemTree.{ParamTree, FormalTree}
use Rattle.modes.specs.ModeTree.{ModeTree, ClassTree}
use Rattle.modes.specs.Form.{FormTree, form_of}
use Rattle.modes.specs.Roots.{read_is, holds_read}
use Rattle.modes.specs.Scalars.{scalars_of}
use Rattle.diagnostics.specs.declared.diagnostic.Diagnostic.{Diagnostic}
use Rattle.diagnostics.specs.declared.rule.Rule.TheVariants as rules
use Rattle.checks_model.specs.Alike.{is_boolean, is_powerset, is_discrete, class_is, mode_in, goes_with, are_v_equivalent}
use Rattle.checks_model.specs.Ground.{Ground, Origin, Entry, Predefined, a_location, a_parameter, a_counter, a_received, a_procedure, a_process, origin_of, entry_of, entry_defined, mode_of_entry}
use Rattle.checks_model.specs.Operations.{field_of_form, element_of_form, index_of_form, form_in, is_measuring, gives_no_value, arguments_of, operands_misfit, operand_misfits, argument_misfits}
use Rattle.checks_model.specs.Classes.{class_as, class_of, Callee, calls, routine, no_callee, callee_of, measured_first, class_of_first, tuple_mode, shape_fits, uniform_fits, mode_of_part, count_exprs, measured_misfits}
use Rattle.checks_model.specs.Told.{tell_at, told_if, is_none_told, then_told, holds_of, holds_of_both}

-- ---- locations

-- what may be done with what stands where a location is needed
pub data Access : Type 0 where
  free : Access
  read_only : Access
  no_location : Access

-- what stands there, and its mode where it has one
pub record Located : Type 0 where
  pub mode : Option ModeTree
  pub access : Access

abbrev pub located : Access → Option ModeTree → Located
located a m = record { mode = m; access = a }

-- a mode that is READ makes what was free read only
abbrev pub access_of : Bool → Access
access_of is_read = if is_read then read_only else free

abbrev pub place_by_mode : Bool → Option ModeTree → Located
place_by_mode is_place None = located no_location None
place_by_mode is_place (Some m) = located (if is_place then access_of (read_is m) else no_location) (Some m)

abbrev pub place_by_origin : Option Entry → Option Origin → Located
place_by_origin e (Some (a_location d)) = place_by_mode true (mode_of_entry e)
place_by_origin e (Some (a_parameter m)) = place_by_mode true (mode_of_entry e)
place_by_origin e (Some (a_counter c)) = place_by_mode false (mode_of_entry e)
place_by_origin e (Some (a_received n count part)) = place_by_mode false (mode_of_entry e)
place_by_origin e _ = located no_location None

abbrev pub part_access : Access → ModeTree → Access
part_access free m = access_of (read_is m)
part_access read_only m = read_only
part_access no_location m = no_location

abbrev pub place_part_of : Access → Option ModeTree → Located
place_part_of a None = located no_location None
place_part_of a (Some m) = located (part_access a m) (Some m)

-- a part of a location; one that doesn't fit is no location
abbrev pub place_part : (FormTree → Option ModeTree) → Located → Located
place_part part l = place_part_of l.access (option_and_then (λ m. part (form_of m)) l.mode)

abbrev pub path_of : Ground → ExprTree → Located
path_of g (name n) = place_by_origin (entry_of g n) (origin_of g n)
path_of g (apply at e es) = place_part element_of_form (path_of g e)
path_of g (field at e n) = place_part (field_of_form n.text) (path_of g e)
path_of g _ = located no_location None

abbrev pub whole_access : Access → Option ModeTree → Access
whole_access free (Some m) = access_of (holds_read m)
whole_access a m = a

-- a location is only read, too, where a part of its mode is READ
abbrev pub place : Ground → ExprTree → Located
place g e = located (whole_access (path_of g e).access (path_of g e).mode) (path_of g e).mode

abbrev pub is_free : Access → Bool
is_free free = true
is_free read_only = false
is_free no_location = false

-- ---- what receives an expression

pub data Receiver : Type 0 where
  -- an operand or an argument of a routine
  nothing_asked : Receiver
  -- a place of a mode, which may be unknown for a reason that is told elsewhere
  of_mode : Option ModeTree → Receiver
  -- a parameter that is passed OUT or INOUT
  passed_back : Option ModeTree → Receiver
  condition : Receiver
  selector : Receiver
  -- the start or the end of a loop
  bound : Receiver
  -- what follows IN
  set_of_members : Receiver

-- the mode that a tuple without a name takes
abbrev pub received_mode : Receiver → Option ModeTree
received_mode (of_mode m) = m
received_mode _ = None

-- a place that has, or may have, a mode
abbrev pub may_have_mode : Receiver → Bool
may_have_mode (of_mode m) = true
may_have_mode _ = false

-- ---- S2, S4, S6, S7, S8 and L6, each asked of one expression

-- S2: a value doesn't go with the mode that receives it
abbrev pub does_not_go : ClassTree → ModeTree → Bool
does_not_go c m = not (goes_with c m)

-- S6: an OUT or INOUT argument isn't a writable location of a v-equivalent mode
abbrev pub does_not_fit_parameter : Located → ModeTree → Bool
does_not_fit_parameter l m = not (is_free l.access && holds_of (λ own. are_v_equivalent own m) l.mode)

-- S4: a condition isn't of root BOOL
abbrev pub is_not_boolean : ClassTree → Bool
is_not_boolean c = not (class_is is_boolean c)

-- S7 of a selector, and S8 of a bound: it isn't discrete
abbrev pub is_not_discrete : ClassTree → Bool
is_not_discrete c = not (class_is is_discrete c)

-- S8: IN has no powerset
abbrev pub is_no_powerset : ClassTree → Bool
is_no_powerset c = not (class_is is_powerset c)

-- L6: a value has more than 256 scalars
abbrev pub is_too_large : ClassTree → Bool
is_too_large c = holds_of (λ m. nat_lt 256 (scalars_of m)) (mode_in c)

abbrev pub told_received : Ground → Receiver → ExprTree → List Diagnostic
told_received g nothing_asked e = []
told_received g (of_mode m) e = told_if (holds_of_both does_not_go (class_as g m e) m) (tell_at rules.S2 (place_of e))
told_received g (passed_back m) e = told_if (holds_of (does_not_fit_parameter (place g e)) m) (tell_at rules.S6 (place_of e))
told_received g condition e = told_if (holds_of is_not_boolean (class_of g e)) (tell_at rules.S4 (place_of e))
told_received g selector e = told_if (holds_of is_not_discrete (class_of g e)) (tell_at rules.S7 (place_of e))
told_received g bound e = told_if (holds_of is_not_discrete (class_of g e)) (tell_at rules.S8 (place_of e))
told_received g set_of_members e = told_if (holds_of is_no_powerset (class_of g e)) (tell_at rules.S8 (place_of e))

-- ---- S1: operands or a routine's arguments break the table

abbrev pub call_misfits : Ground → Predefined → ExprNodes → Bool
call_misfits g p es = if is_measuring p then measured_misfits p (measured_first g es) (class_of_first g es) else holds_of (argument_misfits p) (class_of_first g es)

-- ---- S5: a wrong number of parts

abbrev pub told_number : Pos → ℕ → ℕ → List Diagnostic
told_number at parts needed = told_if (not (parts == needed)) (tell_at rules.S5 at)

-- ---- what is to be given to a call

abbrev pub passed : Option Passing → Option ModeTree → Receiver
passed None m = of_mode m
passed (Some passings.In) m = of_mode m
passed (Some passings.Out) m = passed_back m
passed (Some passings.InOut) m = passed_back m

abbrev pub receivers_of_param : Ground → ParamTree → List Receiver
receivers_of_param g p = map (λ n. passed p.passing (mode_of_entry (entry_defined g n))) p.names

abbrev pub receivers_of_formal : Ground → FormalTree → List Receiver
receivers_of_formal g p = map (λ n. of_mode (mode_of_entry (entry_defined g n))) p.names

abbrev pub receivers_by : Ground → Option Origin → List Receiver
receivers_by g (Some (a_procedure p)) = flat_map (receivers_of_param g) p.params
receivers_by g (Some (a_process p)) = flat_map (receivers_of_formal g) p.formals
receivers_by g _ = []

abbrev pub receivers_of : Ground → Name → List Receiver
receivers_of g n = receivers_by g (origin_of g n)

-- each argument goes to its parameter, or to a place of no known mode where their number is wrong
abbrev pub each_receiver : List Receiver → ℕ → List Receiver
each_receiver rs count = if length rs == count then rs else replicate count (of_mode None)

abbrev pub head_or_none : List Receiver → Receiver
head_or_none [] = of_mode None
head_or_none (r ∷ rs) = r

abbrev pub rest_of : List Receiver → List Receiver
rest_of [] = []
rest_of (r ∷ rs) = rs

abbrev pub returns_none : Option Origin → Bool
returns_none (Some (a_procedure p)) = not (is_some p.returns)
returns_none _ = false

-- ---- S11: a tuple has no mode, or its parts don't match the mode

-- a place without a mode that may have none; else by the form of the mode, where that is known
abbrev pub shape_misfits : (FormTree → Bool) → Option Name → Receiver → Option ModeTree → Bool
shape_misfits fits (Some n) r m = holds_of (λ m. not (fits (form_of m))) m
shape_misfits fits None r m = if may_have_mode r then holds_of (λ m. not (fits (form_of m))) m else true

-- ---- the nodes of an expression

-- an expression with its parentheses looked through
abbrev pub bare : ExprTree → ExprTree
bare (paren at e) = bare e
bare e = e

-- what is told in a value; where that is nothing, L6 at what stands in its parentheses
abbrev pub own_told : Ground → Receiver → ExprTree → List Diagnostic → List Diagnostic
own_told g r e inside = then_told inside (told_if (holds_of is_too_large (class_as g (received_mode r) e)) (tell_at rules.L6 (place_of (bare e))))

-- the same; where that is nothing, what its receiver tells
abbrev pub value_told : Ground → Receiver → ExprTree → List Diagnostic → List Diagnostic
value_told g r e inside = then_told (own_told g r e inside) (told_received g r e)

-- the index of an array or a text goes to the index mode, where it is the only one
abbrev pub index_mode : Option ClassTree → Option ModeTree
index_mode c = option_and_then index_of_form (option_and_then form_in c)

abbrev pub index_receiver : Option ClassTree → ℕ → Receiver
index_receiver c count = of_mode (if count == 1 then index_mode c else None)

-- what receives the arguments in brackets, of which there are so many
abbrev pub receivers_behind : Ground → Callee → Option ClassTree → ℕ → List Receiver
receivers_behind g (calls n) base count = each_receiver (receivers_of g n) count
receivers_behind g (routine p) base count = replicate count nothing_asked
receivers_behind g no_callee base count = index_receiver base count ∷ []

-- what is known of the base of an index: nothing where something is told in it
abbrev pub clean_class : List Diagnostic → Option ClassTree → Option ClassTree
clean_class inside c = if is_none_told inside then c else None

-- brackets behind an expression, which stands at a place, has a class, and in which something is told; what is told in the
-- arguments as values, and as what is measured
abbrev pub told_behind : Ground → Callee → Pos → Option ClassTree → List Diagnostic → List Diagnostic → List Diagnostic → ExprNodes → List Diagnostic
-- S5 and S10 of a procedure
told_behind g (calls n) at base inside args measured es =
    then_told args (told_number at (count_exprs es) (length (receivers_of g n)) ++ told_if (returns_none (origin_of g n)) (tell_at rules.S10 at))
-- S10, S5 and S1 of a routine
told_behind g (routine p) at base inside args measured es =
    then_told (if is_measuring p then measured else args)
    (told_if (gives_no_value p) (tell_at rules.S10 at)
    ++ then_told (told_number at (count_exprs es) (arguments_of p)) (told_if (call_misfits g p es) (tell_at rules.S1 at)))
-- S5 of an array or a text
told_behind g no_callee at base inside args measured es =
    then_told (inside ++ args) (told_if (is_some (index_mode base) && not (count_exprs es == 1)) (tell_at rules.S5 at))

abbrev mutual
  -- the rules that are broken in an expression and at it, L6 and its receiver's aside
  pub told_in : Ground → Receiver → ExprTree → List Diagnostic
  told_in g r (whole at n) = []
  told_in g r (character at n) = []
  told_in g r (text at n) = []
  told_in g r (this_instance at) = []
  told_in g r (receive at n) = []
  told_in g r (name n) = []
  told_in g r (paren at e) = told_in g r e
  -- S5
  told_in g r (start at n es) = then_told (told_in_args g (each_receiver (receivers_of g n) (count_exprs es)) es) (told_number n.at (count_exprs es) (length (receivers_of g n)))
  -- S11
  told_in g r (tuple at m b rs) = then_told (told_in_parts g (shape_fits rs) 0 (tuple_mode g m (received_mode r)) rs) (told_if (shape_misfits (shape_fits rs) m r (tuple_mode g m (received_mode r))) (tell_at rules.S11 b))
  told_in g r (uniform at m b e) = then_told (value_told g (of_mode (mode_of_part uniform_fits 0 (tuple_mode g m (received_mode r)))) e (told_in g (of_mode (mode_of_part uniform_fits 0 (tuple_mode g m (received_mode r)))) e)) (told_if (shape_misfits uniform_fits m r (tuple_mode g m (received_mode r))) (tell_at rules.S11 b))
  told_in g r (apply at e es) = told_behind g (callee_of g e) (place_of e) (class_of g e) (told_in g nothing_asked e) (told_in_args g (receivers_behind g (callee_of g e) (clean_class (told_in g nothing_asked e) (class_of g e)) (count_exprs es)) es) (told_inside_each g es) es
  told_in g r (field at e n) = told_in g nothing_asked e
  -- S1
  told_in g r (prefixed at o e) = then_told (own_told g nothing_asked e (told_in g nothing_asked e)) (told_if (holds_of (operand_misfits o) (class_of g e)) (tell_at rules.S1 at))
  told_in g r (binary at lhs o p rhs) = then_told (own_told g nothing_asked lhs (told_in g nothing_asked lhs) ++ own_told g nothing_asked rhs (told_in g nothing_asked rhs)) (told_if (holds_of_both (operands_misfit o) (class_of g lhs) (class_of g rhs)) (tell_at rules.S1 p))

  pub told_in_args : Ground → List Receiver → ExprNodes → List Diagnostic
  told_in_args g rs no_exprs = []
  told_in_args g rs (more_exprs e es) = value_told g (head_or_none rs) e (told_in g (head_or_none rs) e) ++ told_in_args g (rest_of rs) es

  -- in some expressions, but for what is told of them as values: what is measured is no value
  pub told_inside_each : Ground → ExprNodes → List Diagnostic
  told_inside_each g no_exprs = []
  told_inside_each g (more_exprs e es) = told_in g nothing_asked e ++ told_inside_each g es

  pub told_in_range : Ground → Option ModeTree → RangeTree → List Diagnostic
  told_in_range g m (alone e) = value_told g (of_mode m) e (told_in g (of_mode m) e)
  told_in_range g m (between l h) = value_told g (of_mode m) l (told_in g (of_mode m) l) ++ value_told g (of_mode m) h (told_in g (of_mode m) h)

  pub told_in_parts : Ground → (FormTree → Bool) → ℕ → Option ModeTree → RangeNodes → List Diagnostic
  told_in_parts g fits k m no_ranges = []
  told_in_parts g fits k m (more_ranges p ps) = told_in_range g (mode_of_part fits k m) p ++ told_in_parts g fits (suc k) m ps

-- what is told of a value with its receiver
abbrev pub told_value : Ground → Receiver → ExprTree → List Diagnostic
told_value g r e = value_told g r e (told_in g r e)

abbrev pub told_some_value : Ground → Receiver → Option ExprTree → List Diagnostic
told_some_value g r None = []
told_some_value g r (Some e) = told_value g r e

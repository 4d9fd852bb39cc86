-- The rules on statements that speak of actions: S3, S5, S7, S8, S9 and S12, and S1 of an operator that stands with `:=`, with
-- what receives the actions' expressions.
use Rattle.std.specs.Prelude.{ℕ, Bool, true, false, ◌&&◌, ◌||◌, ◌==◌, not, if◌then◌else◌, List, [], ◌∷◌, ◌++◌, map, flat_map, length, Option, Some, None, is_some, option_map, option_and_then}
use Rattle.std.specs.List.{list_any}
use Rattle.std.specs.Str.{bytes_eq}
use Rattle.std.specs.Prelude.{codes}
use Rattle.chill_base.specs.declared.pos.Pos.{Pos}
use Rattle.chill_tree.specs.declared.tree.name.Name.{Name}
use Rattle.chill_tree.specs.ExprTree.{ExprTree, ExprNodes, RangeTree, name, apply, field, no_exprs, alone, between, place_of, expr_nodes}
use Rattle.chill_tree.specs.SimpleTree.{SimpleTree, assign, update, call_of, exit, return_with, result_of, assert_that, cause, stop, start_of, delay, continue_event, send, ControlTree, while_holds, for_ever, for_members, for_steps}
use Rattle.modes.specs.ModeTree.{ModeTree, ClassTree, value, nothing, instance}
use Rattle.modes.specs.Form.{FormTree, form_of, of_powerset}
use Rattle.diagnostics.specs.declared.diagnostic.Diagnostic.{Diagnostic}
use Rattle.diagnostics.specs.declared.rule.Rule.TheVariants as rules
use Rattle.names_model.specs.NameRules.{tell}
use Rattle.checks_model.specs.Alike.{is_int, is_discrete, class_is, mode_in, are_compatible}
use Rattle.checks_model.specs.Ground.{Ground, Predefined, message_parts}
use Rattle.checks_model.specs.Operations.{their_class, form_in, part_of_class, element_of_form, field_of_form}
use Rattle.checks_model.specs.Classes.{class_of, class_of_name, Callee, calls, routine, no_callee, callee_named, callee_of, count_exprs}
use Rattle.checks_model.specs.Told.{tell_at, told_if, is_none_told, then_told, holds_of, holds_of_both}
use Rattle.checks_model.specs.Operations.{is_measuring, arguments_of, operands_misfit}
use Rattle.checks_model.specs.ValueRules.{Receiver, nothing_asked, of_mode, condition, bound, set_of_members, Located, place, is_free, told_in, told_in_args, told_inside_each, told_value, told_some_value, told_number, receivers_of, each_receiver, receivers_behind, call_misfits, index_receiver, index_mode, clean_class}

-- ---- S3: a target is READ, a counter, a received name or no location

-- what is measured is no value
abbrev pub measures : Callee → Bool
measures (routine p) = is_measuring p
measures _ = false

-- the class of what stands where a location is needed: its beginning name calls nothing
abbrev pub path_class : Ground → ExprTree → Option ClassTree
path_class g (name n) = class_of_name g n
path_class g (apply at e es) = if measures (callee_of g e) then Some nothing else option_map (part_of_class element_of_form) (path_class g e)
path_class g (field at e n) = option_map (part_of_class (field_of_form n.text)) (path_class g e)
path_class g _ = None

-- at brackets behind something of a class, in which something is told
abbrev pub told_at_index : Ground → ExprTree → ExprNodes → List Diagnostic → Option ClassTree → List Diagnostic
told_at_index g e es inside base =
    if measures (callee_of g e) then told_inside_each g es
    else then_told (inside ++ told_in_args g (index_receiver (clean_class inside base) (count_exprs es) ∷ []) es) (told_if (is_some (index_mode base) && not (count_exprs es == 1)) (tell_at rules.S5 (place_of e)))

-- what is told in the indices of a location
abbrev pub told_in_indices : Ground → ExprTree → List Diagnostic
told_in_indices g (apply at e es) = told_at_index g e es (told_in_indices g e) (path_class g e)
told_in_indices g (field at e n) = told_in_indices g e
told_in_indices g _ = []

abbrev pub cannot_be_written : Located → Bool
cannot_be_written l = not (is_free l.access)

abbrev pub told_target : Ground → ExprTree → List Diagnostic
told_target g e = then_told (told_in_indices g e) (told_if (cannot_be_written (place g e)) (tell_at rules.S3 (place_of e)))

-- the mode of a location: none where something is told in its indices
abbrev pub target_mode : Ground → ExprTree → Option ModeTree
target_mode g e = if is_none_told (told_in_indices g e) then (place g e).mode else None

-- the class of a value: none where something but L6 is told in it
abbrev pub clean : Ground → ExprTree → Option ClassTree
clean g e = clean_class (told_in g nothing_asked e) (class_of g e)

-- ---- calls, STARTs and messages that stand as actions

abbrev pub told_arguments : Ground → List Receiver → ExprNodes → Pos → List Diagnostic
told_arguments g rs es at = told_in_args g (each_receiver rs (count_exprs es)) es ++ told_number at (count_exprs es) (length rs)

-- what is told in the arguments of a routine
abbrev pub told_in_routine : Ground → Predefined → ExprNodes → List Diagnostic
told_in_routine g p es = if is_measuring p then told_inside_each g es else told_in_args g (receivers_behind g (routine p) None (count_exprs es)) es

-- S5 stands beside what is told in the arguments; S1 asks for the class of an argument, which is there where nothing but L6
-- at it is told
abbrev pub told_routine : Ground → Callee → ExprNodes → Pos → List Diagnostic
told_routine g (routine p) es at =
    told_in_routine g p es
    ++ then_told (told_number at (count_exprs es) (arguments_of p)) (told_if (is_none_told (told_inside_each g es) && call_misfits g p es) (tell_at rules.S1 at))
told_routine g (calls n) es at = told_arguments g (receivers_of g n) es at
told_routine g no_callee es at = []

-- each part of a message goes to its mode; where the name is of no buffer or signal, to none
abbrev pub told_message : Ground → Option (List (Option ModeTree)) → ExprNodes → Pos → List Diagnostic
told_message g None es at = told_in_args g [] es
told_message g (Some ms) es at = told_arguments g (map of_mode ms) es at

abbrev pub args_in : Option (List ExprTree) → ExprNodes
args_in None = no_exprs
args_in (Some es) = expr_nodes es

-- ---- S9: RETURN outside a procedure; a value in RETURN or RESULT without RETURNS

pub data Returning : Type 0 where
  no_procedure : Returning
  no_value : Returning
  a_value : Option ModeTree → Returning

abbrev pub not_allowed : Returning → Bool → Bool
not_allowed no_procedure has_value = true
not_allowed no_value has_value = has_value
not_allowed (a_value m) has_value = false

abbrev pub result_receiver : Returning → Receiver
result_receiver (a_value m) = of_mode m
result_receiver _ = of_mode None

-- ---- actions that hold no others

abbrev pub told_simple : Ground → Returning → SimpleTree → List Diagnostic
told_simple g around (assign at t v) = told_target g t ++ told_value g (of_mode (target_mode g t)) v
told_simple g around (update at t o p v) = told_target g t ++ told_value g nothing_asked v ++ told_if (holds_of_both (operands_misfit o) (option_map value (target_mode g t)) (clean g v)) (tell_at rules.S1 p)
told_simple g around (call_of at word n es) = told_routine g (callee_named g n) (expr_nodes es) n.at
told_simple g around (return_with at v) = told_if (not_allowed around (is_some v)) (tell_at rules.S9 at) ++ told_some_value g (result_receiver around) v
told_simple g around (result_of at v) = told_if (not_allowed around true) (tell_at rules.S9 at) ++ told_value g (result_receiver around) v
told_simple g around (assert_that at c) = told_value g condition c
told_simple g around (start_of at n es) = told_arguments g (receivers_of g n) (expr_nodes es) n.at
told_simple g around (delay at n p) = told_some_value g nothing_asked p
told_simple g around (send at n es to p) = told_message g (message_parts g n) (args_in es) n.at ++ told_some_value g (of_mode (Some instance)) to ++ told_some_value g nothing_asked p
told_simple g around (exit at n) = []
told_simple g around (cause at n) = []
told_simple g around (stop at) = []
told_simple g around (continue_event at n) = []

-- ---- S7: a label isn't compatible with the selector

abbrev pub label_misfits : ClassTree → ClassTree → Bool
label_misfits sel lab = class_is is_discrete sel && not (are_compatible lab sel)

abbrev pub told_label_end : Ground → Option ClassTree → ExprTree → List Diagnostic
told_label_end g sel e = then_told (told_value g nothing_asked e) (told_if (holds_of_both label_misfits sel (clean g e)) (tell_at rules.S7 (place_of e)))

abbrev pub told_label : Ground → Option ClassTree → RangeTree → List Diagnostic
told_label g sel (alone e) = told_label_end g sel e
told_label g sel (between l h) = told_label_end g sel l ++ told_label_end g sel h

abbrev pub told_labels : Ground → ExprTree → List RangeTree → List Diagnostic
told_labels g sel ls = flat_map (told_label g (clean g sel)) ls

-- ---- S8: the bounds of FOR aren't compatible, or BY isn't INT

abbrev pub bounds_misfit : ClassTree → ClassTree → Bool
bounds_misfit l h = (class_is is_discrete l && class_is is_discrete h) && not (are_compatible l h)

-- the mode of a counter: the root of both bounds, which are discrete and compatible
abbrev pub counter_of : ClassTree → ClassTree → Option ModeTree
counter_of l h = if (class_is is_discrete l && class_is is_discrete h) && are_compatible l h then option_and_then mode_in (their_class l h) else None

abbrev pub counter_of_both : Option ClassTree → Option ClassTree → Option ModeTree
counter_of_both (Some l) (Some h) = counter_of l h
counter_of_both _ _ = None

abbrev pub member_in : FormTree → Option ModeTree
member_in (of_powerset m) = Some m
member_in _ = None

-- the mode of a loop's counter
abbrev pub counter_mode : Ground → ControlTree → Option ModeTree
counter_mode g (for_members at n s c) = option_and_then member_in (option_and_then form_in (clean g s))
counter_mode g (for_steps at n s b down e c) = counter_of_both (clean g s) (clean g e)
counter_mode g (while_holds at c) = None
counter_mode g (for_ever at) = None

abbrev pub step_misfits : Ground → Option ModeTree → ExprTree → Bool
step_misfits g counter e = holds_of (λ c. not (class_is is_int c)) (clean g e) || holds_of (λ m. not (is_int (form_of m))) counter

abbrev pub told_step : Ground → Option ModeTree → Option ExprTree → List Diagnostic
told_step g counter None = []
told_step g counter (Some e) = then_told (told_value g nothing_asked e) (told_if (step_misfits g counter e) (tell_at rules.S8 (place_of e)))

abbrev pub told_control : Ground → ControlTree → List Diagnostic
told_control g (while_holds at c) = told_value g condition c
told_control g (for_ever at) = []
told_control g (for_members at n s c) = told_value g set_of_members s ++ told_some_value g condition c
told_control g (for_steps at n s b down e c) =
    told_value g bound s ++ told_value g bound e
    ++ told_if (holds_of_both bounds_misfit (clean g s) (clean g e)) (tell_at rules.S8 (place_of e))
    ++ told_step g (counter_of_both (clean g s) (clean g e)) b ++ told_some_value g condition c

-- ---- S5 of an IN list

abbrev pub count_received : Option (List Name) → ℕ
count_received None = 0
count_received (Some ns) = length ns

abbrev pub told_received_names : Ground → Name → Option (List Name) → List Diagnostic
told_received_names g n received = told_if (holds_of (λ ms. not (length ms == count_received received)) (message_parts g n)) (tell_at rules.S5 n.at)

-- ---- S12: one handler lists an exception twice

-- the language's exceptions have one spelling in lower case too
abbrev pub one_spelling : List ℕ → List ℕ
one_spelling n =
    if bytes_eq n (codes "overflow") then codes "OVERFLOW"
    else if bytes_eq n (codes "rangefail") then codes "RANGEFAIL"
    else if bytes_eq n (codes "empty") then codes "EMPTY"
    else if bytes_eq n (codes "assertfail") then codes "ASSERTFAIL"
    else if bytes_eq n (codes "delayfail") then codes "DELAYFAIL"
    else if bytes_eq n (codes "spacefail") then codes "SPACEFAIL"
    else if bytes_eq n (codes "extinct") then codes "EXTINCT"
    else n

abbrev pub is_listed : List Name → Name → Bool
is_listed earlier n = list_any (λ e. bytes_eq (one_spelling e.text) (one_spelling n.text)) earlier

-- the exceptions of an alternative of a handler, behind those that it lists before
abbrev pub told_exceptions : List Name → List Name → List Diagnostic
told_exceptions earlier [] = []
told_exceptions earlier (n ∷ ns) = told_if (is_listed earlier n) (tell n.at rules.S12 n.text) ++ told_exceptions (earlier ++ n ∷ []) ns

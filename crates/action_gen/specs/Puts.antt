-- What each function appends to a draft: the scheme's code of a part of a statement, from the present place on.
use Rattle.std.specs.Prelude.{◌≡◌, ℕ, ◌+◌, ◌-◌, Bool, true, false, List, [], ◌∷◌, ℤ, pos, Option, Some, option_map, map, length, if◌then◌else◌}
use Rattle.std.specs.declared.alloc.Global.{Global}
use Rattle.std.specs.declared.boxed.Box.{Box}
use Rattle.modes.specs.declared.mode.Bounds.{Bounds}
use Rattle.code_types.specs.declared.instr.Instr.{Instr}
use Rattle.code_types.specs.declared.instr.Instr.TheVariants as i
use Rattle.checked_program.specs.declared.expr.Base.{Base}
use Rattle.checked_program.specs.declared.expr.Call.{Call}
use Rattle.checked_program.specs.declared.expr.Expr.{Expr}
use Rattle.checked_program.specs.declared.expr.Location.{Location}
use Rattle.checked_program.specs.declared.expr.Received.{Received}
use Rattle.checked_program.specs.declared.expr.Routine.{Routine}
use Rattle.checked_program.specs.declared.expr.Start.{Start}
use Rattle.checked_program.specs.declared.program.LocalRow.{LocalRow}
use Rattle.checked_program.specs.declared.program.Parameter.{Parameter}
use Rattle.checked_program.specs.declared.program.Passing.{Passing}
use Rattle.checked_program.specs.declared.statement.Action.{Action}
use Rattle.checked_program.specs.declared.statement.Control.{Control}
use Rattle.checked_program.specs.declared.statement.DelayAlternative.{DelayAlternative}
use Rattle.checked_program.specs.declared.statement.ReceiveAlternative.{ReceiveAlternative}
use Rattle.checked_program.specs.declared.statement.Sent.{Sent}
use Rattle.program_trees.specs.ExprTree.{ExprTree, expr_tree, boxed_expr, received_tree, location_tree, call_tree, start_tree}
use Rattle.program_trees.specs.StatementTree.{action_tree, control_tree, set_tree, sent_tree}
use Rattle.program_trees.specs.ProgramTree.{LocalRowTree, local_row_tree}
use Rattle.code_scheme.specs.Pieces.{Layout, capped}
use Rattle.code_scheme.specs.ExprSizes.{expr_size, start_size, condition_size}
use Rattle.code_scheme.specs.StatementSite.{layout, is_given_back}
use Rattle.code_scheme.specs.StatementPlain.{parameters_code, exit_code, name_code, names_code, names_size, keeping_code, keeping_size, declare_code, declare_size, set_lowest_code, set_lowest_size, assign_code, assign_size, read_code, read_size, update_code, update_size, set_result_code, set_result_size, return_code, return_size, perform_code, perform_size, drop_routine_code, drop_routine_size, taken_by, start_of_code, assert_code, assert_size, receiver_code, receiver_size, send_code, send_size}
use Rattle.code_scheme.specs.StatementLoops.{constant_step, steps_with, within_code, within_size, step_code, step_size, bounds_code, bounds_size, first_value_code, first_value_size, first_test_code, limit_code, near_end_code, next_code, while_code, some_while_code, some_while_size, members_test, members_test_size, before_turns, before_turns_size, turn_test, turn_test_size}
use Rattle.code_scheme.specs.StatementWaits.{nothing_code, set_place_code, set_place_size, set_code, set_size, events_code, all_events_code, delay_wait_code, delay_wait_size, first_received, scalars_received, sources_code, receive_wait_code, receive_wait_size, has_else}
use Rattle.code_scheme.specs.StatementSize.{label_code, more_labels_code, labels_code, labels_size, action_size}
use Rattle.code_scheme.specs.StatementCode.{chosen, action_code}
use Rattle.expr_gen.specs.declared.building.Draft.{Draft}
use Rattle.expr_gen.specs.declared.frames.Site.{Site}
use Rattle.expr_gen.specs.Puts.{PutsAll, PutsSome, PutsAt}
use Rattle.action_gen.specs.declared.around.Around.{Around}
use Rattle.action_gen.specs.declared.assigning.Change.{Change}
use Rattle.action_gen.specs.declared.steps.Steps.{Steps as RustSteps}
use Rattle.action_gen.specs.declared.waits.Receives.{Receives as RustReceives}
use Rattle.action_gen.specs.Counting.{steps_of}
use Rattle.action_gen.specs.Putting.{site_tree, standing_of, holds_statements, asks}
use Rattle.action_gen.specs.Receiving.{kind_of, waits_else}
use Rattle.action_gen.specs.Trees.{delays_of, receives_of}

abbrev pub SomeExpr : Type 0
SomeExpr = Option (Box Expr Global)

abbrev pub SomeLocation : Type 0
SomeLocation = Option (Box Location Global)

-- the expression, where one is written
abbrev pub some_expr : SomeExpr → Option ExprTree
some_expr e = option_map boxed_expr e

-- where the expressions of statements stand
abbrev pub lay_around : Around → Layout
lay_around around = layout (standing_of around).site

-- the rows of the locals of the body
abbrev pub rows_around : Around → List LocalRowTree
rows_around around = map local_row_tree around.site.body.now.locals

-- ---- sizes

-- of actions without statements
abbrev pub IsPlainSize : Site → Action → ℕ → Type 0
IsPlainSize site a size = holds_statements (action_tree a) ≡ false → size ≡ capped (action_size (site_tree site) (action_tree a))

abbrev pub IsAskingSize : Site → Action → ℕ → Type 0
IsAskingSize site a size = asks (action_tree a) ≡ true → size ≡ capped (action_size (site_tree site) (action_tree a))

-- ---- declarations

abbrev pub PutsNamed : Around → Base → ℕ → Draft → Draft → Type 0
PutsNamed around name count old new = PutsSome (name_code (lay_around around) name count) 1 old new

abbrev pub PutsNames : Around → List Base → ℕ → Draft → Draft → Type 0
PutsNames around names count old new = PutsSome (names_code (lay_around around) around.free count names) (names_size names) old new

-- the value is kept for each name
abbrev pub PutsKeeping : Around → List Base → Received → Draft → Draft → Type 0
PutsKeeping around names r old new =
    PutsAt (keeping_code (standing_of around) names (received_tree r)) (keeping_size names (received_tree r)) old new

abbrev pub PutsDeclare : Around → List Base → Received → Draft → Draft → Type 0
PutsDeclare around names r old new =
    PutsAt (declare_code (standing_of around) names (received_tree r)) (declare_size names (received_tree r)) old new

abbrev pub SetsLowest : Around → List ℕ → List ℤ → Draft → Draft → Type 0
SetsLowest around locals xs old new = PutsSome (set_lowest_code (lay_around around) locals xs) (set_lowest_size locals xs) old new

-- one local, by a value of so many scalars
abbrev pub SetsOneLowest : Around → ℕ → List ℤ → ℕ → Draft → Draft → Type 0
SetsOneLowest around number xs count old new = count ≡ length xs → SetsLowest around (number ∷ []) xs old new

-- ---- the way out of a body

-- a parameter, where it is passed so that it is given back
abbrev pub own_back : Passing → LocalRow → List Instr
own_back passing l = if is_given_back passing then i.Local l.first l.count ∷ [] else []

abbrev pub PutsGivenBack : Passing → LocalRow → Draft → Draft → Type 0
PutsGivenBack passing l old new = PutsAll (own_back passing l) old new

-- the OUT and INOUT parameters
abbrev pub given_back : List Parameter → List LocalRow → List Instr
given_back ps locals = parameters_code ps (map local_row_tree locals)

-- ---- assignments

abbrev pub PutsAssign : Around → Location → Received → Draft → Draft → Type 0
PutsAssign around l r old new =
    PutsAt (assign_code (standing_of around) (location_tree l) (received_tree r)) (assign_size (location_tree l) (received_tree r)) old new

-- how many instructions an assignment with an operator has
abbrev pub change_size : Location → Change → ℕ
change_size l c = update_size (location_tree l) c.operator (expr_tree c.value.now) c.bounds

abbrev pub PutsUpdate : Around → Location → Change → Draft → Draft → Type 0
PutsUpdate around l c old new =
    PutsAt (update_code (standing_of around) (location_tree l) c.operator (expr_tree c.value.now) c.bounds) (change_size l c) old new

-- the place and the contents of a target
abbrev pub PutsTarget : Around → Location → Draft → Draft → Type 0
PutsTarget around l old new = PutsAt (read_code (standing_of around) (location_tree l)) (read_size (location_tree l)) old new

abbrev pub PutsResult : Around → Received → Draft → Draft → Type 0
PutsResult around r old new = PutsAt (set_result_code (standing_of around) (received_tree r)) (set_result_size (received_tree r)) old new

-- RETURN, with what is written behind it
abbrev pub returned : Option Received → Site → ℕ
returned r site = return_size (site_tree site) (option_map received_tree r)

abbrev pub PutsReturn : Around → Option Received → Draft → Draft → Type 0
PutsReturn around r old new = PutsAt (return_code (standing_of around) (option_map received_tree r)) (returned r around.site) old new

-- ---- actions without statements

-- the code of an action, which has no handler rows
abbrev pub PutsPlainAction : Around → Action → Draft → Draft → Type 0
PutsPlainAction around a old new =
    PutsAt (action_code (standing_of around) (action_tree a)) (action_size (standing_of around).site (action_tree a)) old new

-- the jump of EXIT
abbrev pub PutsExit : Around → ℕ → Draft → Draft → Type 0
PutsExit around outwards old new = PutsSome (exit_code (standing_of around) outwards) 1 old new

abbrev pub PutsAssert : Around → Expr → Draft → Draft → Type 0
PutsAssert around e old new = PutsAt (assert_code (standing_of around) (expr_tree e)) (assert_size (expr_tree e)) old new

abbrev pub PutsPerform : Around → Call → Draft → Draft → Type 0
PutsPerform around c old new =
    PutsAt (perform_code (standing_of around) (call_tree c)) (perform_size (standing_of around).site (call_tree c)) old new

abbrev pub PutsDropped : Around → Routine → Expr → Draft → Draft → Type 0
PutsDropped around r e old new =
    PutsAt (drop_routine_code (standing_of around) r (expr_tree e)) (drop_routine_size r (expr_tree e)) old new

-- an expression, and an instruction that takes its value
abbrev pub PutsTaken : Around → Expr → Instr → Draft → Draft → Type 0
PutsTaken around e instr old new = PutsAt (taken_by (standing_of around) (expr_tree e) instr) (expr_size (expr_tree e) + 1) old new

abbrev pub PutsDroppedStart : Around → Start → Draft → Draft → Type 0
PutsDroppedStart around s old new = PutsAt (start_of_code (standing_of around) (start_tree s)) (start_size (start_tree s) + 1) old new

abbrev pub PutsReceiver : Around → SomeExpr → Draft → Draft → Type 0
PutsReceiver around e old new = PutsAt (receiver_code (standing_of around) (some_expr e)) (receiver_size (some_expr e)) old new

abbrev pub PutsSend : Around → Sent → ℕ → Draft → Draft → Type 0
PutsSend around s priority old new = PutsAt (send_code (standing_of around) (sent_tree s) priority) (send_size (sent_tree s)) old new

-- ---- labels of a CASE

abbrev pub PutsLabel : ℕ → Bounds → Draft → Draft → Type 0
PutsLabel kept b old new = PutsSome (label_code kept b) (length (label_code 0 b)) old new

abbrev pub PutsMoreLabels : ℕ → List Bounds → Draft → Draft → Type 0
PutsMoreLabels kept bs old new = PutsSome (more_labels_code kept bs) (length (more_labels_code 0 bs)) old new

abbrev pub PutsLabels : ℕ → List Bounds → Draft → Draft → Type 0
PutsLabels kept bs old new = PutsSome (labels_code kept bs) (labels_size bs) old new

abbrev pub PutsSelector : Around → Expr → Draft → Draft → Type 0
PutsSelector around e old new = PutsTaken around e (i.SetLocal around.free 1) old new

-- ---- loops

-- a value in these bounds
abbrev pub PutsWithin : Around → Bounds → Expr → Draft → Draft → Type 0
PutsWithin around b e old new =
    PutsAt (within_code (standing_of around) (Some b) (expr_tree e)) (within_size (Some b) (expr_tree e)) old new

-- the step, where it is a constant
abbrev pub step_number : SomeExpr → Option ℤ
step_number e = constant_step (some_expr e)

abbrev pub own_step_size : SomeExpr → ℕ
own_step_size e = step_size (step_number e) (some_expr e)

-- a step that is no constant
abbrev pub PutsOwnStep : Around → SomeExpr → Draft → Draft → Type 0
PutsOwnStep around e old new = PutsAt (step_code (standing_of around) (step_number e) (some_expr e)) (own_step_size e) old new

-- start, step and end
abbrev pub range_size : Expr → SomeExpr → Expr → ℕ
range_size start step end = bounds_size (expr_tree start) (some_expr step) (expr_tree end)

abbrev pub PutsRangeOf : Around → Expr → SomeExpr → Expr → Draft → Draft → Type 0
PutsRangeOf around start step end old new =
    PutsAt (bounds_code (standing_of around) (expr_tree start) (some_expr step) (expr_tree end)) (range_size start step end) old new

-- what a DO FOR with this step counts by
abbrev pub IsSteps : RustSteps → ℕ → SomeExpr → Bool → ℕ → Type 0
IsSteps steps counter step down free = steps_of steps ≡ steps_with counter (step_number step) down free

-- how many instructions stand before the first turn of a DO FOR with this step
abbrev pub start_of_turns : SomeExpr → ℕ
start_of_turns step = first_value_size (steps_with 0 (step_number step) false 0)

abbrev pub PutsFirstValue : RustSteps → ℕ → Draft → Draft → Type 0
PutsFirstValue steps behind old new = PutsAt (first_value_code (steps_of steps) behind) (first_value_size (steps_of steps)) old new

abbrev pub PutsFirstTest : RustSteps → ℕ → Draft → Draft → Type 0
PutsFirstTest steps behind old new = PutsAt (first_test_code (steps_of steps) behind) 5 old new

-- the next value, where it doesn't pass the end
abbrev pub PutsNext : RustSteps → ℕ → Draft → Draft → Type 0
PutsNext steps behind old new = PutsSome (next_code (steps_of steps) behind) 8 old new

abbrev pub PutsLimit : RustSteps → Draft → Draft → Type 0
PutsLimit steps old new = PutsAt (limit_code (steps_of steps)) (length (limit_code (steps_of steps) 0)) old new

abbrev pub PutsNearEnd : RustSteps → Draft → Draft → Type 0
PutsNearEnd steps old new = PutsAt (near_end_code (steps_of steps)) (length (near_end_code (steps_of steps) 0)) old new

abbrev pub PutsWhile : Around → Expr → ℕ → Draft → Draft → Type 0
PutsWhile around e behind old new =
    PutsAt (while_code (standing_of around) (expr_tree e) behind) (condition_size (expr_tree e) false) old new

abbrev pub PutsSomeWhile : Around → SomeExpr → ℕ → Draft → Draft → Type 0
PutsSomeWhile around e behind old new =
    PutsAt (some_while_code (standing_of around) (some_expr e) behind) (some_while_size (some_expr e)) old new

abbrev pub PutsMembersTest : Around → ℕ → ℤ → ℕ → Draft → Draft → Type 0
PutsMembersTest around counter low behind old new = PutsSome (members_test around.free counter low behind) (members_test_size low) old new

abbrev pub PutsBeforeTurns : Around → Control → ℕ → Draft → Draft → Type 0
PutsBeforeTurns around c behind old new =
    PutsAt (before_turns (standing_of around) (control_tree c) behind) (before_turns_size (control_tree c)) old new

abbrev pub PutsTurnTest : Around → Control → ℕ → Draft → Draft → Type 0
PutsTurnTest around c behind old new =
    PutsAt (turn_test (standing_of around) (control_tree c) behind) (turn_test_size (control_tree c)) old new

-- ---- waits

abbrev pub PutsSetPlace : Around → SomeLocation → Draft → Draft → Type 0
PutsSetPlace around set old new = PutsAt (set_place_code (standing_of around) (set_tree set)) (set_place_size (set_tree set)) old new

abbrev pub PutsSet : Around → SomeLocation → Draft → Draft → Type 0
PutsSet around set old new = PutsSome (set_code (standing_of around) (set_tree set)) (set_size (set_tree set)) old new

abbrev pub PutsEvents : ℕ → List ℕ → Draft → Draft → Type 0
PutsEvents number events old new = PutsSome (events_code number events) (length (events_code 0 events)) old new

abbrev pub PutsAllEvents : List DelayAlternative → Draft → Draft → Type 0
PutsAllEvents as' old new = PutsAll (all_events_code 0 (delays_of as')) old new

abbrev pub waiting_size : SomeLocation → List DelayAlternative → ℕ
waiting_size set as' = delay_wait_size (set_tree set) (delays_of as')

abbrev pub PutsDelayWait : Around → SomeLocation → ℕ → List DelayAlternative → Draft → Draft → Type 0
PutsDelayWait around set priority as' old new =
    PutsAt (delay_wait_code (standing_of around) (set_tree set) priority (delays_of as')) (waiting_size set as') old new

-- to this place where nothing came
abbrev pub PutsNothing : Bool → ℕ → ℕ → ℕ → Draft → Draft → Type 0
PutsNothing has_else chosen count otherwise old new =
    PutsSome (nothing_code has_else chosen count otherwise) (length (nothing_code has_else 0 0 0)) old new

-- what is received, and the locals that get it
abbrev pub PutsOneSource : Around → ℕ → List ℕ → Draft → Draft → Type 0
PutsOneSource around source ks old new =
    PutsSome (i.Thing source ∷ i.Push (pos (first_received (rows_around around) ks)) ∷ i.Push (pos (scalars_received (rows_around around) ks)) ∷ []) 3 old new

abbrev pub PutsSources : Around → List ReceiveAlternative → Draft → Draft → Type 0
PutsSources around as' old new = PutsAll (sources_code (rows_around around) (receives_of as')) old new

abbrev pub hearing_size : SomeLocation → List ReceiveAlternative → Bool → ℕ
hearing_size set as' has_else = receive_wait_size (set_tree set) (receives_of as') has_else

-- the wait of a RECEIVE CASE, which goes to this place where nothing came
abbrev pub PutsReceiveWait : Around → SomeLocation → RustReceives → List ReceiveAlternative → ℕ → Draft → Draft → Type 0
PutsReceiveWait around set receives as' nothing old new =
    PutsAt (receive_wait_code (standing_of around) (kind_of receives) (set_tree set) (receives_of as') (waits_else receives) nothing)
    (hearing_size set as' (waits_else receives)) old new

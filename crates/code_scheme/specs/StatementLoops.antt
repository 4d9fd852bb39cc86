-- The controls of DO: what is done before the first turn, and the test before each turn.
use Rattle.std.specs.Prelude.{ℕ, ◌+◌, ◌*◌, Bool, true, false, ◌&&◌, List, [], ◌∷◌, ◌++◌, ℤ, pos, ◌-ℤ◌, int_le, length, Option, Some, None, slice_get, if◌then◌else◌}
use Rattle.modes.specs.declared.mode.Bounds.{Bounds}
use Rattle.modes.specs.ModeTree.{int}
use Rattle.modes.specs.Bounds.{bounds_of}
use Rattle.code_types.specs.declared.instr.Instr.{Instr}
use Rattle.code_types.specs.declared.instr.Instr.TheVariants as i
use Rattle.program_trees.specs.ExprTree.{ExprTree, expr, OperationTree, constant}
use Rattle.program_trees.specs.StatementTree.{ControlTree, while_true, for_ever, for_members, for_steps}
use Rattle.scalar_operators.specs.Numbers.{least_int, greatest_int}
use Rattle.code_scheme.specs.Pieces.{first_in, check_code, branch_code, member_code, are_same, bounds_to_test, bounds_of_value}
use Rattle.code_scheme.specs.ExprSizes.{expr_size, condition_size}
use Rattle.code_scheme.specs.ExprCode.{expr_code, condition_code}
use Rattle.code_scheme.specs.StatementSite.{layout, Standing, taking}

-- ---- WHILE

-- a condition that leads on where it is TRUE, and behind the loop else
abbrev pub while_code : Standing → ExprTree → ℕ → ℕ → List Instr
while_code w e behind at = condition_code (layout w.site) w.free e false behind at

-- WHILE behind a FOR, where it is written
abbrev pub some_while_code : Standing → Option ExprTree → ℕ → ℕ → List Instr
some_while_code w None behind at = []
some_while_code w (Some e) behind at = while_code w e behind at

abbrev pub some_while_size : Option ExprTree → ℕ
some_while_size None = 0
some_while_size (Some e) = condition_size e false

-- ---- FOR IN: what is left of the powerset is kept in a scratch local

-- the least member goes to the counter, and is taken out
abbrev pub next_member_code : ℕ → ℕ → ℤ → List Instr
next_member_code left counter low =
    i.Local left 1 ∷ i.Copy 1 ∷ i.Least ∷ i.Copy 1 ∷
    (member_code low ++ i.SetLocal counter 1 ∷ i.Copy 1 ∷ i.Span ∷ i.BitMinus ∷ i.SetLocal left 1 ∷ [])

-- behind the loop where nothing is left, else the next member
abbrev pub members_test : ℕ → ℕ → ℤ → ℕ → List Instr
members_test left counter low behind = i.Local left 1 ∷ i.Card ∷ i.Unless behind ∷ next_member_code left counter low

abbrev pub members_test_size : ℤ → ℕ
members_test_size low = 12 + length (member_code low)

-- ---- FOR from a start to an end

-- the values of a step
abbrev pub step_bounds : Option Bounds
step_bounds = Some (record { low = pos 1; high = greatest_int })

-- what a FOR counts by: a constant, or what a scratch local keeps
pub data Step : Type 0 where
  by_constant : ℤ → Step
  by_kept : ℕ → Step

abbrev pub where_step : ℤ → Option ℤ
where_step d = if int_le (pos 1) d && int_le d greatest_int then Some d else None

-- the number of a constant, where it is one from 1 on
abbrev pub step_in : OperationTree → Option ℤ
step_in (constant (d ∷ [])) = where_step d
step_in o = None

abbrev pub step_of_value : ExprTree → Option ℤ
step_of_value (expr n own o) = step_in o

-- the step where it is a constant from 1 on, or 1 where none is written
abbrev pub constant_step : Option ExprTree → Option ℤ
constant_step None = Some (pos 1)
constant_step (Some e) = step_of_value e

-- the step of a FOR whose start is kept in this scratch local, and the scratch local of its end
abbrev pub step_from : Option ℤ → ℕ → Step
step_from (Some d) free = by_constant d
step_from None free = by_kept (free + 1)

abbrev pub kept_with : Option ℤ → ℕ
kept_with (Some d) = 2
kept_with None = 3

abbrev pub end_behind : Option ℤ → ℕ → ℕ
end_behind (Some d) free = free + 1
end_behind None free = free + 2

-- how many scratch locals a FOR keeps
abbrev pub steps_kept : Option ExprTree → ℕ
steps_kept step = kept_with (constant_step step)

-- what a FOR counts with: the local of its counter, the scratch locals of its start and its end, the step, and whether down
pub record Steps : Type 0 where
  pub counter : ℕ
  pub start : ℕ
  pub step : Step
  pub end : ℕ
  pub down : Bool

abbrev pub steps_with : ℕ → Option ℤ → Bool → ℕ → Steps
steps_with counter step down free = record { counter = counter; start = free; step = step_from step free; end = end_behind step free; down = down }

-- a value in bounds, or RANGEFAIL
abbrev pub within_code : Standing → Option Bounds → ExprTree → ℕ → List Instr
within_code w b e at = expr_code (layout w.site) w.free e at ++ check_code (bounds_to_test b (bounds_of_value e))

abbrev pub within_size : Option Bounds → ExprTree → ℕ
within_size b e = expr_size e + length (check_code (bounds_to_test b (bounds_of_value e)))

-- a step that is no constant
abbrev pub step_code : Standing → Option ℤ → Option ExprTree → ℕ → List Instr
step_code w (Some d) step at = []
step_code w None None at = []
step_code w None (Some e) at = within_code w step_bounds e at

abbrev pub step_size : Option ℤ → Option ExprTree → ℕ
step_size (Some d) step = 0
step_size None None = 0
step_size None (Some e) = within_size step_bounds e

-- start, step and end, each evaluated once and kept
abbrev pub bounds_code : Standing → ExprTree → Option ExprTree → ExprTree → ℕ → List Instr
bounds_code w from step to at =
    within_code w (bounds_of int) from at ++
    (step_code w (constant_step step) step (at + within_size (bounds_of int) from) ++
    (within_code w (bounds_of int) to (at + (within_size (bounds_of int) from + step_size (constant_step step) step)) ++
    i.SetLocal w.free (steps_kept step) ∷ []))

abbrev pub bounds_size : ExprTree → Option ExprTree → ExprTree → ℕ
bounds_size from step to = within_size (bounds_of int) from + (step_size (constant_step step) step + (within_size (bounds_of int) to + 1))

-- whether what one local has comes before what another one has
abbrev pub order_code : ℕ → ℕ → List Instr
order_code first second = i.Local first 1 ∷ i.Local second 1 ∷ i.Less 1 ∷ []

-- the first local comes before the second where one counts up, and the second before the first where one counts down
abbrev pub before_code : Bool → ℕ → ℕ → List Instr
before_code down first second = if down then order_code second first else order_code first second

-- away from the start, and back towards it
abbrev pub forth : Bool → Instr
forth down = if down then i.Sub else i.Add

abbrev pub back : Bool → Instr
back down = if down then i.Add else i.Sub

-- 1 less than the step
abbrev pub rest_code : Step → List Instr
rest_code (by_constant d) = i.Push (d -ℤ pos 1) ∷ []
rest_code (by_kept k) = i.Local k 1 ∷ i.Push (pos 1) ∷ i.Sub ∷ []

-- the end whose limit is the first value of INT, or the last one behind DOWN
abbrev pub nearest_code : Steps → List Instr
nearest_code c = i.Push (if c.down then greatest_int else least_int) ∷ (rest_code c.step ++ forth c.down ∷ [])

-- where the limit wouldn't lie in INT, the end is moved so far that it does
abbrev pub nearer_code : Steps → List Instr
nearer_code c = if c.down then nearest_code c ++ i.Local c.end 1 ∷ [] else i.Local c.end 1 ∷ nearest_code c

abbrev pub near_end_code : Steps → ℕ → List Instr
near_end_code c at =
    nearer_code c ++
    (i.Less 1 ∷ i.Unless (at + (2 * length (rest_code c.step) + 8)) ∷ (nearest_code c ++ i.SetLocal c.end 1 ∷ []))

-- the end is moved towards the start by 1 less than the step
abbrev pub moved_end_code : Steps → List Instr
moved_end_code c = i.Local c.end 1 ∷ (rest_code c.step ++ back c.down ∷ i.SetLocal c.end 1 ∷ [])

abbrev pub is_one : Step → Bool
is_one (by_constant d) = are_same d (pos 1)
is_one (by_kept k) = false

-- the end becomes the limit, from which on another step passes the end; with a step of 1 that is the end itself
abbrev pub limit_code : Steps → ℕ → List Instr
limit_code c at = if is_one c.step then [] else near_end_code c at ++ moved_end_code c

-- past the loop where the start is past the end
abbrev pub first_test_code : Steps → ℕ → ℕ → List Instr
first_test_code c behind at = before_code c.down c.end c.start ++ branch_code true behind (at + 3)

abbrev pub by_step : Step → Instr
by_step (by_constant d) = i.Push d
by_step (by_kept k) = i.Local k 1

-- the next value, where it doesn't pass the end: where the counter lies before the limit
abbrev pub next_code : Steps → ℕ → List Instr
next_code c behind =
    before_code c.down c.counter c.end ++
    (i.Unless behind ∷ i.Local c.counter 1 ∷ by_step c.step ∷ forth c.down ∷ i.SetLocal c.counter 1 ∷ [])

-- before the first turn: the first test, the limit, and the first value
abbrev pub first_value_code : Steps → ℕ → ℕ → List Instr
first_value_code c behind at =
    first_test_code c behind at ++
    (limit_code c (at + 5) ++ i.Local c.start 1 ∷ i.SetLocal c.counter 1 ∷ i.Jump (at + (5 + (length (limit_code c 0) + 11))) ∷ [])

abbrev pub first_value_size : Steps → ℕ
first_value_size c = 5 + (length (limit_code c 0) + 3)

-- how many instructions the next value has
abbrev pub next_size : ℕ
next_size = 8

-- ---- controls

-- what stands before the place to which control goes back after a turn
abbrev pub before_turns : Standing → ControlTree → ℕ → ℕ → List Instr
before_turns w (while_true e) behind at = []
before_turns w for_ever behind at = []
before_turns w (for_members counter e low condition) behind at = expr_code (layout w.site) w.free e at ++ i.SetLocal w.free 1 ∷ []
before_turns w (for_steps counter from step to down condition) behind at =
    bounds_code w from step to at ++
    first_value_code (steps_with (first_in (slice_get w.site.body.locals counter)) (constant_step step) down w.free) behind (at + bounds_size from step to)

abbrev pub before_turns_size : ControlTree → ℕ
before_turns_size (while_true e) = 0
before_turns_size for_ever = 0
before_turns_size (for_members counter e low condition) = expr_size e + 1
before_turns_size (for_steps counter from step to down condition) = bounds_size from step to + first_value_size (steps_with 0 (constant_step step) false 0)

-- what stands from there on: the test before each turn
abbrev pub turn_test : Standing → ControlTree → ℕ → ℕ → List Instr
turn_test w (while_true e) behind at = while_code w e behind at
turn_test w for_ever behind at = []
turn_test w (for_members counter e low condition) behind at =
    members_test w.free (first_in (slice_get w.site.body.locals counter)) low behind ++
    some_while_code (taking w 1) condition behind (at + members_test_size low)
turn_test w (for_steps counter from step to down condition) behind at =
    next_code (steps_with (first_in (slice_get w.site.body.locals counter)) (constant_step step) down w.free) behind ++
    some_while_code (taking w (steps_kept step)) condition behind (at + next_size)

abbrev pub turn_test_size : ControlTree → ℕ
turn_test_size (while_true e) = condition_size e false
turn_test_size for_ever = 0
turn_test_size (for_members counter e low condition) = members_test_size low + some_while_size condition
turn_test_size (for_steps counter from step to down condition) = next_size + some_while_size condition

-- how many scratch locals a control keeps during the turns
abbrev pub locals_kept : ControlTree → ℕ
locals_kept (while_true e) = 0
locals_kept for_ever = 0
locals_kept (for_members counter e low condition) = 1
locals_kept (for_steps counter from step to down condition) = steps_kept step

abbrev pub control_size : ControlTree → ℕ
control_size c = before_turns_size c + turn_test_size c

abbrev pub control_code : Standing → ControlTree → ℕ → ℕ → List Instr
control_code w c behind at = before_turns w c behind at ++ turn_test w c behind (at + before_turns_size c)

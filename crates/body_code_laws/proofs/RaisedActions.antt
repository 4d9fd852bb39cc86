-- Conditions, and actions that hold no statements, CAUSE aside: they raise exceptions of the language alone.
use Rattle.std.proofs.Common.{◌≡◌, ◌<◌, ◌+◌, nat_lt, ℕ, suc, Bool, true, false, List, [], ◌∷◌, ◌++◌, ℤ, pos, length, refl, arith, Option, Some, None, slice_get}
use Rattle.std.specs.Prelude.{not}
use Rattle.modes.specs.declared.mode.Bounds.{Bounds}
use Rattle.modes.specs.ModeTree.{int}
use Rattle.modes.specs.Bounds.{bounds_of}
use Rattle.checked_program.specs.declared.expr.Base.{Base}
use Rattle.checked_program.specs.declared.expr.Base.TheVariants.{Shared, Local}
use Rattle.checked_program.specs.declared.expr.Binary.{Binary}
use Rattle.checked_program.specs.declared.expr.Binary.TheVariants.{AndIf, OrIf}
use Rattle.checked_program.specs.declared.expr.Prefix.TheVariants.{Minus, Not, Complement}
use Rattle.checked_program.specs.declared.expr.Routine.{Routine}
use Rattle.checked_program.specs.declared.program.Parameter.{Parameter}
use Rattle.checked_program.specs.declared.program.Sort.{Sort}
use Rattle.checked_program.specs.declared.program.Sort.TheVariants.{Outermost, Process, Procedure}
use Rattle.code_types.specs.declared.instr.Instr.{Instr}
use Rattle.code_types.specs.declared.instr.Instr.TheVariants as i
use Rattle.program_trees.specs.ExprTree.{ExprTree, expr, OperationTree, prefixed, binary, ReceivedTree, LocationTree, StartTree, CallTree, count_of, received_count, location_count}
use Rattle.program_trees.specs.ProgramTree.{LocalRowTree, BodyRowTree}
use Rattle.program_trees.specs.StatementTree.{SentTree, to_buffer, signal, ControlTree, while_true, for_ever, for_members, for_steps, DelayNodes, no_delays, more_delays, ReceiveNodes, no_receives, more_receives}
use Rattle.code_scheme.specs.Pieces.{Layout, bounds_of_value, bounds_to_test, bounds_of_operator, between_size, behind_size, straight, turned, first_in}
use Rattle.code_scheme.specs.ExprSizes.{expr_size, operation_size, place_size, received_sizes, condition_size}
use Rattle.code_scheme.specs.ExprCode.{counts_of, condition_code, operation_condition}
use Rattle.code_scheme.specs.StatementSite.{layout, Standing, taking, declared_scalars, result_scalars, is_given_back}
use Rattle.code_scheme.specs.StatementPlain.{offset_of_name, name_code, names_code, keeping_code, declare_code, set_lowest_code, assign_code, read_code, read_size, update_code, entered_by, leave_region, parameters_code, way_out_of, set_result_code, return_code, dropped_scalars, perform_code, drop_routine_code, taken_by, start_of_code, assert_code, delay_code, receiver_code, has_receiver, send_code}
use Rattle.code_scheme.specs.StatementLoops.{some_while_code, next_member_code, members_test, members_test_size, step_bounds, Step, by_constant, by_kept, constant_step, steps_kept, Steps, steps_with, within_code, within_size, step_code, step_size, bounds_size, order_code, before_code, forth, back, rest_code, nearest_code, near_end_code, moved_end_code, is_one, limit_code, by_step, next_code, next_size, first_value_code, before_turns, before_turns_size, turn_test, control_code}
use Rattle.code_scheme.specs.StatementWaits.{set_place_code, chosen_in, set_code, events_code, all_events_code, count_of_events, delay_wait_code, first_received, scalars_received, sources_code, count_of_sources, Receives, from_buffers, of_signals, receive_instr, nothing_code, receive_wait_code}
use Rattle.body_code_laws.proofs.RaisedParts.{RaisesOwn, none_raises, both_raises, is_raise, plain_raises, this_raises, one_raises, if_raises, scalars_raises, check_raises, member_raises, between_raises, behind_raises, routine_raises, branch_raises, contents_raises, store_raises, again_raises, keep_raises, kept_raises, expr_raises, operation_raises, place_raises, received_raises, all_raises, start_raises, call_raises}

mutual
  pub condition_raises : (lay : Layout) (free : ℕ) (e : ExprTree) (when : Bool) (target at : ℕ) → RaisesOwn (condition_code lay free e when target at)
  condition_raises lay free (expr n own o) when target at = operation_condition_raises lay free n o when target at

  operation_condition_raises : (lay : Layout) (free n : ℕ) (o : OperationTree) (when : Bool) (target at : ℕ) → RaisesOwn (operation_condition lay free n o when target at)
  operation_condition_raises lay free n (prefixed Not e) when target at = condition_raises lay free e (not when) target at
  operation_condition_raises lay free n (prefixed Minus e) when target at = both_raises _ _ (operation_raises lay free n (prefixed Minus e) at) (branch_raises when target (at + operation_size (prefixed Minus e)))
  operation_condition_raises lay free n (prefixed (Complement m) e) when target at = both_raises _ _ (operation_raises lay free n (prefixed (Complement m) e) at) (branch_raises when target (at + operation_size (prefixed (Complement m) e)))
  operation_condition_raises lay free n (binary AndIf a b) when target at = both_raises _ _ (condition_raises lay free a false _ at) (condition_raises lay free b when target (at + condition_size a false))
  operation_condition_raises lay free n (binary OrIf a b) when target at = both_raises _ _ (condition_raises lay free a true _ at) (condition_raises lay free b when target (at + condition_size a true))
  operation_condition_raises lay free n (binary o a b) when target at =
      both_raises _ _ (expr_raises lay free a at) (both_raises _ _ (between_raises o (bounds_of_value a) (at + expr_size a) (expr_size b)) (both_raises _ _ (expr_raises lay free b (at + expr_size a + between_size o (bounds_of_value a))) (both_raises _ _ (behind_raises (straight o) (count_of a)) (branch_raises (turned o when) target (at + expr_size a + between_size o (bounds_of_value a) + expr_size b + behind_size (straight o))))))
  operation_condition_raises lay free n o when target at = both_raises _ _ (operation_raises lay free n o at) (branch_raises when target (at + operation_size o))

-- ---- declarations and assignments

offset_name_raises : (b : Base) → RaisesOwn (offset_of_name b)
offset_name_raises (Shared l) = plain_raises (offset_of_name (Shared l)) refl
offset_name_raises (Local k) = none_raises

name_raises : (lay : Layout) (b : Base) (n : ℕ) → RaisesOwn (name_code lay b n)
name_raises lay (Shared l) n = plain_raises (name_code lay (Shared l) n) refl
name_raises lay (Local k) n = plain_raises (name_code lay (Local k) n) refl

names_raises : (lay : Layout) (free n : ℕ) (bs : List Base) → RaisesOwn (names_code lay free n bs)
names_raises lay free n [] = none_raises
names_raises lay free n (b ∷ bs) = both_raises _ _ (offset_name_raises b) (one_raises (i.Local free n) _ refl (both_raises _ _ (name_raises lay b n) (names_raises lay free n bs)))

keeping_raises : (w : Standing) (bs : List Base) (r : ReceivedTree) (at : ℕ) → RaisesOwn (keeping_code w bs r at)
keeping_raises w bs r at = both_raises _ _ (received_raises (layout w.site) w.free r at) (one_raises (i.SetLocal w.free (received_count r)) _ refl (names_raises (layout w.site) w.free (received_count r) bs))

pub declare_raises : (w : Standing) (bs : List Base) (r : ReceivedTree) (at : ℕ) → RaisesOwn (declare_code w bs r at)
declare_raises w [] r at = keeping_raises w [] r at
declare_raises w (b ∷ []) r at = both_raises _ _ (offset_name_raises b) (both_raises _ _ (received_raises (layout w.site) w.free r (at + length (offset_of_name b))) (name_raises (layout w.site) b (received_count r)))
declare_raises w (b ∷ c ∷ bs) r at = keeping_raises w (b ∷ c ∷ bs) r at

pub lowest_raises : (lay : Layout) (ks : List ℕ) (xs : List ℤ) → RaisesOwn (set_lowest_code lay ks xs)
lowest_raises lay [] xs = none_raises
lowest_raises lay (k ∷ ks) xs = both_raises _ _ (scalars_raises xs) (one_raises (i.SetLocal (first_in (slice_get lay.rows k)) (length xs)) _ refl (lowest_raises lay ks xs))

pub assign_raises : (w : Standing) (l : LocationTree) (r : ReceivedTree) (at : ℕ) → RaisesOwn (assign_code w l r at)
assign_raises w l r at = both_raises _ _ (place_raises (layout w.site) w.free l at) (both_raises _ _ (received_raises (layout w.site) w.free r (at + place_size l)) (store_raises (layout w.site) l))

read_raises : (w : Standing) (l : LocationTree) (at : ℕ) → RaisesOwn (read_code w l at)
read_raises w l at = both_raises _ _ (place_raises (layout w.site) w.free l at) (both_raises _ _ (again_raises l) (contents_raises (layout w.site) l))

pub update_raises : (w : Standing) (l : LocationTree) (o : Binary) (e : ExprTree) (bounds : Option Bounds) (at : ℕ) → RaisesOwn (update_code w l o e bounds at)
update_raises w l o e bounds at =
    both_raises _ _ (read_raises w l at) (both_raises _ _ (between_raises o bounds (at + read_size l) (expr_size e)) (both_raises _ _ (expr_raises (layout w.site) w.free e (at + (read_size l + between_size o bounds))) (both_raises _ _ (behind_raises o (location_count l)) (both_raises _ _ (check_raises (bounds_to_test bounds (bounds_of_operator o))) (store_raises (layout w.site) l)))))

-- ---- ways out

leave_raises : (region : Option ℕ) → RaisesOwn (leave_region region)
leave_raises None = none_raises
leave_raises (Some r) = plain_raises (leave_region (Some r)) refl

parameters_raises : (ps : List Parameter) (rows : List LocalRowTree) → RaisesOwn (parameters_code ps rows)
parameters_raises [] rows = none_raises
parameters_raises (q ∷ ps) [] = none_raises
parameters_raises (q ∷ ps) (row ∷ rows) = both_raises _ _ (parameters_raises ps rows) (if_raises (is_given_back q.passing) _ [] (plain_raises (i.Local row.first row.count ∷ []) refl) none_raises)

pub way_out_raises : (sort : Sort) (b : BodyRowTree) → RaisesOwn (way_out_of sort b)
way_out_raises Outermost b = plain_raises (i.Finish ∷ []) refl
way_out_raises Process b = plain_raises (i.Finish ∷ []) refl
way_out_raises Procedure b =
    both_raises _ _ (leave_raises (entered_by b)) (both_raises _ _ (if_raises (nat_lt 0 (result_scalars b)) _ [] (plain_raises (i.Local (declared_scalars b) (result_scalars b) ∷ []) refl) none_raises) (both_raises _ _ (parameters_raises b.parameters b.locals) (plain_raises (i.Return ∷ []) refl)))

pub result_raises : (w : Standing) (r : ReceivedTree) (at : ℕ) → RaisesOwn (set_result_code w r at)
result_raises w r at = both_raises _ _ (received_raises (layout w.site) w.free r at) (plain_raises (i.SetLocal (declared_scalars w.site.body) (result_scalars w.site.body) ∷ []) refl)

pub return_raises : (w : Standing) (r : Option ReceivedTree) (at : ℕ) → RaisesOwn (return_code w r at)
return_raises w None at = way_out_raises w.site.body.sort w.site.body
return_raises w (Some r) at = both_raises _ _ (result_raises w r at) (way_out_raises w.site.body.sort w.site.body)

-- ---- calls, values that are dropped, requests

pub perform_raises : (w : Standing) (c : CallTree) (at : ℕ) → RaisesOwn (perform_code w c at)
perform_raises w c at = both_raises _ _ (call_raises (layout w.site) w.free c at) (if_raises (nat_lt 0 (dropped_scalars w.site c)) _ [] (plain_raises (i.Pop (dropped_scalars w.site c) ∷ []) refl) none_raises)

pub routine_dropped_raises : (w : Standing) (r : Routine) (e : ExprTree) (at : ℕ) → RaisesOwn (drop_routine_code w r e at)
routine_dropped_raises w r e at = both_raises _ _ (expr_raises (layout w.site) w.free e at) (both_raises _ _ (routine_raises r) (plain_raises (i.Pop 1 ∷ []) refl))

pub taken_raises : (w : Standing) (e : ExprTree) (instr : Instr) (at : ℕ) → is_raise instr ≡ false → RaisesOwn (taken_by w e instr at)
taken_raises w e instr at still = both_raises _ _ (expr_raises (layout w.site) w.free e at) (one_raises instr [] still none_raises)

pub start_of_raises : (w : Standing) (t : StartTree) (at : ℕ) → RaisesOwn (start_of_code w t at)
start_of_raises w t at = both_raises _ _ (start_raises (layout w.site) w.free t at) (plain_raises (i.Pop 1 ∷ []) refl)

pub assert_raises : (w : Standing) (e : ExprTree) (at : ℕ) → RaisesOwn (assert_code w e at)
assert_raises w e at = both_raises _ _ (condition_raises (layout w.site) w.free e true (at + (condition_size e true + 1)) at) (this_raises 3 (let e : 3 < 7 = omega arith in e))

pub delay_raises : (e priority : ℕ) → RaisesOwn (delay_code e priority)
delay_raises e priority = plain_raises (delay_code e priority) refl

receiver_raises : (w : Standing) (to : Option ExprTree) (at : ℕ) → RaisesOwn (receiver_code w to at)
receiver_raises w None at = none_raises
receiver_raises w (Some e) at = expr_raises (layout w.site) w.free e at

pub send_raises : (w : Standing) (sent : SentTree) (priority at : ℕ) → RaisesOwn (send_code w sent priority at)
send_raises w (to_buffer b r) priority at = both_raises _ _ (received_raises (layout w.site) w.free r at) (plain_raises (i.Send b (received_count r) priority ∷ []) refl)
send_raises w (signal n rs to) priority at =
    both_raises _ _ (all_raises (layout w.site) w.free rs at) (both_raises _ _ (receiver_raises w to (at + received_sizes rs)) (plain_raises (i.Signal n (counts_of rs) (has_receiver to) priority ∷ []) refl))

-- ---- loops

some_while_raises : (w : Standing) (condition : Option ExprTree) (place at : ℕ) → RaisesOwn (some_while_code w condition place at)
some_while_raises w None place at = none_raises
some_while_raises w (Some e) place at = condition_raises (layout w.site) w.free e false place at

within_raises : (w : Standing) (b : Option Bounds) (e : ExprTree) (at : ℕ) → RaisesOwn (within_code w b e at)
within_raises w b e at = both_raises _ _ (expr_raises (layout w.site) w.free e at) (check_raises (bounds_to_test b (bounds_of_value e)))

step_raises : (w : Standing) (known : Option ℤ) (step : Option ExprTree) (at : ℕ) → RaisesOwn (step_code w known step at)
step_raises w (Some d) step at = none_raises
step_raises w None None at = none_raises
step_raises w None (Some e) at = within_raises w step_bounds e at

rest_raises : (step : Step) → RaisesOwn (rest_code step)
rest_raises (by_constant d) = plain_raises (rest_code (by_constant d)) refl
rest_raises (by_kept k) = plain_raises (rest_code (by_kept k)) refl

forth_raises : (down : Bool) (is : List Instr) → RaisesOwn is → RaisesOwn (forth down ∷ is)
forth_raises true is known = one_raises i.Sub is refl known
forth_raises false is known = one_raises i.Add is refl known

back_raises : (down : Bool) (is : List Instr) → RaisesOwn is → RaisesOwn (back down ∷ is)
back_raises true is known = one_raises i.Add is refl known
back_raises false is known = one_raises i.Sub is refl known

nearest_raises : (c : Steps) → RaisesOwn (nearest_code c)
nearest_raises c = one_raises (i.Push _) _ refl (both_raises _ _ (rest_raises c.step) (forth_raises c.down [] none_raises))

near_end_raises : (c : Steps) (at : ℕ) → RaisesOwn (near_end_code c at)
near_end_raises c at =
    both_raises _ _ (if_raises c.down (nearest_code c ++ i.Local c.end 1 ∷ []) (i.Local c.end 1 ∷ nearest_code c) (both_raises _ _ (nearest_raises c) (plain_raises (i.Local c.end 1 ∷ []) refl)) (one_raises (i.Local c.end 1) _ refl (nearest_raises c)))
    (one_raises (i.Less 1) _ refl (one_raises (i.Unless _) _ refl (both_raises _ _ (nearest_raises c) (plain_raises (i.SetLocal c.end 1 ∷ []) refl))))

moved_end_raises : (c : Steps) → RaisesOwn (moved_end_code c)
moved_end_raises c = one_raises (i.Local c.end 1) _ refl (both_raises _ _ (rest_raises c.step) (back_raises c.down _ (plain_raises (i.SetLocal c.end 1 ∷ []) refl)))

limit_raises : (c : Steps) (at : ℕ) → RaisesOwn (limit_code c at)
limit_raises c at = if_raises (is_one c.step) [] _ none_raises (both_raises _ _ (near_end_raises c at) (moved_end_raises c))

before_raises : (down : Bool) (first second : ℕ) → RaisesOwn (before_code down first second)
before_raises down first second = if_raises down (order_code second first) (order_code first second) (plain_raises (order_code second first) refl) (plain_raises (order_code first second) refl)

by_step_raises : (step : Step) (is : List Instr) → RaisesOwn is → RaisesOwn (by_step step ∷ is)
by_step_raises (by_constant d) is known = one_raises (i.Push d) is refl known
by_step_raises (by_kept k) is known = one_raises (i.Local k 1) is refl known

next_raises : (c : Steps) (place : ℕ) → RaisesOwn (next_code c place)
next_raises c place = both_raises _ _ (before_raises c.down c.counter c.end) (one_raises (i.Unless place) _ refl (one_raises (i.Local c.counter 1) _ refl (by_step_raises c.step _ (forth_raises c.down _ (plain_raises (i.SetLocal c.counter 1 ∷ []) refl)))))

first_value_raises : (c : Steps) (place at : ℕ) → RaisesOwn (first_value_code c place at)
first_value_raises c place at =
    both_raises _ _ (both_raises _ _ (before_raises c.down c.end c.start) (branch_raises true place (at + 3))) (both_raises _ _ (limit_raises c (at + 5)) (one_raises (i.Local c.start 1) _ refl (one_raises (i.SetLocal c.counter 1) _ refl (one_raises (i.Jump _) [] refl none_raises))))

next_member_raises : (left counter : ℕ) (low : ℤ) → RaisesOwn (next_member_code left counter low)
next_member_raises left counter low =
    one_raises (i.Local left 1) _ refl (one_raises (i.Copy 1) _ refl (one_raises i.Least _ refl (one_raises (i.Copy 1) _ refl (both_raises _ _ (member_raises low) (plain_raises (i.SetLocal counter 1 ∷ i.Copy 1 ∷ i.Span ∷ i.BitMinus ∷ i.SetLocal left 1 ∷ []) refl)))))

members_test_raises : (left counter : ℕ) (low : ℤ) (place : ℕ) → RaisesOwn (members_test left counter low place)
members_test_raises left counter low place = one_raises (i.Local left 1) _ refl (one_raises i.Card _ refl (one_raises (i.Unless place) _ refl (next_member_raises left counter low)))

before_turns_raises : (w : Standing) (c : ControlTree) (place at : ℕ) → RaisesOwn (before_turns w c place at)
before_turns_raises w (while_true e) place at = none_raises
before_turns_raises w for_ever place at = none_raises
before_turns_raises w (for_members counter e low condition) place at = both_raises _ _ (expr_raises (layout w.site) w.free e at) (plain_raises (i.SetLocal w.free 1 ∷ []) refl)
before_turns_raises w (for_steps counter from step to down condition) place at =
    both_raises _ _ (both_raises _ _ (within_raises w (bounds_of int) from at) (both_raises _ _ (step_raises w (constant_step step) step (at + within_size (bounds_of int) from)) (both_raises _ _ (within_raises w (bounds_of int) to (at + (within_size (bounds_of int) from + step_size (constant_step step) step))) (plain_raises (i.SetLocal w.free (steps_kept step) ∷ []) refl))))
    (first_value_raises (steps_with (first_in (slice_get w.site.body.locals counter)) (constant_step step) down w.free) place (at + bounds_size from step to))

turn_test_raises : (w : Standing) (c : ControlTree) (place at : ℕ) → RaisesOwn (turn_test w c place at)
turn_test_raises w (while_true e) place at = condition_raises (layout w.site) w.free e false place at
turn_test_raises w for_ever place at = none_raises
turn_test_raises w (for_members counter e low condition) place at = both_raises _ _ (members_test_raises w.free (first_in (slice_get w.site.body.locals counter)) low place) (some_while_raises (taking w 1) condition place (at + members_test_size low))
turn_test_raises w (for_steps counter from step to down condition) place at =
    both_raises _ _ (next_raises (steps_with (first_in (slice_get w.site.body.locals counter)) (constant_step step) down w.free) place) (some_while_raises (taking w (steps_kept step)) condition place (at + next_size))

pub control_raises : (w : Standing) (c : ControlTree) (place at : ℕ) → RaisesOwn (control_code w c place at)
control_raises w c place at = both_raises _ _ (before_turns_raises w c place at) (turn_test_raises w c place (at + before_turns_size c))

-- ---- waits

set_place_raises : (w : Standing) (set : Option LocationTree) (at : ℕ) → RaisesOwn (set_place_code w set at)
set_place_raises w None at = none_raises
set_place_raises w (Some l) at = both_raises _ _ (place_raises (layout w.site) w.free l at) (keep_raises l w.free)

set_raises : (w : Standing) (set : Option LocationTree) → RaisesOwn (set_code w set)
set_raises w None = none_raises
set_raises w (Some l) = both_raises _ _ (kept_raises l w.free) (one_raises (i.Local (chosen_in w.free (Some l) + 1) 1) _ refl (store_raises (layout w.site) l))

events_raises : (k : ℕ) (es : List ℕ) → RaisesOwn (events_code k es)
events_raises k [] = none_raises
events_raises k (e ∷ es) = one_raises (i.Thing e) _ refl (one_raises (i.Push (pos k)) _ refl (events_raises k es))

all_events_raises : (k : ℕ) (ds : DelayNodes) → RaisesOwn (all_events_code k ds)
all_events_raises k no_delays = none_raises
all_events_raises k (more_delays es ss ds) = both_raises _ _ (events_raises k es) (all_events_raises (suc k) ds)

pub delay_wait_raises : (w : Standing) (set : Option LocationTree) (priority : ℕ) (ds : DelayNodes) (at : ℕ) → RaisesOwn (delay_wait_code w set priority ds at)
delay_wait_raises w set priority ds at =
    both_raises _ _ (set_place_raises w set at)
    (both_raises _ _ (all_events_raises 0 ds) (one_raises (i.Delay (count_of_events ds) priority) _ refl (one_raises (i.SetLocal (chosen_in w.free set) 2) _ refl (set_raises w set))))

sources_raises : (rows : List LocalRowTree) (rs : ReceiveNodes) → RaisesOwn (sources_code rows rs)
sources_raises rows no_receives = none_raises
sources_raises rows (more_receives source ks ss rs) =
    one_raises (i.Thing source) _ refl
    (one_raises (i.Push (pos (first_received rows ks))) _ refl (one_raises (i.Push (pos (scalars_received rows ks))) _ refl (sources_raises rows rs)))

receive_raises : (receives : Receives) (n : ℕ) (has_else : Bool) (is : List Instr) → RaisesOwn is → RaisesOwn (receive_instr receives n has_else ∷ is)
receive_raises from_buffers n has_else is known = one_raises (i.Take n has_else) is refl known
receive_raises of_signals n has_else is known = one_raises (i.Hear n has_else) is refl known

nothing_raises : (has_else : Bool) (chosen n place : ℕ) → RaisesOwn (nothing_code has_else chosen n place)
nothing_raises false chosen n place = none_raises
nothing_raises true chosen n place = plain_raises (nothing_code true chosen n place) refl

pub receive_wait_raises : (w : Standing) (receives : Receives) (set : Option LocationTree) (rs : ReceiveNodes) (has_else : Bool) (place at : ℕ) → RaisesOwn (receive_wait_code w receives set rs has_else place at)
receive_wait_raises w receives set rs has_else place at =
    let n = count_of_sources rs in
    let kept = chosen_in w.free set in
    both_raises _ _ (set_place_raises w set at)
    (both_raises _ _ (sources_raises w.site.body.locals rs)
    (receive_raises receives n has_else _ (one_raises (i.SetLocal kept 2) _ refl (both_raises _ _ (nothing_raises has_else kept n place) (set_raises w set)))))

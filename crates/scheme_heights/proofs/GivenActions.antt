-- What a wait is for is pushed by Thing: conditions, and actions that hold no statements.
use Rattle.std.proofs.Common.{◌≡◌, ◌+◌, nat_lt, ℕ, suc, Bool, true, false, List, [], ◌∷◌, ◌++◌, ℤ, pos, length, refl, sym, subst, arith, Option, Some, None, slice_get}
use Rattle.std.specs.Prelude.{not}
use Rattle.std.proofs.lemmas.List.{append_assoc}
use Rattle.modes.specs.declared.mode.Bounds.{Bounds}
use Rattle.modes.specs.ModeTree.{int}
use Rattle.modes.specs.Bounds.{bounds_of}
use Rattle.checked_program.specs.declared.expr.Base.{Base}
use Rattle.checked_program.specs.declared.expr.Base.TheVariants.{Shared, Local}
use Rattle.checked_program.specs.declared.expr.Binary.{Binary}
use Rattle.checked_program.specs.declared.expr.Binary.TheVariants.{AndIf, OrIf}
use Rattle.checked_program.specs.declared.expr.Prefix.TheVariants.{Minus, Not, Complement}
use Rattle.checked_program.specs.declared.expr.Routine.{Routine}
use Rattle.checked_program.specs.declared.program.Parameter.{Parameter}
use Rattle.checked_program.specs.declared.program.Sort.{Sort}
use Rattle.checked_program.specs.declared.program.Sort.TheVariants.{Outermost, Process, Procedure}
use Rattle.code_types.specs.declared.instr.Instr.{Instr}
use Rattle.code_types.specs.declared.instr.Instr.TheVariants as i
use Rattle.program_trees.specs.ExprTree.{ExprTree, expr, OperationTree, prefixed, binary, ReceivedTree, LocationTree, StartTree, CallTree, count_of, received_count, location_count}
use Rattle.program_trees.specs.ProgramTree.{LocalRowTree, BodyRowTree}
use Rattle.program_trees.specs.StatementTree.{SentTree, to_buffer, signal, ControlTree, while_true, for_ever, for_members, for_steps, DelayNodes, no_delays, more_delays, ReceiveNodes, no_receives, more_receives}
use Rattle.code_scheme.specs.Pieces.{Layout, bounds_of_value, bounds_to_test, bounds_of_operator, between_size, behind_size, straight, turned, first_in}
use Rattle.code_scheme.specs.ExprSizes.{expr_size, operation_size, place_size, received_sizes, condition_size}
use Rattle.code_scheme.specs.ExprCode.{counts_of, condition_code, operation_condition}
use Rattle.code_scheme.specs.StatementSite.{layout, Standing, taking, declared_scalars, result_scalars, is_given_back}
use Rattle.code_scheme.specs.StatementPlain.{offset_of_name, name_code, names_code, keeping_code, declare_code, set_lowest_code, assign_code, read_code, read_size, update_code, entered_by, leave_region, parameters_code, way_out_of, set_result_code, return_code, dropped_scalars, perform_code, drop_routine_code, taken_by, start_of_code, assert_code, delay_code, receiver_code, has_receiver, send_code}
use Rattle.code_scheme.specs.StatementLoops.{some_while_code, next_member_code, members_test, members_test_size, step_bounds, Step, by_constant, by_kept, constant_step, steps_kept, Steps, steps_with, within_code, within_size, step_code, step_size, bounds_size, order_code, before_code, forth, back, rest_code, nearest_code, near_end_code, moved_end_code, is_one, limit_code, by_step, next_code, next_size, first_value_code, before_turns, before_turns_size, turn_test, control_code}
use Rattle.code_scheme.specs.StatementWaits.{set_place_code, chosen_in, set_code, events_code, all_events_code, count_of_events, delay_wait_code, first_received, scalars_received, sources_code, count_of_sources, Receives, from_buffers, of_signals, receive_instr, nothing_code, receive_wait_code}
use Rattle.scheme_heights.specs.Things.{ArePairs, AreTriples, IsGiven, AreGiven}
use Rattle.scheme_heights.proofs.Things.{given_more, Given, none_given, both_given, waits, plain_given, one_given, if_given, scalars_given, check_given, member_given, between_given, behind_given, routine_given, branch_given, contents_given, store_given, again_given, keep_given, kept_given, expr_given, operation_given, place_given, received_given, all_given, start_given, call_given}

mutual
  pub condition_given : (lay : Layout) (free : ℕ) (e : ExprTree) (when : Bool) (target at : ℕ) → Given (condition_code lay free e when target at)
  condition_given lay free (expr n own o) when target at = operation_condition_given lay free n o when target at

  operation_condition_given : (lay : Layout) (free n : ℕ) (o : OperationTree) (when : Bool) (target at : ℕ) → Given (operation_condition lay free n o when target at)
  operation_condition_given lay free n (prefixed Not e) when target at = condition_given lay free e (not when) target at
  operation_condition_given lay free n (prefixed Minus e) when target at = both_given _ _ (operation_given lay free n (prefixed Minus e) at) (branch_given when target (at + operation_size (prefixed Minus e)))
  operation_condition_given lay free n (prefixed (Complement m) e) when target at = both_given _ _ (operation_given lay free n (prefixed (Complement m) e) at) (branch_given when target (at + operation_size (prefixed (Complement m) e)))
  operation_condition_given lay free n (binary AndIf a b) when target at = both_given _ _ (condition_given lay free a false _ at) (condition_given lay free b when target (at + condition_size a false))
  operation_condition_given lay free n (binary OrIf a b) when target at = both_given _ _ (condition_given lay free a true _ at) (condition_given lay free b when target (at + condition_size a true))
  operation_condition_given lay free n (binary o a b) when target at =
      both_given _ _ (expr_given lay free a at) (both_given _ _ (between_given o (bounds_of_value a) (at + expr_size a) (expr_size b)) (both_given _ _ (expr_given lay free b (at + expr_size a + between_size o (bounds_of_value a))) (both_given _ _ (behind_given (straight o) (count_of a)) (branch_given (turned o when) target (at + expr_size a + between_size o (bounds_of_value a) + expr_size b + behind_size (straight o))))))
  operation_condition_given lay free n o when target at = both_given _ _ (operation_given lay free n o at) (branch_given when target (at + operation_size o))

-- ---- declarations and assignments

offset_name_given : (b : Base) → Given (offset_of_name b)
offset_name_given (Shared l) = plain_given (offset_of_name (Shared l)) refl
offset_name_given (Local k) = none_given

name_given : (lay : Layout) (b : Base) (n : ℕ) → Given (name_code lay b n)
name_given lay (Shared l) n = plain_given (name_code lay (Shared l) n) refl
name_given lay (Local k) n = plain_given (name_code lay (Local k) n) refl

names_given : (lay : Layout) (free n : ℕ) (bs : List Base) → Given (names_code lay free n bs)
names_given lay free n [] = none_given
names_given lay free n (b ∷ bs) = both_given _ _ (offset_name_given b) (one_given (i.Local free n) _ refl (both_given _ _ (name_given lay b n) (names_given lay free n bs)))

keeping_given : (w : Standing) (bs : List Base) (r : ReceivedTree) (at : ℕ) → Given (keeping_code w bs r at)
keeping_given w bs r at = both_given _ _ (received_given (layout w.site) w.free r at) (one_given (i.SetLocal w.free (received_count r)) _ refl (names_given (layout w.site) w.free (received_count r) bs))

pub declare_given : (w : Standing) (bs : List Base) (r : ReceivedTree) (at : ℕ) → Given (declare_code w bs r at)
declare_given w [] r at = keeping_given w [] r at
declare_given w (b ∷ []) r at = both_given _ _ (offset_name_given b) (both_given _ _ (received_given (layout w.site) w.free r (at + length (offset_of_name b))) (name_given (layout w.site) b (received_count r)))
declare_given w (b ∷ c ∷ bs) r at = keeping_given w (b ∷ c ∷ bs) r at

pub lowest_given : (lay : Layout) (ks : List ℕ) (xs : List ℤ) → Given (set_lowest_code lay ks xs)
lowest_given lay [] xs = none_given
lowest_given lay (k ∷ ks) xs = both_given _ _ (scalars_given xs) (one_given (i.SetLocal (first_in (slice_get lay.rows k)) (length xs)) _ refl (lowest_given lay ks xs))

pub assign_given : (w : Standing) (l : LocationTree) (r : ReceivedTree) (at : ℕ) → Given (assign_code w l r at)
assign_given w l r at = both_given _ _ (place_given (layout w.site) w.free l at) (both_given _ _ (received_given (layout w.site) w.free r (at + place_size l)) (store_given (layout w.site) l))

read_given : (w : Standing) (l : LocationTree) (at : ℕ) → Given (read_code w l at)
read_given w l at = both_given _ _ (place_given (layout w.site) w.free l at) (both_given _ _ (again_given l) (contents_given (layout w.site) l))

pub update_given : (w : Standing) (l : LocationTree) (o : Binary) (e : ExprTree) (bounds : Option Bounds) (at : ℕ) → Given (update_code w l o e bounds at)
update_given w l o e bounds at =
    both_given _ _ (read_given w l at) (both_given _ _ (between_given o bounds (at + read_size l) (expr_size e)) (both_given _ _ (expr_given (layout w.site) w.free e (at + (read_size l + between_size o bounds))) (both_given _ _ (behind_given o (location_count l)) (both_given _ _ (check_given (bounds_to_test bounds (bounds_of_operator o))) (store_given (layout w.site) l)))))

-- ---- ways out

leave_given : (region : Option ℕ) → Given (leave_region region)
leave_given None = none_given
leave_given (Some r) = plain_given (leave_region (Some r)) refl

parameters_given : (ps : List Parameter) (rows : List LocalRowTree) → Given (parameters_code ps rows)
parameters_given [] rows = none_given
parameters_given (q ∷ ps) [] = none_given
parameters_given (q ∷ ps) (row ∷ rows) = both_given _ _ (parameters_given ps rows) (if_given (is_given_back q.passing) _ [] (plain_given (i.Local row.first row.count ∷ []) refl) none_given)

pub way_out_given : (sort : Sort) (b : BodyRowTree) → Given (way_out_of sort b)
way_out_given Outermost b = plain_given (i.Finish ∷ []) refl
way_out_given Process b = plain_given (i.Finish ∷ []) refl
way_out_given Procedure b =
    both_given _ _ (leave_given (entered_by b)) (both_given _ _ (if_given (nat_lt 0 (result_scalars b)) _ [] (plain_given (i.Local (declared_scalars b) (result_scalars b) ∷ []) refl) none_given) (both_given _ _ (parameters_given b.parameters b.locals) (plain_given (i.Return ∷ []) refl)))

pub result_given : (w : Standing) (r : ReceivedTree) (at : ℕ) → Given (set_result_code w r at)
result_given w r at = both_given _ _ (received_given (layout w.site) w.free r at) (plain_given (i.SetLocal (declared_scalars w.site.body) (result_scalars w.site.body) ∷ []) refl)

pub return_given : (w : Standing) (r : Option ReceivedTree) (at : ℕ) → Given (return_code w r at)
return_given w None at = way_out_given w.site.body.sort w.site.body
return_given w (Some r) at = both_given _ _ (result_given w r at) (way_out_given w.site.body.sort w.site.body)

-- ---- calls, values that are dropped, requests

pub perform_given : (w : Standing) (c : CallTree) (at : ℕ) → Given (perform_code w c at)
perform_given w c at = both_given _ _ (call_given (layout w.site) w.free c at) (if_given (nat_lt 0 (dropped_scalars w.site c)) _ [] (plain_given (i.Pop (dropped_scalars w.site c) ∷ []) refl) none_given)

pub routine_dropped_given : (w : Standing) (r : Routine) (e : ExprTree) (at : ℕ) → Given (drop_routine_code w r e at)
routine_dropped_given w r e at = both_given _ _ (expr_given (layout w.site) w.free e at) (both_given _ _ (routine_given r) (plain_given (i.Pop 1 ∷ []) refl))

pub taken_given : (w : Standing) (e : ExprTree) (instr : Instr) (at : ℕ) → waits instr ≡ false → Given (taken_by w e instr at)
taken_given w e instr at still = both_given _ _ (expr_given (layout w.site) w.free e at) (one_given instr [] still none_given)

pub start_of_given : (w : Standing) (t : StartTree) (at : ℕ) → Given (start_of_code w t at)
start_of_given w t at = both_given _ _ (start_given (layout w.site) w.free t at) (plain_given (i.Pop 1 ∷ []) refl)

pub assert_given : (w : Standing) (e : ExprTree) (at : ℕ) → Given (assert_code w e at)
assert_given w e at = both_given _ _ (condition_given (layout w.site) w.free e true (at + (condition_size e true + 1)) at) (plain_given (i.Raise 3 ∷ []) refl)

pub delay_given : (e priority : ℕ) → Given (delay_code e priority)
delay_given e priority = record { all = (tt, (tt, ((refl, refl, tt), (tt, tt)))) }

receiver_given : (w : Standing) (to : Option ExprTree) (at : ℕ) → Given (receiver_code w to at)
receiver_given w None at = none_given
receiver_given w (Some e) at = expr_given (layout w.site) w.free e at

pub send_given : (w : Standing) (sent : SentTree) (priority at : ℕ) → Given (send_code w sent priority at)
send_given w (to_buffer b r) priority at = both_given _ _ (received_given (layout w.site) w.free r at) (plain_given (i.Send b (received_count r) priority ∷ []) refl)
send_given w (signal n rs to) priority at =
    both_given _ _ (all_given (layout w.site) w.free rs at) (both_given _ _ (receiver_given w to (at + received_sizes rs)) (plain_given (i.Signal n (counts_of rs) (has_receiver to) priority ∷ []) refl))

-- ---- loops

some_while_given : (w : Standing) (condition : Option ExprTree) (place at : ℕ) → Given (some_while_code w condition place at)
some_while_given w None place at = none_given
some_while_given w (Some e) place at = condition_given (layout w.site) w.free e false place at

within_given : (w : Standing) (b : Option Bounds) (e : ExprTree) (at : ℕ) → Given (within_code w b e at)
within_given w b e at = both_given _ _ (expr_given (layout w.site) w.free e at) (check_given (bounds_to_test b (bounds_of_value e)))

step_given : (w : Standing) (known : Option ℤ) (step : Option ExprTree) (at : ℕ) → Given (step_code w known step at)
step_given w (Some d) step at = none_given
step_given w None None at = none_given
step_given w None (Some e) at = within_given w step_bounds e at

rest_given : (step : Step) → Given (rest_code step)
rest_given (by_constant d) = plain_given (rest_code (by_constant d)) refl
rest_given (by_kept k) = plain_given (rest_code (by_kept k)) refl

forth_given : (down : Bool) (is : List Instr) → Given is → Given (forth down ∷ is)
forth_given true is known = one_given i.Sub is refl known
forth_given false is known = one_given i.Add is refl known

back_given : (down : Bool) (is : List Instr) → Given is → Given (back down ∷ is)
back_given true is known = one_given i.Add is refl known
back_given false is known = one_given i.Sub is refl known

nearest_given : (c : Steps) → Given (nearest_code c)
nearest_given c = one_given (i.Push _) _ refl (both_given _ _ (rest_given c.step) (forth_given c.down [] none_given))

near_end_given : (c : Steps) (at : ℕ) → Given (near_end_code c at)
near_end_given c at =
    both_given _ _ (if_given c.down (nearest_code c ++ i.Local c.end 1 ∷ []) (i.Local c.end 1 ∷ nearest_code c) (both_given _ _ (nearest_given c) (plain_given (i.Local c.end 1 ∷ []) refl)) (one_given (i.Local c.end 1) _ refl (nearest_given c)))
    (one_given (i.Less 1) _ refl (one_given (i.Unless _) _ refl (both_given _ _ (nearest_given c) (plain_given (i.SetLocal c.end 1 ∷ []) refl))))

moved_end_given : (c : Steps) → Given (moved_end_code c)
moved_end_given c = one_given (i.Local c.end 1) _ refl (both_given _ _ (rest_given c.step) (back_given c.down _ (plain_given (i.SetLocal c.end 1 ∷ []) refl)))

limit_given : (c : Steps) (at : ℕ) → Given (limit_code c at)
limit_given c at = if_given (is_one c.step) [] _ none_given (both_given _ _ (near_end_given c at) (moved_end_given c))

before_given : (down : Bool) (first second : ℕ) → Given (before_code down first second)
before_given down first second = if_given down (order_code second first) (order_code first second) (plain_given (order_code second first) refl) (plain_given (order_code first second) refl)

by_step_given : (step : Step) (is : List Instr) → Given is → Given (by_step step ∷ is)
by_step_given (by_constant d) is known = one_given (i.Push d) is refl known
by_step_given (by_kept k) is known = one_given (i.Local k 1) is refl known

next_given : (c : Steps) (place : ℕ) → Given (next_code c place)
next_given c place = both_given _ _ (before_given c.down c.counter c.end) (one_given (i.Unless place) _ refl (one_given (i.Local c.counter 1) _ refl (by_step_given c.step _ (forth_given c.down _ (plain_given (i.SetLocal c.counter 1 ∷ []) refl)))))

first_value_given : (c : Steps) (place at : ℕ) → Given (first_value_code c place at)
first_value_given c place at =
    both_given _ _ (both_given _ _ (before_given c.down c.end c.start) (branch_given true place (at + 3))) (both_given _ _ (limit_given c (at + 5)) (one_given (i.Local c.start 1) _ refl (one_given (i.SetLocal c.counter 1) _ refl (one_given (i.Jump _) [] refl none_given))))

next_member_given : (left counter : ℕ) (low : ℤ) → Given (next_member_code left counter low)
next_member_given left counter low =
    one_given (i.Local left 1) _ refl (one_given (i.Copy 1) _ refl (one_given i.Least _ refl (one_given (i.Copy 1) _ refl (both_given _ _ (member_given low) (plain_given (i.SetLocal counter 1 ∷ i.Copy 1 ∷ i.Span ∷ i.BitMinus ∷ i.SetLocal left 1 ∷ []) refl)))))

members_test_given : (left counter : ℕ) (low : ℤ) (place : ℕ) → Given (members_test left counter low place)
members_test_given left counter low place = one_given (i.Local left 1) _ refl (one_given i.Card _ refl (one_given (i.Unless place) _ refl (next_member_given left counter low)))

before_turns_given : (w : Standing) (c : ControlTree) (place at : ℕ) → Given (before_turns w c place at)
before_turns_given w (while_true e) place at = none_given
before_turns_given w for_ever place at = none_given
before_turns_given w (for_members counter e low condition) place at = both_given _ _ (expr_given (layout w.site) w.free e at) (plain_given (i.SetLocal w.free 1 ∷ []) refl)
before_turns_given w (for_steps counter from step to down condition) place at =
    both_given _ _ (both_given _ _ (within_given w (bounds_of int) from at) (both_given _ _ (step_given w (constant_step step) step (at + within_size (bounds_of int) from)) (both_given _ _ (within_given w (bounds_of int) to (at + (within_size (bounds_of int) from + step_size (constant_step step) step))) (plain_given (i.SetLocal w.free (steps_kept step) ∷ []) refl))))
    (first_value_given (steps_with (first_in (slice_get w.site.body.locals counter)) (constant_step step) down w.free) place (at + bounds_size from step to))

turn_test_given : (w : Standing) (c : ControlTree) (place at : ℕ) → Given (turn_test w c place at)
turn_test_given w (while_true e) place at = condition_given (layout w.site) w.free e false place at
turn_test_given w for_ever place at = none_given
turn_test_given w (for_members counter e low condition) place at = both_given _ _ (members_test_given w.free (first_in (slice_get w.site.body.locals counter)) low place) (some_while_given (taking w 1) condition place (at + members_test_size low))
turn_test_given w (for_steps counter from step to down condition) place at =
    both_given _ _ (next_given (steps_with (first_in (slice_get w.site.body.locals counter)) (constant_step step) down w.free) place) (some_while_given (taking w (steps_kept step)) condition place (at + next_size))

pub control_given : (w : Standing) (c : ControlTree) (place at : ℕ) → Given (control_code w c place at)
control_given w c place at = both_given _ _ (before_turns_given w c place at) (turn_test_given w c place (at + before_turns_size c))

-- ---- waits

set_place_given : (w : Standing) (set : Option LocationTree) (at : ℕ) → Given (set_place_code w set at)
set_place_given w None at = none_given
set_place_given w (Some l) at = both_given _ _ (place_given (layout w.site) w.free l at) (keep_given l w.free)

set_given : (w : Standing) (set : Option LocationTree) → Given (set_code w set)
set_given w None = none_given
set_given w (Some l) = both_given _ _ (kept_given l w.free) (one_given (i.Local (chosen_in w.free (Some l) + 1) 1) _ refl (store_given (layout w.site) l))

events_behind : (k : ℕ) (es : List ℕ) (m : ℕ) (before rest : List Instr) → ArePairs m before → ((others : List Instr) → ArePairs (m + length es) others → AreGiven others rest) → AreGiven before (events_code k es ++ rest)
events_behind k [] m before rest known onwards = onwards before (subst (λ (x : ℕ). ArePairs x before) (let e : m ≡ m + 0 = omega arith in e) known)
events_behind k (e ∷ es) m before rest known onwards =
    (tt, (tt, events_behind k es (suc m) (i.Push (pos k) ∷ i.Thing e ∷ before) rest (refl, refl, known) (λ others pairs. onwards others (subst (λ (x : ℕ). ArePairs x others) (let e' : suc m + length es ≡ m + suc (length es) = omega arith in e') pairs))))

all_events_behind : (k : ℕ) (ds : DelayNodes) (m : ℕ) (before rest : List Instr) → ArePairs m before → ((others : List Instr) → ArePairs (m + count_of_events ds) others → AreGiven others rest) → AreGiven before (all_events_code k ds ++ rest)
all_events_behind k no_delays m before rest known onwards = onwards before (subst (λ (x : ℕ). ArePairs x before) (let e : m ≡ m + 0 = omega arith in e) known)
all_events_behind k (more_delays es ss ds) m before rest known onwards =
    subst (AreGiven before) (sym (append_assoc (events_code k es) (all_events_code (suc k) ds) rest))
    (events_behind k es m before (all_events_code (suc k) ds ++ rest) known (λ others pairs.
    all_events_behind (suc k) ds (m + length es) others rest pairs (λ more all. onwards more (subst (λ (x : ℕ). ArePairs x more) (let e : m + length es + count_of_events ds ≡ m + (length es + count_of_events ds) = omega arith in e) all))))

pub delay_wait_given : (w : Standing) (set : Option LocationTree) (priority : ℕ) (ds : DelayNodes) (at : ℕ) → Given (delay_wait_code w set priority ds at)
delay_wait_given w set priority ds at = both_given _ _ (set_place_given w set at) (record { all = all_events_behind 0 ds 0 [] _ tt behind })
  where
    n : ℕ
    n = count_of_events ds

    rest : Given (i.SetLocal (chosen_in w.free set) 2 ∷ set_code w set)
    rest = one_given (i.SetLocal (chosen_in w.free set) 2) (set_code w set) refl (set_given w set)

    behind : (others : List Instr) → ArePairs (0 + n) others → AreGiven others (i.Delay n priority ∷ i.SetLocal (chosen_in w.free set) 2 ∷ set_code w set)
    behind others pairs = (subst (λ (x : ℕ). ArePairs x others) (let e : 0 + n ≡ n = omega arith in e) pairs, given_more [] (i.Delay n priority ∷ others) (i.SetLocal (chosen_in w.free set) 2 ∷ set_code w set) rest.all)

sources_behind : (rows : List LocalRowTree) (rs : ReceiveNodes) (m : ℕ) (before rest : List Instr) → AreTriples m before → ((others : List Instr) → AreTriples (m + count_of_sources rs) others → AreGiven others rest) → AreGiven before (sources_code rows rs ++ rest)
sources_behind rows no_receives m before rest known onwards = onwards before (subst (λ (x : ℕ). AreTriples x before) (let e : m ≡ m + 0 = omega arith in e) known)
sources_behind rows (more_receives source ks ss rs) m before rest known onwards = (
  tt,
  (
    tt,
    (
      tt,
      sources_behind rows rs (suc m) (i.Push (pos (scalars_received rows ks)) ∷ i.Push (pos (first_received rows ks)) ∷ i.Thing source ∷ before) rest (refl, refl, refl, known)
          (λ others triples. onwards others (subst (λ (x : ℕ). AreTriples x others) (let e : suc m + count_of_sources rs ≡ m + suc (count_of_sources rs) = omega arith in e) triples)),
    ),
  ),
)

receive_given : (receives : Receives) (n : ℕ) (has_else : Bool) (before : List Instr) → AreTriples n before → IsGiven before (receive_instr receives n has_else)
receive_given from_buffers n has_else before known = known
receive_given of_signals n has_else before known = known

nothing_given : (has_else : Bool) (chosen n place : ℕ) → Given (nothing_code has_else chosen n place)
nothing_given false chosen n place = none_given
nothing_given true chosen n place = plain_given (nothing_code true chosen n place) refl

pub receive_wait_given : (w : Standing) (receives : Receives) (set : Option LocationTree) (rs : ReceiveNodes) (has_else : Bool) (place at : ℕ) → Given (receive_wait_code w receives set rs has_else place at)
receive_wait_given w receives set rs has_else place at = both_given _ _ (set_place_given w set at) (record { all = sources_behind w.site.body.locals rs 0 [] _ tt behind })
  where
    n : ℕ
    n = count_of_sources rs

    kept : ℕ
    kept = chosen_in w.free set

    rest : Given (i.SetLocal kept 2 ∷ (nothing_code has_else kept n place ++ set_code w set))
    rest = one_given (i.SetLocal kept 2) _ refl (both_given _ _ (nothing_given has_else kept n place) (set_given w set))

    behind : (others : List Instr) → AreTriples (0 + n) others → AreGiven others (receive_instr receives n has_else ∷ i.SetLocal kept 2 ∷ (nothing_code has_else kept n place ++ set_code w set))
    behind others triples = (
      receive_given receives n has_else others (subst (λ (x : ℕ). AreTriples x others) (let e : 0 + n ≡ n = omega arith in e) triples),
      given_more [] (receive_instr receives n has_else ∷ others) (i.SetLocal kept 2 ∷ (nothing_code has_else kept n place ++ set_code w set)) rest.all,
    )

-- Locals that statements leave as they are.
use Rattle.std.proofs.Common.{◌≡◌, ℕ, zero, suc, Bool, true, false, not, ◌==◌, List, [], ◌∷◌, ℤ, pos, take, drop, length, Option, Some, None, slice_get, refl, ◌∙◌}
use Rattle.std.specs.List.{list_all}
use Rattle.kernel_base.specs.declared.ends.Exc.{Exc}
use Rattle.kernel_base.specs.declared.ends.Exc.TheVariants.{Rangefail, Assertfail}
use Rattle.kernel_base.specs.declared.request.Request.{Request}
use Rattle.kernel_base.specs.declared.request.Request.TheVariants.{Enter, Leave, ReceiveBuffer, ReceiveSignal}
use Rattle.kernel_base.specs.declared.ends.How.TheVariants.{Stopped}
use Rattle.kernel_base.specs.declared.answer.Answer.{Answer}
use Rattle.kernel_base.specs.declared.answer.Answer.TheVariants.{Value, Done, Woken, Got, Otherwise, Instance, Fail, Chose, Handed, Stored}
use Rattle.world_model.specs.Session.{Session, tick}
use Rattle.checked_program.specs.declared.expr.Base.{Base}
use Rattle.scalar_operators.specs.Numbers.{is_int, where_true}
use Rattle.scalar_operators.specs.Powersets.{first_of_list}
use Rattle.scalar_operators.specs.Members.{offsets_of}
use Rattle.code_types.specs.Operands.{number_in as number_of_32, bytes_of}
use Rattle.code_types.specs.Places.{names_exception}
use Rattle.program_trees.specs.ExprTree.{ExprTree, ReceivedTree, LocationTree, location_count}
use Rattle.program_trees.specs.ProgramTree.{LocalRowTree}
use Rattle.program_trees.specs.StatementTree.{SentTree, to_buffer, signal, ControlTree, while_true, for_ever, for_members, for_steps, StatementTree, statement, ActionTree, do_nothing, declare, set_lowest, module_at, region_at, assign, update, perform, drop_routine, evaluate, put_int, put_text, put_line, exit_from, return_with, set_result, assert_that, cause, stop, start_of, delay, continue_at, send, if_then, case_of, do_loop, begin_end, delay_case, receive_buffers, receive_signals, StatementNodes, no_statements, more_statements, ChoiceNodes, no_choices, more_choices, CaseNodes, no_cases, more_cases, DelayNodes, no_delays, more_delays, ReceiveNodes, no_receives, more_receives, OtherwiseNode, no_otherwise, otherwise, HandledNodes, no_handled, more_handled, HandlerNode, no_handler, handler}
use Rattle.source_meaning.specs.Store.{Store, Address, address_of, local_value, with_local, count_in}
use Rattle.source_meaning.specs.Flow.{Flow, Goes, Raised, Exits, Returned, Stops, Gone, Bound, Meaning, then_do, done}
use Rattle.source_meaning.specs.Operators.{sole_number, one, is_true, member_at, routine_value, without_offset}
use Rattle.source_meaning.specs.ExprMeaning.{Setting, expr_mean}
use Rattle.source_meaning.specs.StatementMeaning.{skip, set_names, set_locals, spread_over, set_to, set_address, put_bytes, send_to, sent_signal, sent_mean, result_mean, return_mean, holds_one, receive_list, receive_counts, is_written, received_by, Come, comes_to, nothing_came, take_in, woken_as, turn_or_end, turns, where_holds, next_member, passes_end, next_value, next_step, bound_mean, step_mean, loop_mean, is_label, ends_exit, labelled_as, then_leave, is_open, opened, region_in, at_region, caught, behind_wait, receive_with, statement_mean, handler_mean, alternatives_mean, otherwise_mean, statements_mean, action_mean, choices_mean, cases_mean, delay_mean, receive_mean}
use Rattle.code_laws.specs.Counters.{is_other, some_leaves, some_received_leaves, set_leaves, sent_leaves, are_others, control_leaves, statements_leave, statement_leaves, handler_leaves, handled_leave, otherwise_leaves, action_leaves, choices_leave, cases_leave, delays_leave, receives_leave, received_leaves}
use Rattle.code_laws.specs.Leaving.{LeavesLocal, LeavesLaw}
use Rattle.code_laws.proofs.Values.{both_true}
use Rattle.code_laws.proofs.Staying.{StaysBy, Stays, Any, stays_then, moved_on, chosen_stays, other_read, others_differ, OtherAt, other_base, asked_stays, done_stays, computed_stays, rangefail_stays, tested_stays, read_stays, assign_stays, ticks_stay, finish_stays, CallsStay, calls_stay, expr_stays, second_stays, received_stays, all_stay, target_found, start_stays, call_stays}

-- ---- meanings as parts of others

abbrev StaysAll : {A : Type 0} → ℕ → Meaning A → Type 0
StaysAll i part = (store : Store) (s : Session) → Stays i store Any (part store s)

in_local_left : (i k : ℕ) (xs : List ℤ) (store : Store) → not (k == i) ≡ true → local_value (with_local store k xs) i ≡ local_value store i
in_local_left i k xs store other = other_read store.locals k i xs (others_differ k i other)

names_stay : (i : ℕ) (bs : List Base) (xs : List ℤ) (store : Store) (s : Session) → list_all (is_other i) bs ≡ true → Stays i store Any (set_names bs xs store s)
names_stay i [] xs store s others = record { by = (refl, tt) }
names_stay i (b ∷ bs) xs store s others =
    stays_then (assign_stays i (length xs) (address_of b 0) xs store s (other_base i b 0 (both_true _ _ others).0)) (λ z store1 s1 y. names_stay i bs xs store1 s1 (both_true _ _ others).1)

locals_left : (i : ℕ) (ks : List ℕ) (xs : List ℤ) (store : Store) → are_others i ks ≡ true → local_value (set_locals ks xs store) i ≡ local_value store i
locals_left i [] xs store others = refl
locals_left i (k ∷ ks) xs store others = locals_left i ks xs (with_local store k xs) (both_true _ _ others).1 ∙ in_local_left i k xs store (both_true _ _ others).0

spread_left : (i : ℕ) (rows : List LocalRowTree) (ks : List ℕ) (xs : List ℤ) (store : Store) → are_others i ks ≡ true → local_value (spread_over rows ks xs store) i ≡ local_value store i
spread_left i rows [] xs store others = refl
spread_left i rows (k ∷ ks) xs store others =
    let n : ℕ = count_in (slice_get rows k) in
    spread_left i rows ks (drop n xs) (with_local store k (take n xs)) (both_true _ _ others).1 ∙ in_local_left i k (take n xs) store (both_true _ _ others).0

-- ---- SET

abbrev OtherSet : ℕ → Option Address → Type 0
OtherSet i None = Unit {0}
OtherSet i (Some a) = OtherAt i a

set_stays : (i : ℕ) (a : Option Address) (by : ℕ) (store : Store) (s : Session) → OtherSet i a → Stays i store Any (set_to a by store s)
set_stays i None by store s other = record { by = (refl, tt) }
set_stays i (Some a) by store s other = assign_stays i 1 a (one (pos by)) store s other

set_found : (i : ℕ) (v : Setting) (c : CallsStay i v) (set : Option LocationTree) (store : Store) (s : Session) → set_leaves i set ≡ true → Stays i store (OtherSet i) (set_address v set store s)
set_found i v c None store s leaves = record { by = (refl, tt) }
set_found i v c (Some l) store s leaves = stays_then (target_found i v c l store s leaves) (λ a store1 s1 other. record { by = (refl, other) })

wait_stays : (i : ℕ) (a : Option Address) (alternative : ℕ → Meaning (Unit {0})) (none : Meaning (Unit {0})) (come : Come) (store : Store) (s : Session) → OtherSet i a → ((k : ℕ) → StaysAll i (alternative k)) → StaysAll i none → Stays i store Any (behind_wait a alternative none come store s)
wait_stays i a alternative none (comes_to k by) store s other f g = stays_then (set_stays i a by store s other) (λ z store1 s1 y. f k store1 s1)
wait_stays i a alternative none nothing_came store s other f g = g store s

-- what is received goes elsewhere
received_others : (i k : ℕ) (rs : ReceiveNodes) → receives_leave i rs ≡ true → are_others i (received_by k rs) ≡ true
received_others i k no_receives leaves = refl
received_others i zero (more_receives thing is ss rs) leaves = (both_true _ _ leaves).0
received_others i (suc k) (more_receives thing is ss rs) leaves = received_others i k rs (both_true _ _ (both_true _ _ leaves).1).1

taken_stays : (i : ℕ) (rows : List LocalRowTree) (rs : ReceiveNodes) (a : Answer) (store : Store) (s : Session) → receives_leave i rs ≡ true → Stays i store Any (take_in rows rs a store s)
taken_stays i rows rs (Got k number xs by) store s leaves = record { by = (spread_left i rows (received_by k rs) xs store (received_others i k rs leaves), tt) }
taken_stays i rows rs (Value xs) store s leaves = record { by = (refl, tt) }
taken_stays i rows rs Done store s leaves = record { by = (refl, tt) }
taken_stays i rows rs (Woken k by) store s leaves = record { by = (refl, tt) }
taken_stays i rows rs Otherwise store s leaves = record { by = (refl, tt) }
taken_stays i rows rs (Instance q) store s leaves = record { by = (refl, tt) }
taken_stays i rows rs (Fail x) store s leaves = record { by = (refl, tt) }
taken_stays i rows rs (Chose c) store s leaves = record { by = (refl, tt) }
taken_stays i rows rs (Handed q) store s leaves = record { by = (refl, tt) }
taken_stays i rows rs Stored store s leaves = record { by = (refl, tt) }

-- ---- values of actions

bytes_stay : (i : ℕ) (o : Option (List ℕ)) (store : Store) (s : Session) → Stays i store Any (put_bytes o store s)
bytes_stay i None store s = record { by = refl }
bytes_stay i (Some bytes) store s = done_stays i _ store s

sent_to_stays : (i n priority : ℕ) (xs : List ℤ) (o : Option ℕ) (store : Store) (s : Session) → Stays i store Any (send_to n priority xs o store s)
sent_to_stays i n priority xs None store s = record { by = refl }
sent_to_stays i n priority xs (Some to) store s = done_stays i _ store s

signal_stays : (i : ℕ) (v : Setting) (c : CallsStay i v) (n priority : ℕ) (to : Option ExprTree) (xs : List ℤ) (store : Store) (s : Session) → some_leaves i to ≡ true → Stays i store Any (sent_signal v n priority to xs store s)
signal_stays i v c n priority None xs store s leaves = done_stays i _ store s
signal_stays i v c n priority (Some e) xs store s leaves = stays_then (expr_stays i v c e store s leaves) (λ ys store1 s1 z. sent_to_stays i n priority xs (number_of_32 (sole_number ys)) store1 s1)

sent_stays : (i : ℕ) (v : Setting) (c : CallsStay i v) (t : SentTree) (priority : ℕ) (store : Store) (s : Session) → sent_leaves i t ≡ true → Stays i store Any (sent_mean v t priority store s)
sent_stays i v c (to_buffer b r) priority store s leaves = stays_then (received_stays i v c r store s leaves) (λ xs store1 s1 z. done_stays i _ store1 s1)
sent_stays i v c (signal n rs to) priority store s leaves = stays_then (all_stay i v c rs store s (both_true _ _ leaves).0) (λ xs store1 s1 z. signal_stays i v c n priority to xs store1 s1 (both_true _ _ leaves).1)

result_stays : (i : ℕ) (v : Setting) (c : CallsStay i v) (r : ReceivedTree) (store : Store) (s : Session) → received_leaves i r ≡ true → Stays i store Any (result_mean v r store s)
result_stays i v c r store s leaves = stays_then (received_stays i v c r store s leaves) (λ xs store1 s1 z. record { by = (refl, tt) })

return_stays : (i : ℕ) (v : Setting) (c : CallsStay i v) (r : Option ReceivedTree) (store : Store) (s : Session) → some_received_leaves i r ≡ true → Stays i store Any (return_mean v r store s)
return_stays i v c None store s leaves = record { by = refl }
return_stays i v c (Some r) store s leaves = stays_then (result_stays i v c r store s leaves) (λ z store1 s1 y. record { by = refl })

-- ---- loops

turn_stays : {C : Type 0} (i : ℕ) (o : Option C) (body : Meaning (Unit {0})) (again : C → Meaning (Unit {0})) (store : Store) (s : Session) → StaysAll i body → ((c : C) → StaysAll i (again c)) → Stays i store Any (turn_or_end o body again store s)
turn_stays i None body again store s f g = record { by = (refl, tt) }
turn_stays i (Some c) body again store s f g = stays_then (f store s) (λ z store1 s1 y. ticks_stay i (tick s1) store1 Any (λ s2. again c store1 s2) (λ s2. g c store1 s2))

turns_stay : {C : Type 0} (i n : ℕ) (test : C → Meaning (Option C)) (body : Meaning (Unit {0})) (c : C) (store : Store) (s : Session) → ((d : C) → StaysAll i (test d)) → StaysAll i body → Stays i store Any (turns n test body c store s)
turns_stay i zero test body c store s f g = record { by = tt }
turns_stay i (suc n) test body c store s f g = stays_then (f c store s) (λ o store1 s1 z. turn_stays i o body (turns n test body) store1 s1 g (λ d store2 s2. turns_stay i n test body d store2 s2 f g))

where_stays : {C : Type 0} (i : ℕ) (v : Setting) (c : CallsStay i v) (condition : Option ExprTree) (d : C) (store : Store) (s : Session) → some_leaves i condition ≡ true → Stays i store Any (where_holds v condition d store s)
where_stays i v c None d store s leaves = record { by = (refl, tt) }
where_stays i v c (Some e) d store s leaves = stays_then (expr_stays i v c e store s leaves) (λ xs store1 s1 z. record { by = (refl, tt) })

member_stays : (i : ℕ) (v : Setting) (c : CallsStay i v) (counter : ℕ) (low : ℤ) (condition : Option ExprTree) (set : List ℤ) (o : Option ℕ) (store : Store) (s : Session) → not (counter == i) ≡ true → some_leaves i condition ≡ true → Stays i store Any (next_member v counter low condition set o store s)
member_stays i v c counter low condition set None store s other leaves = record { by = (refl, tt) }
member_stays i v c counter low condition set (Some k) store s other leaves =
    stays_then (computed_stays i (member_at low (Some k)) store s) (λ xs store1 s1 z.
    moved_on i store1 (with_local store1 counter xs) Any (where_holds v condition (without_offset k set) (with_local store1 counter xs) s1) (in_local_left i counter xs store1 other) (where_stays i v c condition (without_offset k set) (with_local store1 counter xs) s1 leaves))

step_stays : (i : ℕ) (v : Setting) (c : CallsStay i v) (counter : ℕ) (down : Bool) (by end : ℤ) (condition : Option ExprTree) (value : ℤ) (store : Store) (s : Session) → not (counter == i) ≡ true → some_leaves i condition ≡ true → Stays i store Any (next_step v counter down by end condition value store s)
step_stays i v c counter down by end condition value store s other leaves =
    chosen_stays i store Any (passes_end down value end) (Goes None store s) (where_holds v condition (next_value down value by) (with_local store counter (one value)) s) (record { by = (refl, tt) })
    (moved_on i store (with_local store counter (one value)) Any (where_holds v condition (next_value down value by) (with_local store counter (one value)) s) (in_local_left i counter (one value) store other)
    (where_stays i v c condition (next_value down value by) (with_local store counter (one value)) s leaves))

bound_stays : (i : ℕ) (v : Setting) (c : CallsStay i v) (e : ExprTree) (store : Store) (s : Session) → some_leaves i (Some e) ≡ true → Stays i store Any (bound_mean v e store s)
bound_stays i v c e store s leaves = stays_then (expr_stays i v c e store s leaves) (λ xs store1 s1 z. rangefail_stays i (where_true (is_int (sole_number xs)) (sole_number xs)) store1 s1)

by_stays : (i : ℕ) (v : Setting) (c : CallsStay i v) (step : Option ExprTree) (store : Store) (s : Session) → some_leaves i step ≡ true → Stays i store Any (step_mean v step store s)
by_stays i v c None store s leaves = record { by = (refl, tt) }
by_stays i v c (Some e) store s leaves = stays_then (bound_stays i v c e store s leaves) (λ z store1 s1 y. rangefail_stays i _ store1 s1)

loop_stays : (i : ℕ) (v : Setting) (c : CallsStay i v) (n : ℕ) (control : ControlTree) (body : Meaning (Unit {0})) (store : Store) (s : Session) → control_leaves i control ≡ true → StaysAll i body → Stays i store Any (loop_mean v n control body store s)
loop_stays i v c n (while_true e) body store s leaves f = turns_stay i n (where_holds v (Some e)) body tt store s (λ d store1 s1. where_stays i v c (Some e) d store1 s1 leaves) f
loop_stays i v c n for_ever body store s leaves f = turns_stay i n (where_holds v None) body tt store s (λ d store1 s1. where_stays i v c None d store1 s1 refl) f
loop_stays i v c n (for_members counter e low condition) body store s leaves f =
    let rest = both_true _ _ (both_true _ _ leaves).1 in
    stays_then (expr_stays i v c e store s rest.0) (λ xs store1 s1 z.
    turns_stay i n (λ set. next_member v counter low condition set (first_of_list (offsets_of set))) body xs store1 s1 (λ set store2 s2. member_stays i v c counter low condition set (first_of_list (offsets_of set)) store2 s2 (both_true _ _ leaves).0 rest.1) f)
loop_stays i v c n (for_steps counter e step g down condition) body store s leaves f =
    let rest = both_true _ _ (both_true _ _ leaves).1 in
    stays_then (bound_stays i v c e store s (both_true _ _ rest.0).0) (λ from store1 s1 z.
    stays_then (by_stays i v c step store1 s1 (both_true _ _ rest.0).1) (λ by store2 s2 y.
    stays_then (bound_stays i v c g store2 s2 (both_true _ _ rest.1).0) (λ end store3 s3 x.
    turns_stay i n (next_step v counter down by end condition) body from store3 s3 (λ value store4 s4. step_stays i v c counter down by end condition value store4 s4 (both_true _ _ leaves).0 (both_true _ _ rest.1).1) f)))

-- ---- labels, regions and handlers

exit_by : (i : ℕ) (store : Store) (o : Flow (Unit {0})) → StaysBy i store Any o → StaysBy i store Any (ends_exit o)
exit_by i store (Goes v store1 s) h = h
exit_by i store (Raised x store1 s) h = h
exit_by i store (Exits zero store1 s) h = (h, tt)
exit_by i store (Exits (suc k) store1 s) h = h
exit_by i store (Returned store1 s) h = h
exit_by i store (Stops t inner store1) h = tt
exit_by i store (Gone t) h = tt
exit_by i store Bound h = tt

label_stays : (i : ℕ) (store : Store) (labelled : Bool) (o : Flow (Unit {0})) → Stays i store Any o → Stays i store Any (labelled_as labelled o)
label_stays i store false o h = h
label_stays i store true o h = record { by = exit_by i store o h.by }

leave_by : (i r : ℕ) (store : Store) (o : Flow (Unit {0})) → StaysBy i store Any o → StaysBy i store Any (then_leave r o)
leave_by i r store (Goes v store1 s) h = (moved_on i store store1 Any (done (Leave r) store1 s) h.0 (done_stays i (Leave r) store1 s)).by
leave_by i r store (Raised x store1 s) h =
    (moved_on i store store1 Any (then_do (done (Leave r) store1 s) (λ z. Raised x)) h (stays_then (done_stays i (Leave r) store1 s) (λ z store2 s2 y. record { by = refl }))).by
leave_by i r store (Exits k store1 s) h = h
leave_by i r store (Returned store1 s) h = h
leave_by i r store (Stops t inner store1) h = tt
leave_by i r store (Gone t) h = tt
leave_by i r store Bound h = tt

leave_stays : (i r : ℕ) (store : Store) (o : Flow (Unit {0})) → Stays i store Any o → Stays i store Any (then_leave r o)
leave_stays i r store o h = record { by = leave_by i r store o h.by }

region_stays : (i : ℕ) (o : Option ℕ) (v : Setting) (c : CallsStay i v) (part : Setting → Meaning (Unit {0})) (store : Store) (s : Session) → ((w : Setting) → CallsStay i w → StaysAll i (part w)) → Stays i store Any (at_region o v part store s)
region_stays i None v c part store s f = f v c store s
region_stays i (Some r) v c part store s f =
    chosen_stays i store Any (is_open r v.open_now) (part v store s) (then_do (done (Enter r) store s) (λ z store1 s1. then_leave r (part (opened v r) store1 s1))) (f v c store s)
    (stays_then (done_stays i (Enter r) store s) (λ z store1 s1 y. leave_stays i r store1 (part (opened v r) store1 s1) (f (opened v r) c store1 s1)))

caught_by : (i : ℕ) (store : Store) (o : Flow (Unit {0})) (h : Exc → Meaning (Unit {0})) → StaysBy i store Any o → ((x : Exc) → StaysAll i (h x)) → StaysBy i store Any (caught o h)
caught_by i store (Goes v store1 s) h f g = f
caught_by i store (Raised x store1 s) h f g = (moved_on i store store1 Any (h x store1 s) f (g x store1 s)).by
caught_by i store (Exits k store1 s) h f g = f
caught_by i store (Returned store1 s) h f g = f
caught_by i store (Stops t inner store1) h f g = tt
caught_by i store (Gone t) h f g = tt
caught_by i store Bound h f g = tt

caught_stays : (i : ℕ) (store : Store) (o : Flow (Unit {0})) (h : Exc → Meaning (Unit {0})) → Stays i store Any o → ((x : Exc) → StaysAll i (h x)) → Stays i store Any (caught o h)
caught_stays i store o h f g = record { by = caught_by i store o h f.by g }

-- a wait for a value or a signal
receive_stays : (i : ℕ) (v : Setting) (c : CallsStay i v) (request : Request) (set : Option LocationTree) (rs : ReceiveNodes) (alternative : ℕ → Meaning (Unit {0})) (none : Meaning (Unit {0})) (store : Store) (s : Session)
    → set_leaves i set ≡ true → receives_leave i rs ≡ true → ((k : ℕ) → StaysAll i (alternative k)) → StaysAll i none
    → Stays i store Any (receive_with v request set rs alternative none store s)
receive_stays i v c request set rs alternative none store s set_left left f g =
    stays_then (set_found i v c set store s set_left) (λ a store1 s1 other.
    stays_then (asked_stays i request (receive_counts v.rows rs) store1 s1) (λ answer store2 s2 z.
    stays_then (taken_stays i v.rows rs answer store2 s2 left) (λ come store3 s3 y. wait_stays i a alternative none come store3 s3 other f g)))

-- ---- statements

mutual
  statement_stays : (i : ℕ) (v : Setting) (c : CallsStay i v) (n : ℕ) (a : StatementTree) (store : Store) (s : Session) → statement_leaves i a ≡ true → Stays i store Any (statement_mean v n a store s)
  statement_stays i v c n (statement labelled a h) store s leaves =
      label_stays i store (is_label labelled a) (at_region (region_in a) v (λ w store1 s1. caught (action_mean w n a store1 s1) (handler_mean w n h)) store s)
      (region_stays i (region_in a) v c (λ w store1 s1. caught (action_mean w n a store1 s1) (handler_mean w n h)) store s
      (λ w d store1 s1. caught_stays i store1 (action_mean w n a store1 s1) (handler_mean w n h) (action_stays i w d n a store1 s1 (both_true _ _ leaves).0) (λ x store2 s2. handler_stays i w d n h x store2 s2 (both_true _ _ leaves).1)))

  handler_stays : (i : ℕ) (v : Setting) (c : CallsStay i v) (n : ℕ) (h : HandlerNode) (x : Exc) (store : Store) (s : Session) → handler_leaves i h ≡ true → Stays i store Any (handler_mean v n h x store s)
  handler_stays i v c n no_handler x store s leaves = record { by = refl }
  handler_stays i v c n (handler hs o) x store s leaves =
      handled_stay i v c n hs (otherwise_mean v n o (Raised x)) x store s (both_true _ _ leaves).0 (λ store1 s1. otherwise_stays i v c n o (Raised x) store1 s1 (both_true _ _ leaves).1 (λ store2 s2. record { by = refl }))

  handled_stay : (i : ℕ) (v : Setting) (c : CallsStay i v) (n : ℕ) (hs : HandledNodes) (last : Meaning (Unit {0})) (x : Exc) (store : Store) (s : Session) → handled_leave i hs ≡ true → StaysAll i last → Stays i store Any (alternatives_mean v n hs last x store s)
  handled_stay i v c n no_handled last x store s leaves f = f store s
  handled_stay i v c n (more_handled names ss hs) last x store s leaves f =
      chosen_stays i store Any (names_exception names x) (statements_mean v n ss store s) (alternatives_mean v n hs last x store s)
      (statements_stay i v c n ss store s (both_true _ _ leaves).0) (handled_stay i v c n hs last x store s (both_true _ _ leaves).1 f)

  otherwise_stays : (i : ℕ) (v : Setting) (c : CallsStay i v) (n : ℕ) (o : OtherwiseNode) (none : Meaning (Unit {0})) (store : Store) (s : Session) → otherwise_leaves i o ≡ true → StaysAll i none → Stays i store Any (otherwise_mean v n o none store s)
  otherwise_stays i v c n no_otherwise none store s leaves f = f store s
  otherwise_stays i v c n (otherwise ss) none store s leaves f = statements_stay i v c n ss store s leaves

  statements_stay : (i : ℕ) (v : Setting) (c : CallsStay i v) (n : ℕ) (ss : StatementNodes) (store : Store) (s : Session) → statements_leave i ss ≡ true → Stays i store Any (statements_mean v n ss store s)
  statements_stay i v c n no_statements store s leaves = record { by = (refl, tt) }
  statements_stay i v c n (more_statements a ss) store s leaves =
      stays_then (statement_stays i v c n a store s (both_true _ _ leaves).0) (λ z store1 s1 y. statements_stay i v c n ss store1 s1 (both_true _ _ leaves).1)

  action_stays : (i : ℕ) (v : Setting) (c : CallsStay i v) (n : ℕ) (a : ActionTree) (store : Store) (s : Session) → action_leaves i a ≡ true → Stays i store Any (action_mean v n a store s)
  action_stays i v c n do_nothing store s leaves = record { by = (refl, tt) }
  action_stays i v c n (declare names r) store s leaves = stays_then (received_stays i v c r store s (both_true _ _ leaves).1) (λ xs store1 s1 z. names_stay i names xs store1 s1 (both_true _ _ leaves).0)
  action_stays i v c n (set_lowest locals xs) store s leaves = record { by = (locals_left i locals xs store leaves, tt) }
  action_stays i v c n (module_at ss) store s leaves = statements_stay i v c n ss store s leaves
  action_stays i v c n (region_at r ss) store s leaves = statements_stay i v c n ss store s leaves
  action_stays i v c n (assign l r) store s leaves =
      stays_then (target_found i v c l store s (both_true _ _ leaves).0) (λ a store1 s1 other.
      stays_then (received_stays i v c r store1 s1 (both_true _ _ leaves).1) (λ xs store2 s2 z. assign_stays i (location_count l) a xs store2 s2 other))
  action_stays i v c n (update l o e bounds) store s leaves =
      stays_then (target_found i v c l store s (both_true _ _ leaves).0) (λ a store1 s1 other.
      stays_then (read_stays i (location_count l) a store1 s1) (λ xs store2 s2 z.
      stays_then (second_stays i o xs (expr_mean v e) store2 s2 (expr_stays i v c e store2 s2 (both_true _ _ leaves).1)) (λ ys store3 s3 y.
      stays_then (tested_stays i bounds ys store3 s3) (λ zs store4 s4 x. assign_stays i (location_count l) a zs store4 s4 other))))
  action_stays i v c n (perform t) store s leaves = stays_then (call_stays i v c t store s leaves) (λ xs store1 s1 z. record { by = (refl, tt) })
  action_stays i v c n (drop_routine r e) store s leaves =
      stays_then (expr_stays i v c e store s leaves) (λ xs store1 s1 z. stays_then (computed_stays i (routine_value r xs) store1 s1) (λ ys store2 s2 y. record { by = (refl, tt) }))
  action_stays i v c n (evaluate e) store s leaves = stays_then (expr_stays i v c e store s leaves) (λ xs store1 s1 z. record { by = (refl, tt) })
  action_stays i v c n (put_int e) store s leaves = stays_then (expr_stays i v c e store s leaves) (λ xs store1 s1 z. done_stays i _ store1 s1)
  action_stays i v c n (put_text e) store s leaves = stays_then (expr_stays i v c e store s leaves) (λ xs store1 s1 z. bytes_stay i (bytes_of xs) store1 s1)
  action_stays i v c n put_line store s leaves = done_stays i _ store s
  action_stays i v c n (exit_from k) store s leaves = record { by = refl }
  action_stays i v c n (return_with r) store s leaves = return_stays i v c r store s leaves
  action_stays i v c n (set_result r) store s leaves = result_stays i v c r store s leaves
  action_stays i v c n (assert_that e) store s leaves =
      stays_then (expr_stays i v c e store s leaves) (λ xs store1 s1 z. chosen_stays i store1 Any (is_true xs) (Goes tt store1 s1) (Raised Assertfail store1 s1) (record { by = (refl, tt) }) (record { by = refl }))
  action_stays i v c n (cause x) store s leaves = record { by = refl }
  action_stays i v c n stop store s leaves = finish_stays (Unit {0}) i Stopped [] store s Any
  action_stays i v c n (start_of t) store s leaves = stays_then (start_stays i v c t store s leaves) (λ xs store1 s1 z. record { by = (refl, tt) })
  action_stays i v c n (delay e priority) store s leaves = done_stays i _ store s
  action_stays i v c n (continue_at e) store s leaves = done_stays i _ store s
  action_stays i v c n (send sent priority) store s leaves = sent_stays i v c sent priority store s leaves
  action_stays i v c n (if_then cs ss) store s leaves = choices_stay i v c n cs (statements_mean v n ss) store s (both_true _ _ leaves).0 (λ store1 s1. statements_stay i v c n ss store1 s1 (both_true _ _ leaves).1)
  action_stays i v c n (case_of e cs o) store s leaves =
      stays_then (expr_stays i v c e store s (both_true _ _ leaves).0) (λ xs store1 s1 z.
      cases_stay i v c n cs (otherwise_mean v n o (Raised Rangefail)) (sole_number xs) store1 s1 (both_true _ _ (both_true _ _ leaves).1).0 (λ store2 s2. otherwise_stays i v c n o (Raised Rangefail) store2 s2 (both_true _ _ (both_true _ _ leaves).1).1 (λ store3 s3. record { by = refl })))
  action_stays i v c n (do_loop control ss) store s leaves = loop_stays i v c n control (statements_mean v n ss) store s (both_true _ _ leaves).0 (λ store1 s1. statements_stay i v c n ss store1 s1 (both_true _ _ leaves).1)
  action_stays i v c n (begin_end ss) store s leaves = statements_stay i v c n ss store s leaves
  action_stays i v c n (delay_case set priority ds) store s leaves =
      stays_then (set_found i v c set store s (both_true _ _ leaves).0) (λ a store1 s1 other.
      stays_then (asked_stays i _ [] store1 s1) (λ answer store2 s2 z. wait_stays i a (delay_mean v n ds) skip (woken_as answer) store2 s2 other (λ k store3 s3. delays_stay i v c n ds k store3 s3 (both_true _ _ leaves).1) (λ store3 s3. record { by = (refl, tt) })))
  action_stays i v c n (receive_buffers set rs o) store s leaves =
      receive_stays i v c (ReceiveBuffer (receive_list 0 rs) (is_written o)) set rs (receive_mean v n rs) (otherwise_mean v n o skip) store s (both_true _ _ leaves).0 (both_true _ _ (both_true _ _ leaves).1).0
      (λ k store1 s1. receives_stay i v c n rs k store1 s1 (both_true _ _ (both_true _ _ leaves).1).0)
      (λ store1 s1. otherwise_stays i v c n o skip store1 s1 (both_true _ _ (both_true _ _ leaves).1).1 (λ store2 s2. record { by = (refl, tt) }))
  action_stays i v c n (receive_signals set rs o) store s leaves =
      receive_stays i v c (ReceiveSignal (receive_list 0 rs) (is_written o)) set rs (receive_mean v n rs) (otherwise_mean v n o skip) store s (both_true _ _ leaves).0 (both_true _ _ (both_true _ _ leaves).1).0
      (λ k store1 s1. receives_stay i v c n rs k store1 s1 (both_true _ _ (both_true _ _ leaves).1).0)
      (λ store1 s1. otherwise_stays i v c n o skip store1 s1 (both_true _ _ (both_true _ _ leaves).1).1 (λ store2 s2. record { by = (refl, tt) }))

  choices_stay : (i : ℕ) (v : Setting) (c : CallsStay i v) (n : ℕ) (cs : ChoiceNodes) (last : Meaning (Unit {0})) (store : Store) (s : Session) → choices_leave i cs ≡ true → StaysAll i last → Stays i store Any (choices_mean v n cs last store s)
  choices_stay i v c n no_choices last store s leaves f = f store s
  choices_stay i v c n (more_choices e ss cs) last store s leaves f =
      stays_then (expr_stays i v c e store s (both_true _ _ leaves).0) (λ xs store1 s1 z.
      chosen_stays i store1 Any (is_true xs) (statements_mean v n ss store1 s1) (choices_mean v n cs last store1 s1)
      (statements_stay i v c n ss store1 s1 (both_true _ _ (both_true _ _ leaves).1).0) (choices_stay i v c n cs last store1 s1 (both_true _ _ (both_true _ _ leaves).1).1 f))

  cases_stay : (i : ℕ) (v : Setting) (c : CallsStay i v) (n : ℕ) (cs : CaseNodes) (last : Meaning (Unit {0})) (x : ℤ) (store : Store) (s : Session) → cases_leave i cs ≡ true → StaysAll i last → Stays i store Any (cases_mean v n cs last x store s)
  cases_stay i v c n no_cases last x store s leaves f = f store s
  cases_stay i v c n (more_cases labels ss cs) last x store s leaves f =
      chosen_stays i store Any (holds_one x labels) (statements_mean v n ss store s) (cases_mean v n cs last x store s)
      (statements_stay i v c n ss store s (both_true _ _ leaves).0) (cases_stay i v c n cs last x store s (both_true _ _ leaves).1 f)

  delays_stay : (i : ℕ) (v : Setting) (c : CallsStay i v) (n : ℕ) (ds : DelayNodes) (k : ℕ) (store : Store) (s : Session) → delays_leave i ds ≡ true → Stays i store Any (delay_mean v n ds k store s)
  delays_stay i v c n no_delays k store s leaves = record { by = (refl, tt) }
  delays_stay i v c n (more_delays es ss ds) zero store s leaves = statements_stay i v c n ss store s (both_true _ _ leaves).0
  delays_stay i v c n (more_delays es ss ds) (suc k) store s leaves = delays_stay i v c n ds k store s (both_true _ _ leaves).1

  receives_stay : (i : ℕ) (v : Setting) (c : CallsStay i v) (n : ℕ) (rs : ReceiveNodes) (k : ℕ) (store : Store) (s : Session) → receives_leave i rs ≡ true → Stays i store Any (receive_mean v n rs k store s)
  receives_stay i v c n no_receives k store s leaves = record { by = (refl, tt) }
  receives_stay i v c n (more_receives thing is ss rs) zero store s leaves = statements_stay i v c n ss store s (both_true _ _ (both_true _ _ leaves).1).0
  receives_stay i v c n (more_receives thing is ss rs) (suc k) store s leaves = receives_stay i v c n rs k store s (both_true _ _ (both_true _ _ leaves).1).1

-- ---- the law

left_alone : {A : Type 0} (i : ℕ) (store : Store) (o : Flow A) → StaysBy i store Any o → LeavesLocal i store o
left_alone i store (Goes v store1 s) h = h.0
left_alone i store (Raised x store1 s) h = h
left_alone i store (Exits k store1 s) h = h
left_alone i store (Returned store1 s) h = h
left_alone i store (Stops t inner store1) h = tt
left_alone i store (Gone t) h = tt
left_alone i store Bound h = tt

pub leaves_law : LeavesLaw
leaves_law =
    record {
      expressions = λ p bodies frames i v e store s is leaves. left_alone i store (expr_mean v e store s) (expr_stays i v (calls_stay p bodies frames i v is) e store s leaves).by;
      statements = λ p bodies frames i n v ss store s is leaves. left_alone i store (statements_mean v n ss store s) (statements_stay i v (calls_stay p bodies frames i v is) n ss store s leaves).by;
    }

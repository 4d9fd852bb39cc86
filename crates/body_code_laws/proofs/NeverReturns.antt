-- Statements that are typed outside procedures never return.
use Rattle.std.proofs.Common.{◌≡◌, ℕ, zero, suc, ◌+◌, if◌then◌else◌, Bool, true, false, nat_lt, List, [], ◌∷◌, ℤ, nat_abs, Option, Some, None, slice_get, refl, sym, ◌∙◌, subst, pos, length}
use Rattle.kernel_base.specs.declared.ends.Exc.TheVariants.{Rangefail, Spacefail, Assertfail}
use Rattle.kernel_base.specs.declared.ends.How.{How}
use Rattle.kernel_base.specs.declared.ends.How.TheVariants.{Raised as RaisedHow, Stopped}
use Rattle.kernel_base.specs.declared.request.Request.{Request}
use Rattle.kernel_base.specs.declared.request.Request.TheVariants.{End, Enter, Leave, ReceiveBuffer, ReceiveSignal}
use Rattle.kernel_base.specs.declared.answer.Answer.TheVariants.{Value, Done, Woken, Got, Otherwise, Instance, Fail, Chose, Handed, Stored}
use Rattle.world_model.specs.Session.{Session, Ticked, GoesOn, Last, tick}
use Rattle.modes.specs.declared.mode.Bounds.{Bounds}
use Rattle.scalar_operators.specs.Numbers.{is_between, is_int, where_true}
use Rattle.checked_program.specs.declared.expr.Base.{Base}
use Rattle.checked_program.specs.declared.expr.Binary.{Binary}
use Rattle.code_types.specs.Actions.{most_frames}
use Rattle.program_trees.specs.ExprTree.{ExprTree, expr, OperationTree, constant, own_instance, contents, part_of, receive, start, call, powerset, parts, uniform, routine, get_int, prefixed, binary, ReceivedTree, received, ReceivedNodes, no_received, more_received, PartNodes, no_parts, field, element, RangeNodes, no_ranges, one_member, members, LocationTree, location, StartTree, started, CallTree, called, ArgumentNodes, no_arguments, in_argument, out_argument, inout_argument, location_count}
use Rattle.program_trees.specs.ProgramTree.{BodyRowTree, CheckedTree, LocalRowTree}
use Rattle.source_meaning.specs.Store.{Store, OpenCall, Taken, Address, in_local, in_shared, address_of, with_local}
use Rattle.source_meaning.specs.Flow.{Flow, Goes, Raised, Exits, Returned, Stops, Gone, Bound, Meaning, then_do, Reply, Given, Halts, reply, asked_in, asked, done, finished, finish, after_tick}
use Rattle.source_meaning.specs.Operators.{Computed, Yields, Throws, sole_number, offset_within, takes_second, binary_value, prefix_value, routine_value, empty_within, with_span, one, is_true, member_at, without_offset}
use Rattle.source_meaning.specs.ExprMeaning.{Setting, as_computed, or_rangefail, tested, read_at, assign_at, asked_value, CopyOut, Passed, copied_out, all_copied_out, binary_with, expr_mean, operation_mean, received_mean, all_received_mean, offset_mean, location_mean, members_mean, start_mean, call_mean, arguments_mean, place_mean}
use Rattle.source_meaning.specs.BodyMeaning.{Ending, Through, Out, Halted, Ended, Unknown, Bodies, at_call, calls_in, listed_by}
use Rattle.code_types.specs.Places.{names_exception}
use Rattle.kernel_base.specs.declared.ends.Exc.{Exc}
use Rattle.kernel_base.specs.declared.answer.Answer.{Answer}
use Rattle.scalar_operators.specs.Powersets.{first_of_list}
use Rattle.scalar_operators.specs.Members.{offsets_of}
use Rattle.code_types.specs.Operands.{number_in as number_of_32, bytes_of}
use Rattle.program_trees.specs.StatementTree.{SentTree, to_buffer, signal, ControlTree, while_true, for_ever, for_members, for_steps, StatementTree, statement, ActionTree, do_nothing, declare, set_lowest, module_at, region_at, assign, update, perform, drop_routine, evaluate, put_int, put_text, put_line, exit_from, return_with, set_result, assert_that, cause, stop, start_of, delay, continue_at, send, if_then, case_of, do_loop, begin_end, delay_case, receive_buffers, receive_signals, StatementNodes, no_statements, more_statements, ChoiceNodes, no_choices, more_choices, CaseNodes, no_cases, more_cases, DelayNodes, no_delays, more_delays, ReceiveNodes, no_receives, more_receives, OtherwiseNode, no_otherwise, otherwise, HandledNodes, no_handled, more_handled, HandlerNode, no_handler, handler}
use Rattle.source_meaning.specs.StatementMeaning.{skip, set_names, set_to, set_address, put_bytes, send_to, sent_signal, sent_mean, holds_one, receive_list, receive_counts, is_written, Come, comes_to, nothing_came, take_in, woken_as, turn_or_end, turns, where_holds, next_member, passes_end, next_value, next_step, bound_mean, step_mean, loop_mean, is_label, ends_exit, labelled_as, then_leave, is_open, opened, region_in, at_region, caught, behind_wait, receive_with, statement_mean, handler_mean, alternatives_mean, otherwise_mean, statements_mean, action_mean, choices_mean, cases_mean, delay_mean, receive_mean}
use Rattle.source_meaning.specs.TypedStatements.{Around, labelled_around, around_in, around_action, around_handler, in_region_around, IsTypedStatement, AreTyped, IsTypedHandler, AreTypedAlternatives, IsTypedOtherwise, IsTypedAction, AreTypedChoices, AreTypedCases, AreTypedDelays, AreTypedReceives, BufferBrings, SignalHas}
use Rattle.checked_program.specs.declared.program.Sort.TheVariants.{Procedure}
use Rattle.body_code_laws.specs.Initialisations.{ReturnsNever}

-- a part that doesn't return
abbrev QuietBy : {A : Type 0} → Flow A → Type 0
QuietBy (Goes v store s) = Unit {0}
QuietBy (Raised x store s) = Unit {0}
QuietBy (Exits k store s) = Unit {0}
QuietBy (Returned store s) = ⊥
QuietBy (Stops t inner store) = Unit {0}
QuietBy (Gone t) = Unit {0}
QuietBy Bound = Unit {0}

record Quiet {A : Type 0} (o : Flow A) : Type 0 where
  by : QuietBy o

abbrev QuietAll : {A : Type 0} → Meaning A → Type 0
QuietAll part = (store : Store) (s : Session) → Quiet (part store s)

then_by : {A B : Type 0} (o : Flow A) (next : A → Meaning B) → QuietBy o → ((v : A) (store : Store) (s : Session) → Quiet (next v store s)) → QuietBy (then_do o next)
then_by (Goes v store s) next h f = (f v store s).by
then_by (Raised x store s) next h f = tt
then_by (Exits k store s) next h f = tt
then_by (Returned store s) next h f = h
then_by (Stops t inner store) next h f = tt
then_by (Gone t) next h f = tt
then_by Bound next h f = tt

quiet_then : {A B : Type 0} {o : Flow A} {next : A → Meaning B} → Quiet o → ((v : A) (store : Store) (s : Session) → Quiet (next v store s)) → Quiet (then_do o next)
quiet_then {A} {B} {o} {next} h f = record { by = then_by o next h.by f }

chosen : {A : Type 0} (t : Bool) (o p : Flow A) → Quiet o → Quiet p → Quiet (if t then o else p)
chosen true o p f g = f
chosen false o p f g = g

-- ---- pieces

asked_in_quiet : (store : Store) (r : Reply) → Quiet (asked_in r store)
asked_in_quiet store (Given (Fail x) s) = record { by = tt }
asked_in_quiet store (Given (Value xs) s) = record { by = tt }
asked_in_quiet store (Given Done s) = record { by = tt }
asked_in_quiet store (Given (Woken k by) s) = record { by = tt }
asked_in_quiet store (Given (Got k n xs by) s) = record { by = tt }
asked_in_quiet store (Given Otherwise s) = record { by = tt }
asked_in_quiet store (Given (Instance q) s) = record { by = tt }
asked_in_quiet store (Given (Chose c) s) = record { by = tt }
asked_in_quiet store (Given (Handed q) s) = record { by = tt }
asked_in_quiet store (Given Stored s) = record { by = tt }
asked_in_quiet store (Halts t) = record { by = tt }

asked_quiet : (request : Request) (counts : List ℕ) (store : Store) (s : Session) → Quiet (asked request counts store s)
asked_quiet request counts store s = asked_in_quiet store (reply request counts s)

done_quiet : (request : Request) (store : Store) (s : Session) → Quiet (done request store s)
done_quiet request store s = quiet_then (asked_quiet request [] store s) (λ a store1 s1. record { by = tt })

asked_value_quiet : (request : Request) (counts : List ℕ) (store : Store) (s : Session) → Quiet (asked_value request counts store s)
asked_value_quiet request counts store s = quiet_then (asked_quiet request counts store s) (λ a store1 s1. record { by = tt })

computed_quiet : (o : Computed) (store : Store) (s : Session) → Quiet (as_computed o store s)
computed_quiet (Yields xs) store s = record { by = tt }
computed_quiet (Throws x) store s = record { by = tt }

rangefail_quiet : {A : Type 0} (o : Option A) (store : Store) (s : Session) → Quiet (or_rangefail o store s)
rangefail_quiet (Some v) store s = record { by = tt }
rangefail_quiet None store s = record { by = tt }

tested_quiet : (b : Option Bounds) (xs : List ℤ) (store : Store) (s : Session) → Quiet (tested b xs store s)
tested_quiet None xs store s = record { by = tt }
tested_quiet (Some b) xs store s = chosen (is_between b.low b.high (sole_number xs)) (Goes xs store s) (Raised Rangefail store s) (record { by = tt }) (record { by = tt })

read_quiet : (n : ℕ) (a : Address) (store : Store) (s : Session) → Quiet (read_at n a store s)
read_quiet n (in_local k first) store s = record { by = tt }
read_quiet n (in_shared l first) store s = asked_value_quiet _ [] store s

assign_quiet : (n : ℕ) (a : Address) (xs : List ℤ) (store : Store) (s : Session) → Quiet (assign_at n a xs store s)
assign_quiet n (in_local k first) xs store s = record { by = tt }
assign_quiet n (in_shared l first) xs store s = done_quiet _ store s

ticks_quiet : {A : Type 0} (t : Ticked) (store : Store) (next : Session → Flow A) → ((s : Session) → Quiet (next s)) → Quiet (after_tick t store next)
ticks_quiet (GoesOn s) store next f = f s
ticks_quiet (Last t) store next f = record { by = tt }

finish_quiet : (A : Type 0) (how : How) (inner : List OpenCall) (store : Store) (s : Session) → Quiet (finish {A = A} how inner store s)
finish_quiet A how inner store s = by_reply (reply (End how) [] s)
  where
    by_reply : (r : Reply) → Quiet (finished {A = A} r inner store)
    by_reply (Given a s1) = record { by = tt }
    by_reply (Halts t) = record { by = tt }

-- ---- calls

abbrev CallsQuiet : Setting → Type 0
CallsQuiet v = (open_now : List ℕ) (b : ℕ) (ts : List Taken) (store : Store) (s : Session) → Quiet (v.calls open_now b ts store s)

at_call_quiet : (b : ℕ) (o : Option BodyRowTree) (store : Store) (e : Ending) → Quiet (at_call b o store e)
at_call_quiet b o store (Through inner s) = record { by = tt }
at_call_quiet b o store (Out x inner s) =
    chosen (names_exception (listed_by o) x) (Raised x store s) (finish (RaisedHow x) (record { body = b; store = inner } ∷ []) store s)
    (record { by = tt }) (finish_quiet Store (RaisedHow x) (record { body = b; store = inner } ∷ []) store s)
at_call_quiet b o store (Halted t calls inner) = record { by = tt }
at_call_quiet b o store (Ended t) = record { by = tt }
at_call_quiet b o store Unknown = record { by = tt }

calls_quiet : (p : CheckedTree) (bodies : Bodies) (frames : ℕ) (v : Setting) → v.calls ≡ calls_in p bodies frames → CallsQuiet v
calls_quiet p bodies frames v is open_now b ts store s =
    subst (λ calls. Quiet (calls open_now b ts store s)) (sym is)
    (chosen (nat_lt frames most_frames) (after_tick (tick s) store (λ s1. at_call b (slice_get p.bodies b) store (bodies b (frames + 1) open_now ts s1))) (Raised Spacefail store s)
    (ticks_quiet (tick s) store (λ s1. at_call b (slice_get p.bodies b) store (bodies b (frames + 1) open_now ts s1)) (λ s1. at_call_quiet b (slice_get p.bodies b) store (bodies b (frames + 1) open_now ts s1)))
    (record { by = tt }))

copied_quiet : (c : Option CopyOut) (xs : List ℤ) (store : Store) (s : Session) → Quiet (copied_out c xs store s)
copied_quiet None xs store s = record { by = tt }
copied_quiet (Some c) xs store s = quiet_then (tested_quiet c.bounds xs store s) (λ ys store1 s1. assign_quiet c.count c.address ys store1 s1)

copies_quiet : (qs : List Passed) (values : List (List ℤ)) (store : Store) (s : Session) → Quiet (all_copied_out qs values store s)
copies_quiet [] values store s = record { by = tt }
copies_quiet (q ∷ qs) [] store s = record { by = tt }
copies_quiet (q ∷ qs) (xs ∷ values) store s = quiet_then (copied_quiet q.copy_out xs store s) (λ z store1 s1. copies_quiet qs values store1 s1)

second_quiet : (o : Binary) (xs : List ℤ) (second : Meaning (List ℤ)) (store : Store) (s : Session) → Quiet (second store s) → Quiet (binary_with o xs second store s)
second_quiet o xs second store s h =
    chosen (takes_second o xs) (then_do (second store s) (λ ys. as_computed (binary_value o xs ys))) (Goes xs store s)
    (quiet_then h (λ ys store1 s1. computed_quiet (binary_value o xs ys) store1 s1)) (record { by = tt })

-- ---- expressions

mutual
  expr_quiet : (v : Setting) (c : CallsQuiet v) (e : ExprTree) (store : Store) (s : Session) → Quiet (expr_mean v e store s)
  expr_quiet v c (expr n own o) store s = operation_quiet v c n o store s

  operation_quiet : (v : Setting) (c : CallsQuiet v) (n : ℕ) (o : OperationTree) (store : Store) (s : Session) → Quiet (operation_mean v n o store s)
  operation_quiet v c n (constant xs) store s = record { by = tt }
  operation_quiet v c n own_instance store s = record { by = tt }
  operation_quiet v c n (contents l) store s = quiet_then (place_quiet v c l store s) (λ a store1 s1. read_quiet n a store1 s1)
  operation_quiet v c n (part_of e ps) store s =
      quiet_then (expr_quiet v c e store s) (λ xs store1 s1. quiet_then (offset_quiet v c ps 0 store1 s1) (λ k store2 s2. record { by = tt }))
  operation_quiet v c n (receive b) store s = asked_value_quiet _ (n ∷ []) store s
  operation_quiet v c n (start t) store s = start_quiet v c t store s
  operation_quiet v c n (call t) store s = call_quiet v c t store s
  operation_quiet v c n (powerset b rs) store s = members_quiet v c b rs (empty_within b) store s
  operation_quiet v c n (parts rs) store s = all_quiet v c rs store s
  operation_quiet v c n (uniform m r) store s = quiet_then (received_quiet v c r store s) (λ xs store1 s1. record { by = tt })
  operation_quiet v c n (routine r e) store s = quiet_then (expr_quiet v c e store s) (λ xs store1 s1. computed_quiet (routine_value r xs) store1 s1)
  operation_quiet v c n get_int store s = asked_value_quiet _ [] store s
  operation_quiet v c n (prefixed o e) store s = quiet_then (expr_quiet v c e store s) (λ xs store1 s1. computed_quiet (prefix_value o xs) store1 s1)
  operation_quiet v c n (binary o a b) store s =
      quiet_then (expr_quiet v c a store s) (λ xs store1 s1. second_quiet o xs (expr_mean v b) store1 s1 (expr_quiet v c b store1 s1))

  received_quiet : (v : Setting) (c : CallsQuiet v) (r : ReceivedTree) (store : Store) (s : Session) → Quiet (received_mean v r store s)
  received_quiet v c (received e b) store s = quiet_then (expr_quiet v c e store s) (λ xs store1 s1. tested_quiet b xs store1 s1)

  all_quiet : (v : Setting) (c : CallsQuiet v) (rs : ReceivedNodes) (store : Store) (s : Session) → Quiet (all_received_mean v rs store s)
  all_quiet v c no_received store s = record { by = tt }
  all_quiet v c (more_received r rs) store s =
      quiet_then (received_quiet v c r store s) (λ xs store1 s1. quiet_then (all_quiet v c rs store1 s1) (λ ys store2 s2. record { by = tt }))

  offset_quiet : (v : Setting) (c : CallsQuiet v) (ps : PartNodes) (k : ℕ) (store : Store) (s : Session) → Quiet (offset_mean v ps k store s)
  offset_quiet v c no_parts k store s = record { by = tt }
  offset_quiet v c (field first count ps) k store s = offset_quiet v c ps (k + first) store s
  offset_quiet v c (element e b count ps) k store s =
      quiet_then (expr_quiet v c e store s) (λ xs store1 s1.
      quiet_then (rangefail_quiet (offset_within b count (sole_number xs)) store1 s1) (λ j store2 s2. offset_quiet v c ps (k + nat_abs j) store2 s2))

  place_quiet : (v : Setting) (c : CallsQuiet v) (l : LocationTree) (store : Store) (s : Session) → Quiet (location_mean v l store s)
  place_quiet v c (location b ps n) store s = quiet_then (offset_quiet v c ps 0 store s) (λ k store1 s1. record { by = tt })

  members_quiet : (v : Setting) (c : CallsQuiet v) (b : Bounds) (rs : RangeNodes) (set : List ℤ) (store : Store) (s : Session) → Quiet (members_mean v b rs set store s)
  members_quiet v c b no_ranges set store s = record { by = tt }
  members_quiet v c b (one_member e rs) set store s =
      quiet_then (expr_quiet v c e store s) (λ xs store1 s1.
      quiet_then (rangefail_quiet (offset_within b 1 (sole_number xs)) store1 s1) (λ k store2 s2. members_quiet v c b rs (with_span b k k set) store2 s2))
  members_quiet v c b (members e f rs) set store s =
      quiet_then (expr_quiet v c e store s) (λ xs store1 s1.
      quiet_then (rangefail_quiet (offset_within b 1 (sole_number xs)) store1 s1) (λ j store2 s2.
      quiet_then (expr_quiet v c f store2 s2) (λ ys store3 s3.
      quiet_then (rangefail_quiet (offset_within b 1 (sole_number ys)) store3 s3) (λ k store4 s4. members_quiet v c b rs (with_span b j k set) store4 s4))))

  start_quiet : (v : Setting) (c : CallsQuiet v) (t : StartTree) (store : Store) (s : Session) → Quiet (start_mean v t store s)
  start_quiet v c (started p rs) store s = quiet_then (all_quiet v c rs store s) (λ xs store1 s1. asked_value_quiet _ [] store1 s1)

  call_quiet : (v : Setting) (c : CallsQuiet v) (t : CallTree) (store : Store) (s : Session) → Quiet (call_mean v t store s)
  call_quiet v c (called b as') store s =
      quiet_then (arguments_quiet v c as' store s) (λ qs store1 s1.
      quiet_then (c v.open_now b _ store1 s1) (λ final store2 s2. quiet_then (copies_quiet qs final.locals store2 s2) (λ y store3 s3. record { by = tt })))

  arguments_quiet : (v : Setting) (c : CallsQuiet v) (as' : ArgumentNodes) (store : Store) (s : Session) → Quiet (arguments_mean v as' store s)
  arguments_quiet v c no_arguments store s = record { by = tt }
  arguments_quiet v c (in_argument r as') store s =
      quiet_then (received_quiet v c r store s) (λ xs store1 s1. quiet_then (arguments_quiet v c as' store1 s1) (λ qs store2 s2. record { by = tt }))
  arguments_quiet v c (out_argument l b as') store s =
      quiet_then (copy_quiet v c l b store s) (λ place store1 s1. quiet_then (arguments_quiet v c as' store1 s1) (λ qs store2 s2. record { by = tt }))
  arguments_quiet v c (inout_argument l t b as') store s =
      quiet_then (copy_quiet v c l b store s) (λ place store1 s1.
      quiet_then (read_quiet place.count place.address store1 s1) (λ xs store2 s2.
      quiet_then (tested_quiet t xs store2 s2) (λ ys store3 s3. quiet_then (arguments_quiet v c as' store3 s3) (λ qs store4 s4. record { by = tt }))))

  copy_quiet : (v : Setting) (c : CallsQuiet v) (l : LocationTree) (bounds : Option Bounds) (store : Store) (s : Session) → Quiet (place_mean v l bounds store s)
  copy_quiet v c (location b ps n) bounds store s = quiet_then (offset_quiet v c ps 0 store s) (λ k store1 s1. record { by = tt })

-- ---- parts of actions

names_quiet : (bs : List Base) (xs : List ℤ) (store : Store) (s : Session) → Quiet (set_names bs xs store s)
names_quiet [] xs store s = record { by = tt }
names_quiet (b ∷ bs) xs store s = quiet_then (assign_quiet (length xs) (address_of b 0) xs store s) (λ z store1 s1. names_quiet bs xs store1 s1)

set_quiet : (a : Option Address) (by : ℕ) (store : Store) (s : Session) → Quiet (set_to a by store s)
set_quiet None by store s = record { by = tt }
set_quiet (Some a) by store s = assign_quiet 1 a (one (pos by)) store s

set_found : (v : Setting) (c : CallsQuiet v) (set : Option LocationTree) (store : Store) (s : Session) → Quiet (set_address v set store s)
set_found v c None store s = record { by = tt }
set_found v c (Some l) store s = quiet_then (place_quiet v c l store s) (λ a store1 s1. record { by = tt })

wait_quiet : (a : Option Address) (alternative : ℕ → Meaning (Unit {0})) (none : Meaning (Unit {0})) (come : Come) (store : Store) (s : Session) → ((k : ℕ) → QuietAll (alternative k)) → QuietAll none → Quiet (behind_wait a alternative none come store s)
wait_quiet a alternative none (comes_to k by) store s f g = quiet_then (set_quiet a by store s) (λ z store1 s1. f k store1 s1)
wait_quiet a alternative none nothing_came store s f g = g store s

taken_quiet : (rows : List LocalRowTree) (rs : ReceiveNodes) (a : Answer) (store : Store) (s : Session) → Quiet (take_in rows rs a store s)
taken_quiet rows rs (Got k number xs by) store s = record { by = tt }
taken_quiet rows rs (Value xs) store s = record { by = tt }
taken_quiet rows rs Done store s = record { by = tt }
taken_quiet rows rs (Woken k by) store s = record { by = tt }
taken_quiet rows rs Otherwise store s = record { by = tt }
taken_quiet rows rs (Instance q) store s = record { by = tt }
taken_quiet rows rs (Fail x) store s = record { by = tt }
taken_quiet rows rs (Chose c) store s = record { by = tt }
taken_quiet rows rs (Handed q) store s = record { by = tt }
taken_quiet rows rs Stored store s = record { by = tt }

bytes_quiet : (o : Option (List ℕ)) (store : Store) (s : Session) → Quiet (put_bytes o store s)
bytes_quiet None store s = record { by = tt }
bytes_quiet (Some bytes) store s = done_quiet _ store s

sent_to_quiet : (n priority : ℕ) (xs : List ℤ) (o : Option ℕ) (store : Store) (s : Session) → Quiet (send_to n priority xs o store s)
sent_to_quiet n priority xs None store s = record { by = tt }
sent_to_quiet n priority xs (Some to) store s = done_quiet _ store s

signal_quiet : (v : Setting) (c : CallsQuiet v) (n priority : ℕ) (to : Option ExprTree) (xs : List ℤ) (store : Store) (s : Session) → Quiet (sent_signal v n priority to xs store s)
signal_quiet v c n priority None xs store s = done_quiet _ store s
signal_quiet v c n priority (Some e) xs store s = quiet_then (expr_quiet v c e store s) (λ ys store1 s1. sent_to_quiet n priority xs (number_of_32 (sole_number ys)) store1 s1)

sent_quiet : (v : Setting) (c : CallsQuiet v) (t : SentTree) (priority : ℕ) (store : Store) (s : Session) → Quiet (sent_mean v t priority store s)
sent_quiet v c (to_buffer b r) priority store s = quiet_then (received_quiet v c r store s) (λ xs store1 s1. done_quiet _ store1 s1)
sent_quiet v c (signal n rs to) priority store s = quiet_then (all_quiet v c rs store s) (λ xs store1 s1. signal_quiet v c n priority to xs store1 s1)

-- ---- loops

turn_quiet : {C : Type 0} (o : Option C) (body : Meaning (Unit {0})) (again : C → Meaning (Unit {0})) (store : Store) (s : Session) → QuietAll body → ((c : C) → QuietAll (again c)) → Quiet (turn_or_end o body again store s)
turn_quiet None body again store s f g = record { by = tt }
turn_quiet (Some c) body again store s f g = quiet_then (f store s) (λ z store1 s1. ticks_quiet (tick s1) store1 (λ s2. again c store1 s2) (λ s2. g c store1 s2))

turns_quiet : {C : Type 0} (n : ℕ) (test : C → Meaning (Option C)) (body : Meaning (Unit {0})) (c : C) (store : Store) (s : Session) → ((d : C) → QuietAll (test d)) → QuietAll body → Quiet (turns n test body c store s)
turns_quiet zero test body c store s f g = record { by = tt }
turns_quiet (suc n) test body c store s f g = quiet_then (f c store s) (λ o store1 s1. turn_quiet o body (turns n test body) store1 s1 g (λ d store2 s2. turns_quiet n test body d store2 s2 f g))

where_quiet : {C : Type 0} (v : Setting) (c : CallsQuiet v) (condition : Option ExprTree) (d : C) (store : Store) (s : Session) → Quiet (where_holds v condition d store s)
where_quiet v c None d store s = record { by = tt }
where_quiet v c (Some e) d store s = quiet_then (expr_quiet v c e store s) (λ xs store1 s1. record { by = tt })

member_quiet : (v : Setting) (c : CallsQuiet v) (counter : ℕ) (low : ℤ) (condition : Option ExprTree) (set : List ℤ) (o : Option ℕ) (store : Store) (s : Session) → Quiet (next_member v counter low condition set o store s)
member_quiet v c counter low condition set None store s = record { by = tt }
member_quiet v c counter low condition set (Some k) store s =
    quiet_then (computed_quiet (member_at low (Some k)) store s) (λ xs store1 s1. where_quiet v c condition (without_offset k set) (with_local store1 counter xs) s1)

step_quiet : (v : Setting) (c : CallsQuiet v) (counter : ℕ) (down : Bool) (by end : ℤ) (condition : Option ExprTree) (value : ℤ) (store : Store) (s : Session) → Quiet (next_step v counter down by end condition value store s)
step_quiet v c counter down by end condition value store s =
    chosen (passes_end down value end) (Goes None store s) (where_holds v condition (next_value down value by) (with_local store counter (one value)) s) (record { by = tt })
    (where_quiet v c condition (next_value down value by) (with_local store counter (one value)) s)

bound_quiet : (v : Setting) (c : CallsQuiet v) (e : ExprTree) (store : Store) (s : Session) → Quiet (bound_mean v e store s)
bound_quiet v c e store s = quiet_then (expr_quiet v c e store s) (λ xs store1 s1. rangefail_quiet (where_true (is_int (sole_number xs)) (sole_number xs)) store1 s1)

by_quiet : (v : Setting) (c : CallsQuiet v) (step : Option ExprTree) (store : Store) (s : Session) → Quiet (step_mean v step store s)
by_quiet v c None store s = record { by = tt }
by_quiet v c (Some e) store s = quiet_then (bound_quiet v c e store s) (λ z store1 s1. rangefail_quiet _ store1 s1)

loop_quiet : (v : Setting) (c : CallsQuiet v) (n : ℕ) (control : ControlTree) (body : Meaning (Unit {0})) (store : Store) (s : Session) → QuietAll body → Quiet (loop_mean v n control body store s)
loop_quiet v c n (while_true e) body store s f = turns_quiet n (where_holds v (Some e)) body tt store s (λ d store1 s1. where_quiet v c (Some e) d store1 s1) f
loop_quiet v c n for_ever body store s f = turns_quiet n (where_holds v None) body tt store s (λ d store1 s1. where_quiet v c None d store1 s1) f
loop_quiet v c n (for_members counter e low condition) body store s f =
    quiet_then (expr_quiet v c e store s) (λ xs store1 s1.
    turns_quiet n (λ set. next_member v counter low condition set (first_of_list (offsets_of set))) body xs store1 s1 (λ set store2 s2. member_quiet v c counter low condition set (first_of_list (offsets_of set)) store2 s2) f)
loop_quiet v c n (for_steps counter e step g down condition) body store s f =
    quiet_then (bound_quiet v c e store s) (λ from store1 s1.
    quiet_then (by_quiet v c step store1 s1) (λ by store2 s2.
    quiet_then (bound_quiet v c g store2 s2) (λ end store3 s3.
    turns_quiet n (next_step v counter down by end condition) body from store3 s3 (λ value store4 s4. step_quiet v c counter down by end condition value store4 s4) f)))

-- ---- labels, regions and handlers

exit_by : (o : Flow (Unit {0})) → QuietBy o → QuietBy (ends_exit o)
exit_by (Goes v store s) h = tt
exit_by (Raised x store s) h = tt
exit_by (Exits zero store s) h = tt
exit_by (Exits (suc k) store s) h = tt
exit_by (Returned store s) h = h
exit_by (Stops t inner store) h = tt
exit_by (Gone t) h = tt
exit_by Bound h = tt

label_quiet : (labelled : Bool) (o : Flow (Unit {0})) → Quiet o → Quiet (labelled_as labelled o)
label_quiet false o h = h
label_quiet true o h = record { by = exit_by o h.by }

leave_by : (r : ℕ) (o : Flow (Unit {0})) → QuietBy o → QuietBy (then_leave r o)
leave_by r (Goes v store s) h = (done_quiet (Leave r) store s).by
leave_by r (Raised x store s) h = (quiet_then {next = λ z. Raised x} (done_quiet (Leave r) store s) (λ z store1 s1. record { by = tt })).by
leave_by r (Exits k store s) h = tt
leave_by r (Returned store s) h = h
leave_by r (Stops t inner store) h = tt
leave_by r (Gone t) h = tt
leave_by r Bound h = tt

region_quiet : (o : Option ℕ) (v : Setting) (c : CallsQuiet v) (part : Setting → Meaning (Unit {0})) (store : Store) (s : Session) → ((w : Setting) → CallsQuiet w → QuietAll (part w)) → Quiet (at_region o v part store s)
region_quiet None v c part store s f = f v c store s
region_quiet (Some r) v c part store s f =
    chosen (is_open r v.open_now) (part v store s) (then_do (done (Enter r) store s) (λ z store1 s1. then_leave r (part (opened v r) store1 s1))) (f v c store s)
    (quiet_then (done_quiet (Enter r) store s) (λ z store1 s1. record { by = leave_by r (part (opened v r) store1 s1) (f (opened v r) c store1 s1).by }))

caught_by : (o : Flow (Unit {0})) (h : Exc → Meaning (Unit {0})) → QuietBy o → ((x : Exc) → QuietAll (h x)) → QuietBy (caught o h)
caught_by (Goes v store s) h f g = tt
caught_by (Raised x store s) h f g = (g x store s).by
caught_by (Exits k store s) h f g = tt
caught_by (Returned store s) h f g = f
caught_by (Stops t inner store) h f g = tt
caught_by (Gone t) h f g = tt
caught_by Bound h f g = tt

caught_quiet : (o : Flow (Unit {0})) (h : Exc → Meaning (Unit {0})) → Quiet o → ((x : Exc) → QuietAll (h x)) → Quiet (caught o h)
caught_quiet o h f g = record { by = caught_by o h f.by g }

receive_quiet : (v : Setting) (c : CallsQuiet v) (request : Request) (set : Option LocationTree) (rs : ReceiveNodes) (alternative : ℕ → Meaning (Unit {0})) (none : Meaning (Unit {0})) (store : Store) (s : Session)
    → ((k : ℕ) → QuietAll (alternative k)) → QuietAll none → Quiet (receive_with v request set rs alternative none store s)
receive_quiet v c request set rs alternative none store s f g =
    quiet_then (set_found v c set store s) (λ a store1 s1.
    quiet_then (asked_quiet request (receive_counts v.rows rs) store1 s1) (λ answer store2 s2.
    quiet_then (taken_quiet v.rows rs answer store2 s2) (λ come store3 s3. wait_quiet a alternative none come store3 s3 f g)))

-- ---- where statements are typed

-- no procedure's
abbrev IsOutside : Around → Type 0
IsOutside at = at.sort ≡ Procedure → ⊥

labelled_sort : (t : Bool) (at : Around) → (labelled_around t at).sort ≡ at.sort
labelled_sort true at = refl
labelled_sort false at = refl

in_sort : (a : ActionTree) (at : Around) → (around_in a at).sort ≡ at.sort
in_sort (region_at r ss) at = refl
in_sort a at = refl

action_sort : (t : Bool) (a : ActionTree) (at : Around) → (around_action t a at).sort ≡ at.sort
action_sort t a at = labelled_sort (is_label t a) (around_in a at) ∙ in_sort a at

handler_sort : (region : Option ℕ) (t : Bool) (a : ActionTree) (at : Around) → (around_handler region t a at).sort ≡ at.sort
handler_sort region t do_nothing at = labelled_sort t (in_region_around region at)
handler_sort region t a at = action_sort t a at

-- ---- statements

mutual
  statement_quiet : (at : Around) (v : Setting) (c : CallsQuiet v) (n : ℕ) (a : StatementTree) (store : Store) (s : Session) → IsOutside at → IsTypedStatement at a → Quiet (statement_mean v n a store s)
  statement_quiet at v c n (statement labelled a h) store s outside typed =
      label_quiet (is_label labelled a) (at_region (region_in a) v (λ w store1 s1. caught (action_mean w n a store1 s1) (handler_mean w n h)) store s)
      (region_quiet (region_in a) v c (λ w store1 s1. caught (action_mean w n a store1 s1) (handler_mean w n h)) store s
      (λ w d store1 s1.
      caught_quiet (action_mean w n a store1 s1) (handler_mean w n h)
      (action_quiet (around_action labelled a at) w d n a store1 s1 (λ e. outside (sym (action_sort labelled a at) ∙ e)) typed.1)
      (λ x store2 s2. handler_quiet (around_handler typed.2.0 labelled a at) w d n h x store2 s2 (λ e. outside (sym (handler_sort typed.2.0 labelled a at) ∙ e)) typed.2.1)))

  handler_quiet : (at : Around) (v : Setting) (c : CallsQuiet v) (n : ℕ) (h : HandlerNode) (x : Exc) (store : Store) (s : Session) → IsOutside at → IsTypedHandler at h → Quiet (handler_mean v n h x store s)
  handler_quiet at v c n no_handler x store s outside typed = record { by = tt }
  handler_quiet at v c n (handler hs o) x store s outside typed =
      handled_quiet at v c n hs (otherwise_mean v n o (Raised x)) x store s outside typed.0 (λ store1 s1. otherwise_quiet at v c n o (Raised x) store1 s1 outside typed.1 (λ store2 s2. record { by = tt }))

  handled_quiet : (at : Around) (v : Setting) (c : CallsQuiet v) (n : ℕ) (hs : HandledNodes) (last : Meaning (Unit {0})) (x : Exc) (store : Store) (s : Session) → IsOutside at → AreTypedAlternatives at hs → QuietAll last → Quiet (alternatives_mean v n hs last x store s)
  handled_quiet at v c n no_handled last x store s outside typed f = f store s
  handled_quiet at v c n (more_handled names ss hs) last x store s outside typed f =
      chosen (names_exception names x) (statements_mean v n ss store s) (alternatives_mean v n hs last x store s)
      (statements_quiet at v c n ss store s outside typed.0) (handled_quiet at v c n hs last x store s outside typed.1 f)

  otherwise_quiet : (at : Around) (v : Setting) (c : CallsQuiet v) (n : ℕ) (o : OtherwiseNode) (none : Meaning (Unit {0})) (store : Store) (s : Session) → IsOutside at → IsTypedOtherwise at o → QuietAll none → Quiet (otherwise_mean v n o none store s)
  otherwise_quiet at v c n no_otherwise none store s outside typed f = f store s
  otherwise_quiet at v c n (otherwise ss) none store s outside typed f = statements_quiet at v c n ss store s outside typed

  statements_quiet : (at : Around) (v : Setting) (c : CallsQuiet v) (n : ℕ) (ss : StatementNodes) (store : Store) (s : Session) → IsOutside at → AreTyped at ss → Quiet (statements_mean v n ss store s)
  statements_quiet at v c n no_statements store s outside typed = record { by = tt }
  statements_quiet at v c n (more_statements a ss) store s outside typed =
      quiet_then (statement_quiet at v c n a store s outside typed.0) (λ z store1 s1. statements_quiet at v c n ss store1 s1 outside typed.1)

  action_quiet : (at : Around) (v : Setting) (c : CallsQuiet v) (n : ℕ) (a : ActionTree) (store : Store) (s : Session) → IsOutside at → IsTypedAction at a → Quiet (action_mean v n a store s)
  action_quiet at v c n do_nothing store s outside typed = record { by = tt }
  action_quiet at v c n (declare names r) store s outside typed = quiet_then (received_quiet v c r store s) (λ xs store1 s1. names_quiet names xs store1 s1)
  action_quiet at v c n (set_lowest locals xs) store s outside typed = record { by = tt }
  action_quiet at v c n (module_at ss) store s outside typed = statements_quiet at v c n ss store s outside typed
  action_quiet at v c n (region_at r ss) store s outside typed = statements_quiet at v c n ss store s outside typed.1
  action_quiet at v c n (assign l r) store s outside typed =
      quiet_then (place_quiet v c l store s) (λ a store1 s1. quiet_then (received_quiet v c r store1 s1) (λ xs store2 s2. assign_quiet (location_count l) a xs store2 s2))
  action_quiet at v c n (update l o e bounds) store s outside typed =
      quiet_then (place_quiet v c l store s) (λ a store1 s1.
      quiet_then (read_quiet (location_count l) a store1 s1) (λ xs store2 s2.
      quiet_then (second_quiet o xs (expr_mean v e) store2 s2 (expr_quiet v c e store2 s2)) (λ ys store3 s3.
      quiet_then (tested_quiet bounds ys store3 s3) (λ zs store4 s4. assign_quiet (location_count l) a zs store4 s4))))
  action_quiet at v c n (perform t) store s outside typed = quiet_then (call_quiet v c t store s) (λ xs store1 s1. record { by = tt })
  action_quiet at v c n (drop_routine r e) store s outside typed =
      quiet_then (expr_quiet v c e store s) (λ xs store1 s1. quiet_then (computed_quiet (routine_value r xs) store1 s1) (λ ys store2 s2. record { by = tt }))
  action_quiet at v c n (evaluate e) store s outside typed = quiet_then (expr_quiet v c e store s) (λ xs store1 s1. record { by = tt })
  action_quiet at v c n (put_int e) store s outside typed = quiet_then (expr_quiet v c e store s) (λ xs store1 s1. done_quiet _ store1 s1)
  action_quiet at v c n (put_text e) store s outside typed = quiet_then (expr_quiet v c e store s) (λ xs store1 s1. bytes_quiet (bytes_of xs) store1 s1)
  action_quiet at v c n put_line store s outside typed = done_quiet _ store s
  action_quiet at v c n (exit_from k) store s outside typed = record { by = tt }
  action_quiet at v c n (return_with None) store s outside typed = absurd (outside typed)
  action_quiet at v c n (return_with (Some r)) store s outside typed = absurd (outside typed.0)
  action_quiet at v c n (set_result r) store s outside typed = quiet_then (received_quiet v c r store s) (λ xs store1 s1. record { by = tt })
  action_quiet at v c n (assert_that e) store s outside typed =
      quiet_then (expr_quiet v c e store s) (λ xs store1 s1. chosen (is_true xs) (Goes tt store1 s1) (Raised Assertfail store1 s1) (record { by = tt }) (record { by = tt }))
  action_quiet at v c n (cause x) store s outside typed = record { by = tt }
  action_quiet at v c n stop store s outside typed = finish_quiet (Unit {0}) Stopped [] store s
  action_quiet at v c n (start_of t) store s outside typed = quiet_then (start_quiet v c t store s) (λ xs store1 s1. record { by = tt })
  action_quiet at v c n (delay e priority) store s outside typed = done_quiet _ store s
  action_quiet at v c n (continue_at e) store s outside typed = done_quiet _ store s
  action_quiet at v c n (send sent priority) store s outside typed = sent_quiet v c sent priority store s
  action_quiet at v c n (if_then cs ss) store s outside typed = choices_quiet at v c n cs (statements_mean v n ss) store s outside typed.0 (λ store1 s1. statements_quiet at v c n ss store1 s1 outside typed.1)
  action_quiet at v c n (case_of e cs o) store s outside typed =
      quiet_then (expr_quiet v c e store s) (λ xs store1 s1.
      cases_quiet at v c n cs (otherwise_mean v n o (Raised Rangefail)) (sole_number xs) store1 s1 outside typed.1 (λ store2 s2. otherwise_quiet at v c n o (Raised Rangefail) store2 s2 outside typed.2 (λ store3 s3. record { by = tt })))
  action_quiet at v c n (do_loop control ss) store s outside typed = loop_quiet v c n control (statements_mean v n ss) store s (λ store1 s1. statements_quiet at v c n ss store1 s1 outside typed.1)
  action_quiet at v c n (begin_end ss) store s outside typed = statements_quiet at v c n ss store s outside typed
  action_quiet at v c n (delay_case set priority ds) store s outside typed =
      quiet_then (set_found v c set store s) (λ a store1 s1.
      quiet_then (asked_quiet _ [] store1 s1) (λ answer store2 s2. wait_quiet a (delay_mean v n ds) skip (woken_as answer) store2 s2 (λ k store3 s3. delays_quiet at v c n ds k store3 s3 outside typed.2) (λ store3 s3. record { by = tt })))
  action_quiet at v c n (receive_buffers set rs o) store s outside typed =
      receive_quiet v c (ReceiveBuffer (receive_list 0 rs) (is_written o)) set rs (receive_mean v n rs) (otherwise_mean v n o skip) store s
      (λ k store1 s1. buffers_quiet at v c n rs k store1 s1 outside typed.1)
      (λ store1 s1. otherwise_quiet at v c n o skip store1 s1 outside typed.2 (λ store2 s2. record { by = tt }))
  action_quiet at v c n (receive_signals set rs o) store s outside typed =
      receive_quiet v c (ReceiveSignal (receive_list 0 rs) (is_written o)) set rs (receive_mean v n rs) (otherwise_mean v n o skip) store s
      (λ k store1 s1. signals_quiet at v c n rs k store1 s1 outside typed.1)
      (λ store1 s1. otherwise_quiet at v c n o skip store1 s1 outside typed.2 (λ store2 s2. record { by = tt }))

  choices_quiet : (at : Around) (v : Setting) (c : CallsQuiet v) (n : ℕ) (cs : ChoiceNodes) (last : Meaning (Unit {0})) (store : Store) (s : Session) → IsOutside at → AreTypedChoices at cs → QuietAll last → Quiet (choices_mean v n cs last store s)
  choices_quiet at v c n no_choices last store s outside typed f = f store s
  choices_quiet at v c n (more_choices e ss cs) last store s outside typed f =
      quiet_then (expr_quiet v c e store s) (λ xs store1 s1.
      chosen (is_true xs) (statements_mean v n ss store1 s1) (choices_mean v n cs last store1 s1)
      (statements_quiet at v c n ss store1 s1 outside typed.1) (choices_quiet at v c n cs last store1 s1 outside typed.2 f))

  cases_quiet : (at : Around) (v : Setting) (c : CallsQuiet v) (n : ℕ) (cs : CaseNodes) (last : Meaning (Unit {0})) (x : ℤ) (store : Store) (s : Session) → IsOutside at → AreTypedCases at cs → QuietAll last → Quiet (cases_mean v n cs last x store s)
  cases_quiet at v c n no_cases last x store s outside typed f = f store s
  cases_quiet at v c n (more_cases labels ss cs) last x store s outside typed f =
      chosen (holds_one x labels) (statements_mean v n ss store s) (cases_mean v n cs last x store s)
      (statements_quiet at v c n ss store s outside typed.0) (cases_quiet at v c n cs last x store s outside typed.1 f)

  delays_quiet : (at : Around) (v : Setting) (c : CallsQuiet v) (n : ℕ) (ds : DelayNodes) (k : ℕ) (store : Store) (s : Session) → IsOutside at → AreTypedDelays at ds → Quiet (delay_mean v n ds k store s)
  delays_quiet at v c n no_delays k store s outside typed = record { by = tt }
  delays_quiet at v c n (more_delays es ss ds) zero store s outside typed = statements_quiet at v c n ss store s outside typed.1
  delays_quiet at v c n (more_delays es ss ds) (suc k) store s outside typed = delays_quiet at v c n ds k store s outside typed.2

  buffers_quiet : (at : Around) (v : Setting) (c : CallsQuiet v) (n : ℕ) (rs : ReceiveNodes) (k : ℕ) (store : Store) (s : Session) → IsOutside at → AreTypedReceives at (BufferBrings at.context) rs → Quiet (receive_mean v n rs k store s)
  buffers_quiet at v c n no_receives k store s outside typed = record { by = tt }
  buffers_quiet at v c n (more_receives thing is ss rs) zero store s outside typed = statements_quiet at v c n ss store s outside typed.1
  buffers_quiet at v c n (more_receives thing is ss rs) (suc k) store s outside typed = buffers_quiet at v c n rs k store s outside typed.2

  signals_quiet : (at : Around) (v : Setting) (c : CallsQuiet v) (n : ℕ) (rs : ReceiveNodes) (k : ℕ) (store : Store) (s : Session) → IsOutside at → AreTypedReceives at (SignalHas at.context) rs → Quiet (receive_mean v n rs k store s)
  signals_quiet at v c n no_receives k store s outside typed = record { by = tt }
  signals_quiet at v c n (more_receives thing is ss rs) zero store s outside typed = statements_quiet at v c n ss store s outside typed.1
  signals_quiet at v c n (more_receives thing is ss rs) (suc k) store s outside typed = signals_quiet at v c n rs k store s outside typed.2

-- ---- the fact

pub returns_never : ReturnsNever
returns_never p bodies frames at v n ss h store store1 s s1 is outside typed typed_h e =
    let c : CallsQuiet v = calls_quiet p bodies frames v is in
    let quiet = caught_quiet (statements_mean v n ss store s) (handler_mean v n h) (statements_quiet at v c n ss store s outside typed) (λ x store2 s2. handler_quiet at v c n h x store2 s2 outside typed_h) in
    subst (λ (o : Flow (Unit {0})). QuietBy o) e quiet.by

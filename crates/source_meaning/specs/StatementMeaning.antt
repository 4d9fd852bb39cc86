-- What statements, actions and handlers mean.
use Rattle.std.specs.Prelude.{ℕ, zero, suc, ◌+◌, ◌==◌, Bool, true, false, not, ◌&&◌, ◌||◌, List, [], ◌∷◌, ◌++◌, ℤ, pos, ◌+ℤ◌, ◌-ℤ◌, int_le, length, take, drop, Option, Some, None, slice_get, if◌then◌else◌}
use Rattle.std.specs.List.{list_any}
use Rattle.kernel_base.specs.declared.ends.Exc.{Exc}
use Rattle.kernel_base.specs.declared.ends.Exc.TheVariants.{Rangefail, Assertfail}
use Rattle.kernel_base.specs.declared.ends.How.TheVariants.{Stopped}
use Rattle.kernel_base.specs.declared.request.Alternative.{Alternative}
use Rattle.kernel_base.specs.declared.request.Request.{Request}
use Rattle.kernel_base.specs.declared.request.Request.TheVariants.{Enter, Leave, Delay, Continue, SendBuffer, ReceiveBuffer, SendSignal, ReceiveSignal, Put}
use Rattle.kernel_base.specs.declared.answer.Answer.{Answer}
use Rattle.kernel_base.specs.declared.answer.Answer.TheVariants.{Woken, Got}
use Rattle.modes.specs.declared.mode.Bounds.{Bounds}
use Rattle.checked_program.specs.declared.expr.Base.{Base}
use Rattle.world_model.specs.Session.{Session, tick}
use Rattle.scalar_operators.specs.Numbers.{is_between, is_int, where_true, decimal_text}
use Rattle.scalar_operators.specs.Powersets.{first_of_list}
use Rattle.scalar_operators.specs.Members.{offsets_of}
use Rattle.code_types.specs.Exceptions.{exception_of}
use Rattle.code_types.specs.Operands.{number_in as number_of_32, bytes_of}
use Rattle.code_types.specs.Places.{names_exception}
use Rattle.program_trees.specs.ExprTree.{ExprTree, ReceivedTree, LocationTree, location, location_count}
use Rattle.program_trees.specs.ProgramTree.{LocalRowTree}
use Rattle.program_trees.specs.StatementTree.{SentTree, to_buffer, signal, ControlTree, while_true, for_ever, for_members, for_steps, StatementTree, statement, ActionTree, do_nothing, declare, set_lowest, module_at, region_at, assign, update, perform, drop_routine, evaluate, put_int, put_text, put_line, exit_from, return_with, set_result, assert_that, cause, stop, start_of, delay, continue_at, send, if_then, case_of, do_loop, begin_end, delay_case, receive_buffers, receive_signals, StatementNodes, no_statements, more_statements, ChoiceNodes, no_choices, more_choices, CaseNodes, no_cases, more_cases, DelayNodes, no_delays, more_delays, ReceiveNodes, no_receives, more_receives, OtherwiseNode, no_otherwise, otherwise, HandledNodes, no_handled, more_handled, HandlerNode, no_handler, handler}
use Rattle.source_meaning.specs.Store.{Store, Address, address_of, with_local, with_result, count_in}
use Rattle.source_meaning.specs.Flow.{Flow, Goes, Raised, Exits, Returned, Stops, Gone, Bound, Meaning, then_do, asked, done, finish, after_tick}
use Rattle.source_meaning.specs.Operators.{sole_number, one, is_true, member_at, routine_value, without_offset}
use Rattle.source_meaning.specs.ExprMeaning.{Setting, as_computed, or_rangefail, tested, read_at, assign_at, expr_mean, binary_with, received_mean, all_received_mean, location_mean, start_mean, call_mean}

-- ---- parts of actions

abbrev pub nothing : {A : Type 0} → A → Meaning (Unit {0})
nothing v store s = Goes tt store s

abbrev pub skip : Meaning (Unit {0})
skip store s = Goes tt store s

-- a loop without a state
abbrev pub no_state : Unit {0}
no_state = tt

-- the names of a declaration are set in their order
abbrev pub set_names : List Base → List ℤ → Meaning (Unit {0})
set_names [] xs store s = Goes tt store s
set_names (b ∷ bs) xs store s = then_do (assign_at (length xs) (address_of b 0) xs store s) (λ _. set_names bs xs)

abbrev pub set_locals : List ℕ → List ℤ → Store → Store
set_locals [] xs store = store
set_locals (i ∷ is) xs store = set_locals is xs (with_local store i xs)

-- locals one after another get the scalars that come
abbrev pub spread_over : List LocalRowTree → List ℕ → List ℤ → Store → Store
spread_over rows [] xs store = store
spread_over rows (i ∷ is) xs store = spread_over rows is (drop (count_in (slice_get rows i)) xs) (with_local store i (take (count_in (slice_get rows i)) xs))

abbrev pub counts_over : List LocalRowTree → List ℕ → ℕ
counts_over rows [] = 0
counts_over rows (i ∷ is) = count_in (slice_get rows i) + counts_over rows is

-- what is received goes to the location after SET
abbrev pub set_to : Option Address → ℕ → Meaning (Unit {0})
set_to None by store s = Goes tt store s
set_to (Some address) by store s = assign_at 1 address (one (pos by)) store s

abbrev pub set_address : Setting → Option LocationTree → Meaning (Option Address)
set_address w None store s = Goes None store s
set_address w (Some l) store s = then_do (location_mean w l store s) (λ address. Goes (Some address))

-- the bytes of a text; that a character's number is no byte can't come
abbrev pub put_bytes : Option (List ℕ) → Meaning (Unit {0})
put_bytes None store s = Raised Rangefail store s
put_bytes (Some bytes) store s = done (Put bytes) store s

-- a signal to an instance; that its number has more than 32 bits can't come
abbrev pub send_to : ℕ → ℕ → List ℤ → Option ℕ → Meaning (Unit {0})
send_to n priority xs None store s = Raised Rangefail store s
send_to n priority xs (Some to) store s = done (SendSignal n xs (Some to) priority) store s

-- a signal with these parts, to an instance or to any
abbrev pub sent_signal : Setting → ℕ → ℕ → Option ExprTree → List ℤ → Meaning (Unit {0})
sent_signal w n priority None xs store s = done (SendSignal n xs None priority) store s
sent_signal w n priority (Some e) xs store s = then_do (expr_mean w e store s) (λ ys. send_to n priority xs (number_of_32 (sole_number ys)))

abbrev pub sent_mean : Setting → SentTree → ℕ → Meaning (Unit {0})
sent_mean w (to_buffer b r) priority store s = then_do (received_mean w r store s) (λ xs. done (SendBuffer b xs priority))
sent_mean w (signal n rs to) priority store s = then_do (all_received_mean w rs store s) (sent_signal w n priority to)

abbrev pub result_mean : Setting → ReceivedTree → Meaning (Unit {0})
result_mean w r store s = then_do (received_mean w r store s) (λ xs store1 s1. Goes tt (with_result store1 xs) s1)

abbrev pub return_mean : Setting → Option ReceivedTree → Meaning (Unit {0})
return_mean w None store s = Returned store s
return_mean w (Some r) store s = then_do (result_mean w r store s) (λ _. Returned)

-- a label holds the selector
abbrev pub holds_one : ℤ → List Bounds → Bool
holds_one x labels = list_any (λ b. is_between b.low b.high x) labels

-- what a DELAY CASE lists: each event with the number of its alternative
abbrev pub pairs_with : ℕ → List ℕ → List Alternative
pairs_with k [] = []
pairs_with k (e ∷ es) = record { thing = e; number = k } ∷ pairs_with k es

abbrev pub delay_pairs : ℕ → DelayNodes → List Alternative
delay_pairs k no_delays = []
delay_pairs k (more_delays es ss ds) = pairs_with k es ++ delay_pairs (suc k) ds

-- what a RECEIVE CASE lists, and how many scalars each alternative takes
abbrev pub receive_list : ℕ → ReceiveNodes → List Alternative
receive_list k no_receives = []
receive_list k (more_receives thing is ss rs) = record { thing = thing; number = k } ∷ receive_list (suc k) rs

abbrev pub receive_counts : List LocalRowTree → ReceiveNodes → List ℕ
receive_counts rows no_receives = []
receive_counts rows (more_receives thing is ss rs) = counts_over rows is ∷ receive_counts rows rs

abbrev pub is_written : OtherwiseNode → Bool
is_written no_otherwise = false
is_written (otherwise ss) = true

-- the locals that an alternative sets
abbrev pub received_by : ℕ → ReceiveNodes → List ℕ
received_by k no_receives = []
received_by zero (more_receives thing is ss rs) = is
received_by (suc k) (more_receives thing is ss rs) = received_by k rs

-- what came: the alternative with the names that are set and the sender, or nothing
pub data Come : Type 0 where
  comes_to : ℕ → ℕ → Come
  nothing_came : Come

abbrev pub take_in : List LocalRowTree → ReceiveNodes → Answer → Meaning Come
take_in rows rs (Got k number xs by) store s = Goes (comes_to k by) (spread_over rows (received_by k rs) xs store) s
take_in rows rs answer store s = Goes nothing_came store s

abbrev pub woken_as : Answer → Come
woken_as (Woken k by) = comes_to k by
woken_as answer = nothing_came

-- ---- loops

-- the turn that is to come, and the loop again behind it
abbrev pub turn_or_end : {C : Type 0} → Option C → Meaning (Unit {0}) → (C → Meaning (Unit {0})) → Meaning (Unit {0})
turn_or_end None body again store s = Goes tt store s
turn_or_end (Some c) body again store s = then_do (body store s) (λ _ store1 s1. after_tick (tick s1) store1 (λ s2. again c store1 s2))

-- A loop that is looked at for n turns. The test tells whether a turn is to come, and what the next test is told.
abbrev pub turns : {C : Type 0} → ℕ → (C → Meaning (Option C)) → Meaning (Unit {0}) → C → Meaning (Unit {0})
turns zero test body c store s = Bound
turns (suc n) test body c store s = then_do (test c store s) (λ o. turn_or_end o body (turns n test body))

-- WHILE behind a FOR
abbrev pub where_holds : {C : Type 0} → Setting → Option ExprTree → C → Meaning (Option C)
where_holds w None c store s = Goes (Some c) store s
where_holds w (Some e) c store s = then_do (expr_mean w e store s) (λ xs. Goes (if is_true xs then Some c else None))

-- what is left of a powerset: the least member is the counter's
abbrev pub next_member : Setting → ℕ → ℤ → Option ExprTree → List ℤ → Option ℕ → Meaning (Option (List ℤ))
next_member w counter low condition set None store s = Goes None store s
next_member w counter low condition set (Some k) store s =
    then_do (as_computed (member_at low (Some k)) store s) (λ xs store1. where_holds w condition (without_offset k set) (with_local store1 counter xs))

abbrev pub passes_end : Bool → ℤ → ℤ → Bool
passes_end false value end = not (int_le value end)
passes_end true value end = not (int_le end value)

abbrev pub next_value : Bool → ℤ → ℤ → ℤ
next_value false value step = value +ℤ step
next_value true value step = value -ℤ step

-- a value of the counter, unless it passes the end
abbrev pub next_step : Setting → ℕ → Bool → ℤ → ℤ → Option ExprTree → ℤ → Meaning (Option ℤ)
next_step w counter down step end condition value store s =
    if passes_end down value end
    then Goes None store s
    else where_holds w condition (next_value down value step) (with_local store counter (one value)) s

-- the number of a start, a step or an end; that it lies outside INT can't come, since it is a value of a discrete mode
abbrev pub bound_mean : Setting → ExprTree → Meaning ℤ
bound_mean w e store s = then_do (expr_mean w e store s) (λ xs. or_rangefail (where_true (is_int (sole_number xs)) (sole_number xs)))

-- a step below 1 is RANGEFAIL
abbrev pub step_mean : Setting → Option ExprTree → Meaning ℤ
step_mean w None store s = Goes (pos 1) store s
step_mean w (Some e) store s = then_do (bound_mean w e store s) (λ z. or_rangefail (where_true (int_le (pos 1) z) z))

abbrev pub loop_mean : Setting → ℕ → ControlTree → Meaning (Unit {0}) → Meaning (Unit {0})
loop_mean w n (while_true e) body store s = turns n (where_holds w (Some e)) body no_state store s
loop_mean w n for_ever body store s = turns n (where_holds w None) body no_state store s
loop_mean w n (for_members counter e low condition) body store s =
    then_do (expr_mean w e store s) (λ xs. turns n (λ set. next_member w counter low condition set (first_of_list (offsets_of set))) body xs)
loop_mean w n (for_steps counter e step f down condition) body store s =
    then_do (bound_mean w e store s) (λ from store1 s1.
    then_do (step_mean w step store1 s1) (λ by store2 s2.
    then_do (bound_mean w f store2 s2) (λ end. turns n (next_step w counter down by end condition) body from)))

-- ---- labels and regions

-- a label is that of a statement; a modulion has none
abbrev pub is_label : Bool → ActionTree → Bool
is_label labelled (module_at ss) = false
is_label labelled (region_at r ss) = false
is_label labelled a = labelled

-- an EXIT ends at the labelled statement that it names, the innermost being number 0
abbrev pub ends_exit : Flow (Unit {0}) → Flow (Unit {0})
ends_exit (Goes v store s) = Goes v store s
ends_exit (Raised x store s) = Raised x store s
ends_exit (Exits zero store s) = Goes tt store s
ends_exit (Exits (suc k) store s) = Exits k store s
ends_exit (Returned store s) = Returned store s
ends_exit (Stops t inner store) = Stops t inner store
ends_exit (Gone t) = Gone t
ends_exit Bound = Bound

abbrev pub labelled_as : Bool → Flow (Unit {0}) → Flow (Unit {0})
labelled_as false o = o
labelled_as true o = ends_exit o

-- The region is left behind its initialisations, and before an exception goes out of them. EXIT and RETURN don't lead out of
-- a region.
abbrev pub then_leave : ℕ → Flow (Unit {0}) → Flow (Unit {0})
then_leave r (Goes v store s) = done (Leave r) store s
then_leave r (Raised x store s) = then_do (done (Leave r) store s) (λ _. Raised x)
then_leave r (Exits k store s) = Exits k store s
then_leave r (Returned store s) = Returned store s
then_leave r (Stops t inner store) = Stops t inner store
then_leave r (Gone t) = Gone t
then_leave r Bound = Bound

-- a region is open
abbrev pub is_open : ℕ → List ℕ → Bool
is_open r open_now = list_any (λ q. q == r) open_now

-- the region is open too, and is the one that was entered last
abbrev pub opened : Setting → ℕ → Setting
opened w r = record w { open_now = w.open_now ++ r ∷ [] }

-- the region whose initialisations an action is
abbrev pub region_in : ActionTree → Option ℕ
region_in (region_at r ss) = Some r
region_in a = None

-- The initialisations of a region: it is entered, and left again. That it is open there already can't come, since regions
-- stand in no region.
abbrev pub at_region : Option ℕ → Setting → (Setting → Meaning (Unit {0})) → Meaning (Unit {0})
at_region None w inside store s = inside w store s
at_region (Some r) w inside store s =
    if is_open r w.open_now
    then inside w store s
    else then_do (done (Enter r) store s) (λ _ store1 s1. then_leave r (inside (opened w r) store1 s1))

-- what a handler makes of an outcome
abbrev pub caught : Flow (Unit {0}) → (Exc → Meaning (Unit {0})) → Flow (Unit {0})
caught (Goes v store s) h = Goes v store s
caught (Raised x store s) h = h x store s
caught (Exits k store s) h = Exits k store s
caught (Returned store s) h = Returned store s
caught (Stops t inner store) h = Stops t inner store
caught (Gone t) h = Gone t
caught Bound h = Bound

-- Behind a wait: SET is assigned, and the alternative that was chosen runs, or what is done where nothing came.
abbrev pub behind_wait : Option Address → (ℕ → Meaning (Unit {0})) → Meaning (Unit {0}) → Come → Meaning (Unit {0})
behind_wait address alternative none (comes_to k by) store s = then_do (set_to address by store s) (λ _. alternative k)
behind_wait address alternative none nothing_came store s = none store s

-- a wait for events: SET's place, the request, and what is done behind it
abbrev pub delay_with : Setting → Option LocationTree → ℕ → DelayNodes → (ℕ → Meaning (Unit {0})) → Meaning (Unit {0})
delay_with w set priority ds alternative store s =
    then_do (set_address w set store s) (λ address store1 s1.
    then_do (asked (Delay (delay_pairs 0 ds) priority) [] store1 s1) (λ answer. behind_wait address alternative skip (woken_as answer)))

-- a wait for a value or a signal: SET's place, the request, the names that are set, and what is done behind it
abbrev pub receive_with : Setting → Request → Option LocationTree → ReceiveNodes → (ℕ → Meaning (Unit {0})) → Meaning (Unit {0}) → Meaning (Unit {0})
receive_with w request set rs alternative none store s =
    then_do (set_address w set store s) (λ address store1 s1.
    then_do (asked request (receive_counts w.rows rs) store1 s1) (λ answer store2 s2.
    then_do (take_in w.rows rs answer store2 s2) (behind_wait address alternative none)))

-- ---- statements

abbrev mutual
  pub statement_mean : Setting → ℕ → StatementTree → Meaning (Unit {0})
  statement_mean w n (statement labelled a h) store s =
      labelled_as (is_label labelled a) (at_region (region_in a) w (λ w1 store1 s1. caught (action_mean w1 n a store1 s1) (handler_mean w1 n h)) store s)

  -- the first alternative that names the exception, or ELSE, or it goes on
  pub handler_mean : Setting → ℕ → HandlerNode → Exc → Meaning (Unit {0})
  handler_mean w n no_handler x store s = Raised x store s
  handler_mean w n (handler hs o) x store s = alternatives_mean w n hs (otherwise_mean w n o (Raised x)) x store s

  pub alternatives_mean : Setting → ℕ → HandledNodes → Meaning (Unit {0}) → Exc → Meaning (Unit {0})
  alternatives_mean w n no_handled last x store s = last store s
  alternatives_mean w n (more_handled names ss hs) last x store s =
      if names_exception names x then statements_mean w n ss store s else alternatives_mean w n hs last x store s

  -- the actions of ELSE, or what is done where none is written
  pub otherwise_mean : Setting → ℕ → OtherwiseNode → Meaning (Unit {0}) → Meaning (Unit {0})
  otherwise_mean w n no_otherwise none store s = none store s
  otherwise_mean w n (otherwise ss) none store s = statements_mean w n ss store s

  pub statements_mean : Setting → ℕ → StatementNodes → Meaning (Unit {0})
  statements_mean w n no_statements store s = Goes tt store s
  statements_mean w n (more_statements a ss) store s = then_do (statement_mean w n a store s) (λ _. statements_mean w n ss)

  pub action_mean : Setting → ℕ → ActionTree → Meaning (Unit {0})
  action_mean w n do_nothing store s = Goes tt store s
  action_mean w n (declare names r) store s = then_do (received_mean w r store s) (set_names names)
  action_mean w n (set_lowest locals xs) store s = Goes tt (set_locals locals xs store) s
  action_mean w n (module_at ss) store s = statements_mean w n ss store s
  action_mean w n (region_at r ss) store s = statements_mean w n ss store s
  action_mean w n (assign l r) store s =
      then_do (location_mean w l store s) (λ address store1 s1.
      then_do (received_mean w r store1 s1) (assign_at (location_count l) address))
  action_mean w n (update l o e bounds) store s =
      then_do (location_mean w l store s) (λ address store1 s1.
      then_do (read_at (location_count l) address store1 s1) (λ xs store2 s2.
      then_do (binary_with o xs (expr_mean w e) store2 s2) (λ ys store3 s3.
      then_do (tested bounds ys store3 s3) (assign_at (location_count l) address))))
  action_mean w n (perform c) store s = then_do (call_mean w c store s) nothing
  action_mean w n (drop_routine r e) store s = then_do (expr_mean w e store s) (λ xs store1 s1. then_do (as_computed (routine_value r xs) store1 s1) nothing)
  action_mean w n (evaluate e) store s = then_do (expr_mean w e store s) nothing
  action_mean w n (put_int e) store s = then_do (expr_mean w e store s) (λ xs. done (Put (decimal_text (sole_number xs))))
  action_mean w n (put_text e) store s = then_do (expr_mean w e store s) (λ xs. put_bytes (bytes_of xs))
  action_mean w n put_line store s = done (Put (10 ∷ [])) store s
  action_mean w n (exit_from k) store s = Exits k store s
  action_mean w n (return_with r) store s = return_mean w r store s
  action_mean w n (set_result r) store s = result_mean w r store s
  action_mean w n (assert_that e) store s = then_do (expr_mean w e store s) (λ xs store1 s1. if is_true xs then Goes tt store1 s1 else Raised Assertfail store1 s1)
  action_mean w n (cause x) store s = Raised (exception_of x) store s
  action_mean w n stop store s = finish Stopped [] store s
  action_mean w n (start_of t) store s = then_do (start_mean w t store s) nothing
  action_mean w n (delay e priority) store s = done (Delay (record { thing = e; number = 0 } ∷ []) priority) store s
  action_mean w n (continue_at e) store s = done (Continue e) store s
  action_mean w n (send sent priority) store s = sent_mean w sent priority store s
  action_mean w n (if_then cs ss) store s = choices_mean w n cs (statements_mean w n ss) store s
  action_mean w n (case_of e cs o) store s = then_do (expr_mean w e store s) (λ xs. cases_mean w n cs (otherwise_mean w n o (Raised Rangefail)) (sole_number xs))
  action_mean w n (do_loop c ss) store s = loop_mean w n c (statements_mean w n ss) store s
  action_mean w n (begin_end ss) store s = statements_mean w n ss store s
  action_mean w n (delay_case set priority ds) store s = delay_with w set priority ds (delay_mean w n ds) store s
  action_mean w n (receive_buffers set rs o) store s = receive_with w (ReceiveBuffer (receive_list 0 rs) (is_written o)) set rs (receive_mean w n rs) (otherwise_mean w n o skip) store s
  action_mean w n (receive_signals set rs o) store s = receive_with w (ReceiveSignal (receive_list 0 rs) (is_written o)) set rs (receive_mean w n rs) (otherwise_mean w n o skip) store s

  pub choices_mean : Setting → ℕ → ChoiceNodes → Meaning (Unit {0}) → Meaning (Unit {0})
  choices_mean w n no_choices last store s = last store s
  choices_mean w n (more_choices e ss cs) last store s =
      then_do (expr_mean w e store s) (λ xs store1 s1. if is_true xs then statements_mean w n ss store1 s1 else choices_mean w n cs last store1 s1)

  pub cases_mean : Setting → ℕ → CaseNodes → Meaning (Unit {0}) → ℤ → Meaning (Unit {0})
  cases_mean w n no_cases last x store s = last store s
  cases_mean w n (more_cases labels ss cs) last x store s =
      if holds_one x labels then statements_mean w n ss store s else cases_mean w n cs last x store s

  pub delay_mean : Setting → ℕ → DelayNodes → ℕ → Meaning (Unit {0})
  delay_mean w n no_delays k store s = Goes tt store s
  delay_mean w n (more_delays es ss ds) zero store s = statements_mean w n ss store s
  delay_mean w n (more_delays es ss ds) (suc k) store s = delay_mean w n ds k store s

  pub receive_mean : Setting → ℕ → ReceiveNodes → ℕ → Meaning (Unit {0})
  receive_mean w n no_receives k store s = Goes tt store s
  receive_mean w n (more_receives thing is ss rs) zero store s = statements_mean w n ss store s
  receive_mean w n (more_receives thing is ss rs) (suc k) store s = receive_mean w n rs k store s

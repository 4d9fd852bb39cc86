-- Whether each value along what a statement does lies in its own bounds.
use Rattle.std.specs.Prelude.{ℕ, zero, suc, Bool, true, ◌&&◌, List, [], ℤ, Option, Some, None, if◌then◌else◌}
use Rattle.kernel_base.specs.declared.ends.Exc.{Exc}
use Rattle.kernel_base.specs.declared.request.Request.{Request}
use Rattle.kernel_base.specs.declared.request.Request.TheVariants.{Enter, Delay, ReceiveBuffer, ReceiveSignal}
use Rattle.modes.specs.declared.mode.Bounds.{Bounds}
use Rattle.checked_program.specs.declared.expr.Binary.{Binary}
use Rattle.world_model.specs.Session.{Session, Ticked, GoesOn, Last, tick}
use Rattle.scalar_operators.specs.Powersets.{first_of_list}
use Rattle.scalar_operators.specs.Members.{offsets_of}
use Rattle.code_types.specs.Places.{names_exception}
use Rattle.program_trees.specs.ExprTree.{ExprTree, ReceivedTree, LocationTree, location_count}
use Rattle.program_trees.specs.StatementTree.{SentTree, to_buffer, signal, ControlTree, while_true, for_ever, for_members, for_steps, StatementTree, statement, ActionTree, do_nothing, declare, set_lowest, module_at, region_at, assign, update, perform, drop_routine, evaluate, put_int, put_text, put_line, exit_from, return_with, set_result, assert_that, cause, stop, start_of, delay, continue_at, send, if_then, case_of, do_loop, begin_end, delay_case, receive_buffers, receive_signals, StatementNodes, no_statements, more_statements, ChoiceNodes, no_choices, more_choices, CaseNodes, no_cases, more_cases, DelayNodes, no_delays, more_delays, ReceiveNodes, no_receives, more_receives, OtherwiseNode, no_otherwise, otherwise, HandledNodes, no_handled, more_handled, HandlerNode, no_handler, handler}
use Rattle.source_meaning.specs.Store.{Store, Address, with_local}
use Rattle.source_meaning.specs.Flow.{Flow, Raised, Meaning, asked, done}
use Rattle.source_meaning.specs.Operators.{sole_number, one, is_true, member_at, takes_second}
use Rattle.source_meaning.specs.ExprMeaning.{Setting, as_computed, read_at, expr_mean, all_received_mean, location_mean}
use Rattle.source_meaning.specs.StatementMeaning.{no_state, set_to, set_address, holds_one, delay_pairs, receive_list, receive_counts, is_written, Come, comes_to, nothing_came, take_in, woken_as, where_holds, next_member, passes_end, next_step, bound_mean, step_mean, is_open, opened, region_in, statement_mean, statements_mean, action_mean}
use Rattle.code_laws.specs.OwnBounds.{where_goes, lies_in, CallsWithin, expr_within, received_within, all_within, location_within, start_within, call_within}

-- whether it is so along a part, from a store and a session on
abbrev pub Along : Type 0
Along = Store → Session → Bool

-- whether what a call does keeps within, where these regions are open
abbrev pub OpenCallsWithin : Type 0
OpenCallsWithin = List ℕ → CallsWithin

-- where a part raises an exception, whether this holds of it
abbrev pub where_raises : {A : Type 0} → Flow A → (Exc → Along) → Bool
where_raises (Raised x store s) holds = holds x store s
where_raises o holds = true

abbrev pub where_goes_on : Ticked → (Session → Bool) → Bool
where_goes_on (GoesOn s) holds = holds s
where_goes_on (Last t) holds = true

-- ---- expressions of actions

abbrev pub value_within : Setting → OpenCallsWithin → ExprTree → Along
value_within v c e store s = expr_within v (c v.open_now) e store s

abbrev pub taken_within : Setting → OpenCallsWithin → ReceivedTree → Along
taken_within v c r store s = received_within v (c v.open_now) r store s

abbrev pub some_value_within : Setting → OpenCallsWithin → Option ExprTree → Along
some_value_within v c None store s = true
some_value_within v c (Some e) store s = value_within v c e store s

abbrev pub some_taken_within : Setting → OpenCallsWithin → Option ReceivedTree → Along
some_taken_within v c None store s = true
some_taken_within v c (Some r) store s = taken_within v c r store s

abbrev pub place_within : Setting → OpenCallsWithin → LocationTree → Along
place_within v c l store s = location_within v (c v.open_now) l store s

abbrev pub some_place_within : Setting → OpenCallsWithin → Option LocationTree → Along
some_place_within v c None store s = true
some_place_within v c (Some l) store s = place_within v c l store s

abbrev pub sent_within : Setting → OpenCallsWithin → SentTree → Along
sent_within v c (to_buffer b r) store s = taken_within v c r store s
sent_within v c (signal n rs to) store s = all_within v (c v.open_now) rs store s && where_goes (all_received_mean v rs store s) (λ xs store1 s1. some_value_within v c to store1 s1)

-- ---- assignments

abbrev pub assign_within : Setting → OpenCallsWithin → LocationTree → ReceivedTree → Along
assign_within v c l r store s = place_within v c l store s && where_goes (location_mean v l store s) (λ address store1 s1. taken_within v c r store1 s1)

-- along one with an operator, whose target's contents lie in the target's bounds
abbrev pub update_within : Setting → OpenCallsWithin → LocationTree → Binary → ExprTree → Option Bounds → Along
update_within v c l o e bounds store s =
    place_within v c l store s && where_goes (location_mean v l store s) (λ address store1 s1.
    where_goes (read_at (location_count l) address store1 s1) (λ xs store2 s2.
    lies_in bounds xs && (if takes_second o xs then value_within v c e store2 s2 else true)))

-- ---- loops: along the test, where it leads to a turn along that, and behind it again

abbrev pub turn_within : {C : Type 0} → Option C → Meaning (Unit {0}) → Along → (C → Along) → Along
turn_within None body along again store s = true
turn_within (Some c) body along again store s = along store s && where_goes (body store s) (λ z store1 s1. where_goes_on (tick s1) (λ s2. again c store1 s2))

abbrev pub turns_within : {C : Type 0} → (C → Meaning (Option C)) → (C → Along) → Meaning (Unit {0}) → Along → ℕ → C → Along
turns_within test tests body along zero c store s = true
turns_within test tests body along (suc n) c store s =
    tests c store s && where_goes (test c store s) (λ o store1 s1. turn_within o body along (turns_within test tests body along n) store1 s1)

-- along the test of a loop over members: its condition, with the counter set to the member
abbrev pub next_member_within : Setting → OpenCallsWithin → ℕ → ℤ → Option ExprTree → Option ℕ → Along
next_member_within v c counter low condition None store s = true
next_member_within v c counter low condition (Some k) store s =
    where_goes (as_computed (member_at low (Some k)) store s) (λ xs store1 s1. some_value_within v c condition (with_local store1 counter xs) s1)

-- along that of one that counts
abbrev pub next_step_within : Setting → OpenCallsWithin → ℕ → Bool → ℤ → Option ExprTree → ℤ → Along
next_step_within v c counter down end condition value store s =
    if passes_end down value end then true else some_value_within v c condition (with_local store counter (one value)) s

abbrev pub steps_within : Setting → OpenCallsWithin → ℕ → ℕ → Bool → Option ExprTree → Meaning (Unit {0}) → Along → ℤ → ℤ → ℤ → Along
steps_within v c n counter down condition body along step end from store s =
    turns_within (next_step v counter down step end condition) (next_step_within v c counter down end condition) body along n from store s

abbrev pub loop_within : Setting → OpenCallsWithin → ℕ → ControlTree → Meaning (Unit {0}) → Along → Along
loop_within v c n (while_true e) body along store s = turns_within (where_holds v (Some e)) (λ z. value_within v c e) body along n no_state store s
loop_within v c n for_ever body along store s = turns_within (where_holds v None) (λ z store1 s1. true) body along n no_state store s
loop_within v c n (for_members counter e low condition) body along store s =
    value_within v c e store s && where_goes (expr_mean v e store s) (λ xs store1 s1.
    turns_within (λ set. next_member v counter low condition set (first_of_list (offsets_of set))) (λ set. next_member_within v c counter low condition (first_of_list (offsets_of set))) body along n xs store1 s1)
loop_within v c n (for_steps counter e step f down condition) body along store s =
    value_within v c e store s && where_goes (bound_mean v e store s) (λ from store1 s1.
    some_value_within v c step store1 s1 && where_goes (step_mean v step store1 s1) (λ by store2 s2.
    value_within v c f store2 s2 && where_goes (bound_mean v f store2 s2) (λ end store3 s3.
    steps_within v c n counter down condition body along by end from store3 s3)))

-- ---- regions and waits

-- along the initialisations of a region, where it is entered
abbrev pub at_region_within : Option ℕ → Setting → (Setting → Along) → Along
at_region_within None v inside store s = inside v store s
at_region_within (Some r) v inside store s =
    if is_open r v.open_now then inside v store s else where_goes (done (Enter r) store s) (λ z store1 s1. inside (opened v r) store1 s1)

-- behind a wait: along the alternative that was chosen
abbrev pub behind_wait_within : Option Address → (ℕ → Along) → Along → Come → Along
behind_wait_within address alternative none (comes_to k by) store s = where_goes (set_to address by store s) (λ z store1 s1. alternative k store1 s1)
behind_wait_within address alternative none nothing_came store s = none store s

abbrev pub nothing_within : Along
nothing_within store s = true

abbrev pub delay_case_within : Setting → OpenCallsWithin → Option LocationTree → ℕ → DelayNodes → (ℕ → Along) → Along
delay_case_within v c set priority ds alternative store s =
    some_place_within v c set store s && where_goes (set_address v set store s) (λ address store1 s1.
    where_goes (asked (Delay (delay_pairs 0 ds) priority) [] store1 s1) (λ answer store2 s2. behind_wait_within address alternative nothing_within (woken_as answer) store2 s2))

abbrev pub receive_case_within : Setting → OpenCallsWithin → Request → Option LocationTree → ReceiveNodes → (ℕ → Along) → Along → Along
receive_case_within v c request set rs alternative none store s =
    some_place_within v c set store s && where_goes (set_address v set store s) (λ address store1 s1.
    where_goes (asked request (receive_counts v.rows rs) store1 s1) (λ answer store2 s2.
    where_goes (take_in v.rows rs answer store2 s2) (λ come store3 s3. behind_wait_within address alternative none come store3 s3)))

-- ---- statements

abbrev mutual
  pub statement_within : Setting → OpenCallsWithin → ℕ → StatementTree → Along
  statement_within v c n (statement labelled a h) store s =
      at_region_within (region_in a) v (λ v1 store1 s1.
      action_within v1 c n a store1 s1 && where_raises (action_mean v1 n a store1 s1) (λ x store2 s2. handler_within v1 c n h x store2 s2)) store s

  -- along what a handler does with an exception
  pub handler_within : Setting → OpenCallsWithin → ℕ → HandlerNode → Exc → Along
  handler_within v c n no_handler x store s = true
  handler_within v c n (handler hs o) x store s = alternatives_within v c n hs (otherwise_within v c n o) x store s

  pub alternatives_within : Setting → OpenCallsWithin → ℕ → HandledNodes → Along → Exc → Along
  alternatives_within v c n no_handled last x store s = last store s
  alternatives_within v c n (more_handled names ss hs) last x store s =
      if names_exception names x then statements_within v c n ss store s else alternatives_within v c n hs last x store s

  pub otherwise_within : Setting → OpenCallsWithin → ℕ → OtherwiseNode → Along
  otherwise_within v c n no_otherwise store s = true
  otherwise_within v c n (otherwise ss) store s = statements_within v c n ss store s

  pub statements_within : Setting → OpenCallsWithin → ℕ → StatementNodes → Along
  statements_within v c n no_statements store s = true
  statements_within v c n (more_statements a ss) store s =
      statement_within v c n a store s && where_goes (statement_mean v n a store s) (λ z store1 s1. statements_within v c n ss store1 s1)

  pub action_within : Setting → OpenCallsWithin → ℕ → ActionTree → Along
  action_within v c n do_nothing store s = true
  action_within v c n (declare names r) store s = taken_within v c r store s
  action_within v c n (set_lowest locals xs) store s = true
  action_within v c n (module_at ss) store s = statements_within v c n ss store s
  action_within v c n (region_at r ss) store s = statements_within v c n ss store s
  action_within v c n (assign l r) store s = assign_within v c l r store s
  action_within v c n (update l o e bounds) store s = update_within v c l o e bounds store s
  action_within v c n (perform t) store s = call_within v (c v.open_now) t store s
  action_within v c n (drop_routine r e) store s = value_within v c e store s
  action_within v c n (evaluate e) store s = value_within v c e store s
  action_within v c n (put_int e) store s = value_within v c e store s
  action_within v c n (put_text e) store s = value_within v c e store s
  action_within v c n put_line store s = true
  action_within v c n (exit_from k) store s = true
  action_within v c n (return_with r) store s = some_taken_within v c r store s
  action_within v c n (set_result r) store s = taken_within v c r store s
  action_within v c n (assert_that e) store s = value_within v c e store s
  action_within v c n (cause x) store s = true
  action_within v c n stop store s = true
  action_within v c n (start_of t) store s = start_within v (c v.open_now) t store s
  action_within v c n (delay e priority) store s = true
  action_within v c n (continue_at e) store s = true
  action_within v c n (send sent priority) store s = sent_within v c sent store s
  action_within v c n (if_then cs ss) store s = choices_within v c n cs (statements_within v c n ss) store s
  action_within v c n (case_of e cs o) store s =
      value_within v c e store s && where_goes (expr_mean v e store s) (λ xs store1 s1. cases_within v c n cs (otherwise_within v c n o) (sole_number xs) store1 s1)
  action_within v c n (do_loop control ss) store s = loop_within v c n control (statements_mean v n ss) (statements_within v c n ss) store s
  action_within v c n (begin_end ss) store s = statements_within v c n ss store s
  action_within v c n (delay_case set priority ds) store s = delay_case_within v c set priority ds (delays_within v c n ds) store s
  action_within v c n (receive_buffers set rs o) store s = receive_case_within v c (ReceiveBuffer (receive_list 0 rs) (is_written o)) set rs (receives_within v c n rs) (otherwise_within v c n o) store s
  action_within v c n (receive_signals set rs o) store s = receive_case_within v c (ReceiveSignal (receive_list 0 rs) (is_written o)) set rs (receives_within v c n rs) (otherwise_within v c n o) store s

  -- along the conditions of an IF up to the one that holds, and its actions
  pub choices_within : Setting → OpenCallsWithin → ℕ → ChoiceNodes → Along → Along
  choices_within v c n no_choices last store s = last store s
  choices_within v c n (more_choices e ss cs) last store s =
      value_within v c e store s && where_goes (expr_mean v e store s) (λ xs store1 s1. if is_true xs then statements_within v c n ss store1 s1 else choices_within v c n cs last store1 s1)

  pub cases_within : Setting → OpenCallsWithin → ℕ → CaseNodes → Along → ℤ → Along
  cases_within v c n no_cases last x store s = last store s
  cases_within v c n (more_cases labels ss cs) last x store s = if holds_one x labels then statements_within v c n ss store s else cases_within v c n cs last x store s

  pub delays_within : Setting → OpenCallsWithin → ℕ → DelayNodes → ℕ → Along
  delays_within v c n no_delays k store s = true
  delays_within v c n (more_delays es ss ds) zero store s = statements_within v c n ss store s
  delays_within v c n (more_delays es ss ds) (suc k) store s = delays_within v c n ds k store s

  pub receives_within : Setting → OpenCallsWithin → ℕ → ReceiveNodes → ℕ → Along
  receives_within v c n no_receives k store s = true
  receives_within v c n (more_receives thing is ss rs) zero store s = statements_within v c n ss store s
  receives_within v c n (more_receives thing is ss rs) (suc k) store s = receives_within v c n rs k store s

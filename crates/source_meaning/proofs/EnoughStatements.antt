-- Statements come to an outcome, where turns and calls do.
use Rattle.std.proofs.Common.{◌≤◌, ℕ, zero, suc, Bool, List, [], ◌∷◌, ℤ, pos, length, arith, Option, Some, None}
use Rattle.std.specs.Prelude.{int_le}
use Rattle.kernel_base.specs.declared.ends.Exc.{Exc}
use Rattle.kernel_base.specs.declared.ends.Exc.TheVariants.{Rangefail}
use Rattle.kernel_base.specs.declared.ends.How.TheVariants.{Stopped}
use Rattle.kernel_base.specs.declared.request.Request.{Request}
use Rattle.kernel_base.specs.declared.request.Request.TheVariants.{Delay, Continue, SendBuffer, ReceiveBuffer, SendSignal, ReceiveSignal, Put}
use Rattle.kernel_base.specs.declared.answer.Answer.{Answer}
use Rattle.kernel_base.specs.declared.answer.Answer.TheVariants.{Got}
use Rattle.checked_program.specs.declared.expr.Base.{Base}
use Rattle.scalar_operators.specs.Numbers.{is_int, where_true, decimal_text}
use Rattle.scalar_operators.specs.Powersets.{first_of_list}
use Rattle.scalar_operators.specs.Members.{offsets_of}
use Rattle.code_types.specs.Operands.{number_in as number_of_32, bytes_of}
use Rattle.code_types.specs.Places.{names_exception}
use Rattle.program_trees.specs.ExprTree.{ExprTree, ReceivedTree, LocationTree, location_count}
use Rattle.program_trees.specs.ProgramTree.{LocalRowTree}
use Rattle.program_trees.specs.StatementTree.{SentTree, to_buffer, signal, ControlTree, while_true, for_ever, for_members, for_steps, StatementTree, statement, ActionTree, do_nothing, declare, set_lowest, module_at, region_at, assign, update, perform, drop_routine, evaluate, put_int, put_text, put_line, exit_from, return_with, set_result, assert_that, cause, stop, start_of, delay, continue_at, send, if_then, case_of, do_loop, begin_end, delay_case, receive_buffers, receive_signals, StatementNodes, no_statements, more_statements, ChoiceNodes, no_choices, more_choices, CaseNodes, no_cases, more_cases, DelayNodes, no_delays, more_delays, ReceiveNodes, no_receives, more_receives, OtherwiseNode, no_otherwise, otherwise, HandledNodes, no_handled, more_handled, HandlerNode, no_handler, handler}
use Rattle.source_meaning.specs.Store.{Address, address_of, with_local}
use Rattle.source_meaning.specs.Flow.{Raised, Meaning, asked}
use Rattle.source_meaning.specs.Operators.{sole_number, one, is_true, member_at, routine_value, without_offset}
use Rattle.source_meaning.specs.ExprMeaning.{Setting, as_computed, tested, read_at, assign_at, expr_mean, binary_with, received_mean, all_received_mean, location_mean, start_mean, call_mean}
use Rattle.source_meaning.specs.StatementMeaning.{skip, no_state, set_names, set_to, set_address, put_bytes, send_to, sent_signal, sent_mean, result_mean, return_mean, holds_one, delay_pairs, receive_list, receive_counts, is_written, Come, comes_to, nothing_came, take_in, woken_as, turns, where_holds, next_member, passes_end, next_value, next_step, bound_mean, step_mean, loop_mean, is_label, opened, region_in, at_region, caught, behind_wait, delay_with, receive_with, statement_mean, handler_mean, alternatives_mean, otherwise_mean, statements_mean, action_mean, choices_mean, cases_mean, delay_mean, receive_mean}
use Rattle.source_meaning.proofs.EnoughFlows.{Keeps, then_keeps, if_within, asked_keeps, done_keeps, finish_keeps, turns_keep, region_keeps, caught_keeps, labelled_keeps}
use Rattle.source_meaning.proofs.EnoughExpressions.{CallsKeep, computed_keeps, rangefail_keeps, tested_keeps, read_keeps, assign_keeps, binary_keeps, expr_keeps, received_keeps, all_received_keep, location_keeps, start_keeps, call_tree_keeps}

-- calls come to an outcome with as many ticks as turns are looked at, or fewer
pub record AreFueled (n : ℕ) (w : Setting) : Type 0 where
  pub some : 1 ≤ n
  pub calls : (m : ℕ) → m ≤ n → CallsKeep m w.calls

-- ---- parts of actions

names_keep : (m : ℕ) (names : List Base) (xs : List ℤ) → Keeps m (set_names names xs)
names_keep m [] xs store s low = low
names_keep m (b ∷ bs) xs store s low = then_keeps m (assign_at (length xs) (address_of b 0) xs store s) _ (assign_keeps m (length xs) (address_of b 0) xs store s low) (λ _. names_keep m bs xs)

set_to_keeps : (m : ℕ) (o : Option Address) (by : ℕ) → Keeps m (set_to o by)
set_to_keeps m None by store s low = low
set_to_keeps m (Some address) by store s low = assign_keeps m 1 address (one (pos by)) store s low

set_keeps : (m : ℕ) (w : Setting) (o : Option LocationTree) → CallsKeep m w.calls → Keeps m (set_address w o)
set_keeps m w None all store s low = low
set_keeps m w (Some l) all store s low = then_keeps m (location_mean w l store s) _ (location_keeps m w l all store s low) (λ address store' s' low'. low')

put_keeps : (m : ℕ) (o : Option (List ℕ)) → Keeps m (put_bytes o)
put_keeps m None store s low = low
put_keeps m (Some bytes) store s low = done_keeps m (Put bytes) store s low

send_to_keeps : (m n priority : ℕ) (xs : List ℤ) (o : Option ℕ) → Keeps m (send_to n priority xs o)
send_to_keeps m n priority xs None store s low = low
send_to_keeps m n priority xs (Some to) store s low = done_keeps m (SendSignal n xs (Some to) priority) store s low

signal_keeps : (m : ℕ) (w : Setting) (n priority : ℕ) (o : Option ExprTree) (xs : List ℤ) → CallsKeep m w.calls → Keeps m (sent_signal w n priority o xs)
signal_keeps m w n priority None xs all store s low = done_keeps m (SendSignal n xs None priority) store s low
signal_keeps m w n priority (Some e) xs all store s low = then_keeps m (expr_mean w e store s) _ (expr_keeps m w e all store s low) (λ ys. send_to_keeps m n priority xs (number_of_32 (sole_number ys)))

sent_keeps : (m : ℕ) (w : Setting) (t : SentTree) (priority : ℕ) → CallsKeep m w.calls → Keeps m (sent_mean w t priority)
sent_keeps m w (to_buffer b r) priority all store s low = then_keeps m (received_mean w r store s) _ (received_keeps m w r all store s low) (λ xs. done_keeps m (SendBuffer b xs priority))
sent_keeps m w (signal n rs to) priority all store s low = then_keeps m (all_received_mean w rs store s) _ (all_received_keep m w rs all store s low) (λ xs. signal_keeps m w n priority to xs all)

result_keeps : (m : ℕ) (w : Setting) (r : ReceivedTree) → CallsKeep m w.calls → Keeps m (result_mean w r)
result_keeps m w r all store s low = then_keeps m (received_mean w r store s) _ (received_keeps m w r all store s low) (λ xs store' s' low'. low')

return_keeps : (m : ℕ) (w : Setting) (o : Option ReceivedTree) → CallsKeep m w.calls → Keeps m (return_mean w o)
return_keeps m w None all store s low = low
return_keeps m w (Some r) all store s low = then_keeps m (result_mean w r store s) _ (result_keeps m w r all store s low) (λ _ store' s' low'. low')

taken_in_keeps : (m : ℕ) (rows : List LocalRowTree) (rs : ReceiveNodes) (answer : Answer) → Keeps m (take_in rows rs answer)
taken_in_keeps m rows rs (Got k number xs by) store s low = low
taken_in_keeps m rows rs answer store s low = low

-- ---- loops

holds_keeps : {C : Type 0} (m : ℕ) (w : Setting) (o : Option ExprTree) (v : C) → CallsKeep m w.calls → Keeps m (where_holds w o v)
holds_keeps m w None v all store s low = low
holds_keeps m w (Some e) v all store s low = then_keeps m (expr_mean w e store s) _ (expr_keeps m w e all store s low) (λ xs store' s' low'. low')

member_keeps : (m : ℕ) (w : Setting) (counter : ℕ) (least : ℤ) (condition : Option ExprTree) (set : List ℤ) (o : Option ℕ) → CallsKeep m w.calls → Keeps m (next_member w counter least condition set o)
member_keeps m w counter least condition set None all store s low = low
member_keeps m w counter least condition set (Some k) all store s low =
    then_keeps m (as_computed (member_at least (Some k)) store s) _ (computed_keeps m (member_at least (Some k)) store s low) (λ xs store1. holds_keeps m w condition (without_offset k set) all (with_local store1 counter xs))

step_keeps : (m : ℕ) (w : Setting) (counter : ℕ) (down : Bool) (by end : ℤ) (condition : Option ExprTree) (value : ℤ) → CallsKeep m w.calls → Keeps m (next_step w counter down by end condition value)
step_keeps m w counter down by end condition value all store s low =
    if_within m (passes_end down value end) _ _ low (holds_keeps m w condition (next_value down value by) all (with_local store counter (one value)) s low)

bound_keeps : (m : ℕ) (w : Setting) (e : ExprTree) → CallsKeep m w.calls → Keeps m (bound_mean w e)
bound_keeps m w e all store s low = then_keeps m (expr_mean w e store s) _ (expr_keeps m w e all store s low) (λ xs. rangefail_keeps m (where_true (is_int (sole_number xs)) (sole_number xs)))

step_bound_keeps : (m : ℕ) (w : Setting) (o : Option ExprTree) → CallsKeep m w.calls → Keeps m (step_mean w o)
step_bound_keeps m w None all store s low = low
step_bound_keeps m w (Some e) all store s low = then_keeps m (bound_mean w e store s) _ (bound_keeps m w e all store s low) (λ z. rangefail_keeps m (where_true (int_le (pos 1) z) z))

-- a part comes to an outcome with at most so many ticks
abbrev pub KeepsAll : {A : Type 0} → ℕ → Meaning A → Type 0
KeepsAll n part = (m : ℕ) → m ≤ n → Keeps m part

all_turns_keep : {C : Type 0} (n m : ℕ) (test : C → Meaning (Option C)) (body : Meaning (Unit {0})) (c : C) → 1 ≤ n → m ≤ n → ((k : ℕ) → k ≤ n → (c : C) → Keeps k (test c)) → KeepsAll n body → Keeps m (turns n test body c)
all_turns_keep n m test body c some below tests is = turns_keep n m test body c some below (λ k low. tests k (omega (arith, low, below))) (λ k low. is k (omega (arith, low, below)))

loop_keeps : (n : ℕ) (w : Setting) (t : ControlTree) (body : Meaning (Unit {0})) → AreFueled n w → KeepsAll n body → KeepsAll n (loop_mean w n t body)
loop_keeps n w (while_true e) body all is m below store s low = all_turns_keep n m (where_holds w (Some e)) body no_state all.some below (λ k low' v. holds_keeps k w (Some e) v (all.calls k low')) is store s low
loop_keeps n w for_ever body all is m below store s low = all_turns_keep n m (where_holds w None) body no_state all.some below (λ k low' v. holds_keeps k w None v (all.calls k low')) is store s low
loop_keeps n w (for_members counter e least condition) body all is m below store s low =
    then_keeps m (expr_mean w e store s) _ (expr_keeps m w e (all.calls m below) store s low) (λ xs.
    all_turns_keep n m (λ set. next_member w counter least condition set (first_of_list (offsets_of set))) body xs all.some below (λ k low' set. member_keeps k w counter least condition set (first_of_list (offsets_of set)) (all.calls k low')) is)
loop_keeps n w (for_steps counter e step f down condition) body all is m below store s low =
    then_keeps m (bound_mean w e store s) _ (bound_keeps m w e (all.calls m below) store s low) (λ from store1 s1 low1.
    then_keeps m (step_mean w step store1 s1) _ (step_bound_keeps m w step (all.calls m below) store1 s1 low1) (λ by store2 s2 low2.
    then_keeps m (bound_mean w f store2 s2) _ (bound_keeps m w f (all.calls m below) store2 s2 low2) (λ end.
    all_turns_keep n m (next_step w counter down by end condition) body from all.some below (λ k low' value. step_keeps k w counter down by end condition value (all.calls k low')) is)))

-- ---- waits

behind_keeps : (m : ℕ) (o : Option Address) (alternative : ℕ → Meaning (Unit {0})) (none : Meaning (Unit {0})) (come : Come) → ((k : ℕ) → Keeps m (alternative k)) → Keeps m none → Keeps m (behind_wait o alternative none come)
behind_keeps m o alternative none (comes_to k by) all is store s low = then_keeps m (set_to o by store s) _ (set_to_keeps m o by store s low) (λ _. all k)
behind_keeps m o alternative none nothing_came all is store s low = is store s low

delay_keeps : (m : ℕ) (w : Setting) (set : Option LocationTree) (priority : ℕ) (ds : DelayNodes) (alternative : ℕ → Meaning (Unit {0})) → CallsKeep m w.calls → ((k : ℕ) → Keeps m (alternative k)) → Keeps m (delay_with w set priority ds alternative)
delay_keeps m w set priority ds alternative calls all store s low =
    then_keeps m (set_address w set store s) _ (set_keeps m w set calls store s low) (λ address store1 s1 low1.
    then_keeps m (asked (Delay (delay_pairs 0 ds) priority) [] store1 s1) _ (asked_keeps m (Delay (delay_pairs 0 ds) priority) [] store1 s1 low1) (λ answer.
    behind_keeps m address alternative skip (woken_as answer) all (λ store2 s2 low2. low2)))

receive_keeps : (m : ℕ) (w : Setting) (request : Request) (set : Option LocationTree) (rs : ReceiveNodes) (alternative : ℕ → Meaning (Unit {0})) (none : Meaning (Unit {0})) → CallsKeep m w.calls → ((k : ℕ) → Keeps m (alternative k)) → Keeps m none → Keeps m (receive_with w request set rs alternative none)
receive_keeps m w request set rs alternative none calls all is store s low =
    then_keeps m (set_address w set store s) _ (set_keeps m w set calls store s low) (λ address store1 s1 low1.
    then_keeps m (asked request (receive_counts w.rows rs) store1 s1) _ (asked_keeps m request (receive_counts w.rows rs) store1 s1 low1) (λ answer store2 s2 low2.
    then_keeps m (take_in w.rows rs answer store2 s2) _ (taken_in_keeps m w.rows rs answer store2 s2 low2) (λ come. behind_keeps m address alternative none come all is)))

-- ---- statements

opened_fueled : (n : ℕ) (w : Setting) (r : ℕ) → AreFueled n w → AreFueled n (opened w r)
opened_fueled n w r all = record { some = all.some; calls = all.calls }

mutual
  pub statement_keeps : (n : ℕ) (w : Setting) (a : StatementTree) → AreFueled n w → KeepsAll n (statement_mean w n a)
  statement_keeps n w (statement labelled a h) all m below store s low =
      labelled_keeps m (is_label labelled a) (at_region (region_in a) w (λ w1 store1 s1. caught (action_mean w1 n a store1 s1) (handler_mean w1 n h)) store s)
      (region_keeps m (region_in a) w (λ w1 store1 s1. caught (action_mean w1 n a store1 s1) (handler_mean w1 n h))
      (λ store1 s1 low1. caught_keeps m (action_mean w n a store1 s1) (handler_mean w n h) (action_keeps n w a all m below store1 s1 low1) (λ x. handler_keeps n w h x all m below))
      (λ r store1 s1 low1. caught_keeps m (action_mean (opened w r) n a store1 s1) (handler_mean (opened w r) n h) (action_keeps n (opened w r) a (opened_fueled n w r all) m below store1 s1 low1) (λ x. handler_keeps n (opened w r) h x (opened_fueled n w r all) m below)) store s low)

  pub handler_keeps : (n : ℕ) (w : Setting) (h : HandlerNode) (x : Exc) → AreFueled n w → KeepsAll n (handler_mean w n h x)
  handler_keeps n w no_handler x all m below store s low = low
  handler_keeps n w (handler hs o) x all m below store s low =
      alternatives_keep n w hs (otherwise_mean w n o (Raised x)) x all (otherwise_keeps n w o (Raised x) all (λ m' below' store1 s1 low1. low1)) m below store s low

  alternatives_keep : (n : ℕ) (w : Setting) (hs : HandledNodes) (last : Meaning (Unit {0})) (x : Exc) → AreFueled n w → KeepsAll n last → KeepsAll n (alternatives_mean w n hs last x)
  alternatives_keep n w no_handled last x all is m below store s low = is m below store s low
  alternatives_keep n w (more_handled names ss hs) last x all is m below store s low =
      if_within m (names_exception names x) _ _ (statements_keep n w ss all m below store s low) (alternatives_keep n w hs last x all is m below store s low)

  otherwise_keeps : (n : ℕ) (w : Setting) (o : OtherwiseNode) (none : Meaning (Unit {0})) → AreFueled n w → KeepsAll n none → KeepsAll n (otherwise_mean w n o none)
  otherwise_keeps n w no_otherwise none all is m below store s low = is m below store s low
  otherwise_keeps n w (otherwise ss) none all is m below store s low = statements_keep n w ss all m below store s low

  pub statements_keep : (n : ℕ) (w : Setting) (ss : StatementNodes) → AreFueled n w → KeepsAll n (statements_mean w n ss)
  statements_keep n w no_statements all m below store s low = low
  statements_keep n w (more_statements a ss) all m below store s low = then_keeps m (statement_mean w n a store s) _ (statement_keeps n w a all m below store s low) (λ _. statements_keep n w ss all m below)

  action_keeps : (n : ℕ) (w : Setting) (a : ActionTree) → AreFueled n w → KeepsAll n (action_mean w n a)
  action_keeps n w do_nothing all m below store s low = low
  action_keeps n w (declare names r) all m below store s low = then_keeps m (received_mean w r store s) _ (received_keeps m w r (all.calls m below) store s low) (λ xs. names_keep m names xs)
  action_keeps n w (set_lowest locals xs) all m below store s low = low
  action_keeps n w (module_at ss) all m below store s low = statements_keep n w ss all m below store s low
  action_keeps n w (region_at r ss) all m below store s low = statements_keep n w ss all m below store s low
  action_keeps n w (assign l r) all m below store s low =
      then_keeps m (location_mean w l store s) _ (location_keeps m w l (all.calls m below) store s low) (λ address store1 s1 low1.
      then_keeps m (received_mean w r store1 s1) _ (received_keeps m w r (all.calls m below) store1 s1 low1) (λ xs. assign_keeps m (location_count l) address xs))
  action_keeps n w (update l o e bounds) all m below store s low =
      then_keeps m (location_mean w l store s) _ (location_keeps m w l (all.calls m below) store s low) (λ address store1 s1 low1.
      then_keeps m (read_at (location_count l) address store1 s1) _ (read_keeps m (location_count l) address store1 s1 low1) (λ xs store2 s2 low2.
      then_keeps m (binary_with o xs (expr_mean w e) store2 s2) _ (binary_keeps m o xs (expr_mean w e) (expr_keeps m w e (all.calls m below)) store2 s2 low2) (λ ys store3 s3 low3.
      then_keeps m (tested bounds ys store3 s3) _ (tested_keeps m bounds ys store3 s3 low3) (λ zs. assign_keeps m (location_count l) address zs))))
  action_keeps n w (perform t) all m below store s low = then_keeps m (call_mean w t store s) _ (call_tree_keeps m w t (all.calls m below) store s low) (λ xs store1 s1 low1. low1)
  action_keeps n w (drop_routine r e) all m below store s low =
      then_keeps m (expr_mean w e store s) _ (expr_keeps m w e (all.calls m below) store s low) (λ xs store1 s1 low1.
      then_keeps m (as_computed (routine_value r xs) store1 s1) _ (computed_keeps m (routine_value r xs) store1 s1 low1) (λ ys store2 s2 low2. low2))
  action_keeps n w (evaluate e) all m below store s low = then_keeps m (expr_mean w e store s) _ (expr_keeps m w e (all.calls m below) store s low) (λ xs store1 s1 low1. low1)
  action_keeps n w (put_int e) all m below store s low = then_keeps m (expr_mean w e store s) _ (expr_keeps m w e (all.calls m below) store s low) (λ xs. done_keeps m (Put (decimal_text (sole_number xs))))
  action_keeps n w (put_text e) all m below store s low = then_keeps m (expr_mean w e store s) _ (expr_keeps m w e (all.calls m below) store s low) (λ xs. put_keeps m (bytes_of xs))
  action_keeps n w put_line all m below store s low = done_keeps m (Put (10 ∷ [])) store s low
  action_keeps n w (exit_from k) all m below store s low = low
  action_keeps n w (return_with r) all m below store s low = return_keeps m w r (all.calls m below) store s low
  action_keeps n w (set_result r) all m below store s low = result_keeps m w r (all.calls m below) store s low
  action_keeps n w (assert_that e) all m below store s low =
      then_keeps m (expr_mean w e store s) _ (expr_keeps m w e (all.calls m below) store s low) (λ xs store1 s1 low1. if_within m (is_true xs) _ _ low1 low1)
  action_keeps n w (cause x) all m below store s low = low
  action_keeps n w stop all m below store s low = finish_keeps (Unit {0}) m Stopped [] store s low
  action_keeps n w (start_of t) all m below store s low = then_keeps m (start_mean w t store s) _ (start_keeps m w t (all.calls m below) store s low) (λ xs store1 s1 low1. low1)
  action_keeps n w (delay e priority) all m below store s low = done_keeps m (Delay (record { thing = e; number = 0 } ∷ []) priority) store s low
  action_keeps n w (continue_at e) all m below store s low = done_keeps m (Continue e) store s low
  action_keeps n w (send t priority) all m below store s low = sent_keeps m w t priority (all.calls m below) store s low
  action_keeps n w (if_then cs ss) all m below store s low = choices_keep n w cs (statements_mean w n ss) all (statements_keep n w ss all) m below store s low
  action_keeps n w (case_of e cs o) all m below store s low =
      then_keeps m (expr_mean w e store s) _ (expr_keeps m w e (all.calls m below) store s low) (λ xs.
      cases_keep n w cs (otherwise_mean w n o (Raised Rangefail)) (sole_number xs) all (otherwise_keeps n w o (Raised Rangefail) all (λ m' below' store1 s1 low1. low1)) m below)
  action_keeps n w (do_loop control ss) all m below store s low = loop_keeps n w control (statements_mean w n ss) all (statements_keep n w ss all) m below store s low
  action_keeps n w (begin_end ss) all m below store s low = statements_keep n w ss all m below store s low
  action_keeps n w (delay_case set priority ds) all m below store s low = delay_keeps m w set priority ds (delay_mean w n ds) (all.calls m below) (λ k. delays_keep n w ds k all m below) store s low
  action_keeps n w (receive_buffers set rs o) all m below store s low =
      receive_keeps m w (ReceiveBuffer (receive_list 0 rs) (is_written o)) set rs (receive_mean w n rs) (otherwise_mean w n o skip) (all.calls m below) (λ k. receives_keep n w rs k all m below) (otherwise_keeps n w o skip all (λ m' below' store1 s1 low1. low1) m below) store s low
  action_keeps n w (receive_signals set rs o) all m below store s low =
      receive_keeps m w (ReceiveSignal (receive_list 0 rs) (is_written o)) set rs (receive_mean w n rs) (otherwise_mean w n o skip) (all.calls m below) (λ k. receives_keep n w rs k all m below) (otherwise_keeps n w o skip all (λ m' below' store1 s1 low1. low1) m below) store s low

  choices_keep : (n : ℕ) (w : Setting) (cs : ChoiceNodes) (last : Meaning (Unit {0})) → AreFueled n w → KeepsAll n last → KeepsAll n (choices_mean w n cs last)
  choices_keep n w no_choices last all is m below store s low = is m below store s low
  choices_keep n w (more_choices e ss cs) last all is m below store s low =
      then_keeps m (expr_mean w e store s) _ (expr_keeps m w e (all.calls m below) store s low) (λ xs store1 s1 low1.
      if_within m (is_true xs) _ _ (statements_keep n w ss all m below store1 s1 low1) (choices_keep n w cs last all is m below store1 s1 low1))

  cases_keep : (n : ℕ) (w : Setting) (cs : CaseNodes) (last : Meaning (Unit {0})) (x : ℤ) → AreFueled n w → KeepsAll n last → KeepsAll n (cases_mean w n cs last x)
  cases_keep n w no_cases last x all is m below store s low = is m below store s low
  cases_keep n w (more_cases labels ss cs) last x all is m below store s low =
      if_within m (holds_one x labels) _ _ (statements_keep n w ss all m below store s low) (cases_keep n w cs last x all is m below store s low)

  delays_keep : (n : ℕ) (w : Setting) (ds : DelayNodes) (k : ℕ) → AreFueled n w → KeepsAll n (delay_mean w n ds k)
  delays_keep n w no_delays k all m below store s low = low
  delays_keep n w (more_delays es ss ds) zero all m below store s low = statements_keep n w ss all m below store s low
  delays_keep n w (more_delays es ss ds) (suc k) all m below store s low = delays_keep n w ds k all m below store s low

  receives_keep : (n : ℕ) (w : Setting) (rs : ReceiveNodes) (k : ℕ) → AreFueled n w → KeepsAll n (receive_mean w n rs k)
  receives_keep n w no_receives k all m below store s low = low
  receives_keep n w (more_receives thing is ss rs) zero all m below store s low = statements_keep n w ss all m below store s low
  receives_keep n w (more_receives thing is ss rs) (suc k) all m below store s low = receives_keep n w rs k all m below store s low

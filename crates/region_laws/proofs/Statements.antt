-- What statements ask suits the regions that are open.
use Rattle.std.proofs.Common.{◌≡◌, ℕ, zero, suc, Bool, true, false, List, [], ◌∷◌, ◌++◌, ℤ, pos, refl, arith, length, Option, Some, None}
use Rattle.std.specs.Prelude.{int_le, if◌then◌else◌}
use Rattle.kernel_base.specs.declared.ends.Exc.{Exc}
use Rattle.kernel_base.specs.declared.ends.How.TheVariants.{Stopped}
use Rattle.kernel_base.specs.declared.ends.Exc.TheVariants.{Rangefail}
use Rattle.kernel_base.specs.declared.request.Request.{Request}
use Rattle.kernel_base.specs.declared.request.Request.TheVariants.{Delay, Continue, SendBuffer, ReceiveBuffer, SendSignal, ReceiveSignal, Put}
use Rattle.kernel_base.specs.declared.answer.Answer.{Answer}
use Rattle.kernel_base.specs.declared.answer.Answer.TheVariants.{Got}
use Rattle.modes.specs.ModeTree.{ModeTree}
use Rattle.modes.specs.Form.{FormTree}
use Rattle.checked_program.specs.declared.expr.Base.{Base}
use Rattle.scalar_operators.specs.Numbers.{is_int, where_true, decimal_text}
use Rattle.scalar_operators.specs.Powersets.{first_of_list}
use Rattle.scalar_operators.specs.Members.{offsets_of}
use Rattle.code_types.specs.Operands.{number_in as number_of_32, bytes_of}
use Rattle.code_types.specs.Places.{names_exception}
use Rattle.program_trees.specs.ExprTree.{ExprTree, ReceivedTree, LocationTree, location_count}
use Rattle.program_trees.specs.ProgramTree.{LocalRowTree}
use Rattle.program_trees.specs.StatementTree.{SentTree, to_buffer, signal, ControlTree, while_true, for_ever, for_members, for_steps, StatementTree, statement, ActionTree, do_nothing, declare, set_lowest, module_at, region_at, assign, update, perform, drop_routine, evaluate, put_int, put_text, put_line, exit_from, return_with, set_result, assert_that, cause, stop, start_of, delay, continue_at, send, if_then, case_of, do_loop, begin_end, delay_case, receive_buffers, receive_signals, StatementNodes, no_statements, more_statements, ChoiceNodes, no_choices, more_choices, CaseNodes, no_cases, more_cases, DelayNodes, no_delays, more_delays, ReceiveNodes, no_receives, more_receives, OtherwiseNode, no_otherwise, otherwise, HandledNodes, no_handled, more_handled, HandlerNode, no_handler, handler}
use Rattle.source_meaning.specs.Store.{Address, address_of, with_local}
use Rattle.source_meaning.specs.Flow.{Flow, Raised, Meaning, then_do, asked, done, finish}
use Rattle.source_meaning.specs.Operators.{sole_number, one, is_true, member_at, routine_value, without_offset}
use Rattle.source_meaning.specs.ExprMeaning.{Setting, as_computed, tested, read_at, assign_at, expr_mean, binary_with, received_mean, all_received_mean, location_mean, start_mean, call_mean}
use Rattle.source_meaning.specs.StatementMeaning.{nothing, skip, no_state, set_names, set_to, set_address, put_bytes, send_to, sent_signal, sent_mean, result_mean, return_mean, holds_one, delay_pairs, receive_list, receive_counts, is_written, Come, comes_to, nothing_came, take_in, woken_as, where_holds, next_member, passes_end, next_value, next_step, bound_mean, step_mean, loop_mean, is_open, opened, caught, behind_wait, delay_with, receive_with, statement_mean, handler_mean, alternatives_mean, otherwise_mean, statements_mean, action_mean, choices_mean, cases_mean, delay_mean, receive_mean}
use Rattle.source_meaning.specs.OpenRegions.{open_by}
use Rattle.source_meaning.specs.TypedValues.{Context, HasMode, IsTakenBy}
use Rattle.source_meaning.specs.TypedStatements.{Around, IsSomeCondition, IsReceiver, TakesInstance, AllBasesHave, IsTypedSend, IsStepped, IsTypedControl, IsTypedReturn, Brings, labelled_around, in_region_around, IsTypedStatement, AreTyped, IsTypedHandler, AreTypedAlternatives, IsTypedOtherwise, IsTypedAction, AreTypedChoices, AreTypedCases, AreTypedDelays, AreTypedReceives}
use Rattle.run_laws.proofs.Regions.{has_last}
use Rattle.region_laws.proofs.Traces.{IsAskedWell, FlowIn, Keeps, Any, then_keeps, finish_keeps}
use Rattle.region_laws.proofs.Expressions.{Suits, StandsAs, LiesInside, base_inside, computed_suits, rangefail_suits, tested_suits, done_suits, asks_suit, read_suits, assign_suits, binary_suits, expr_suits, received_suits, all_suit, location_lies, start_suits, call_tree_suits}
use Rattle.region_laws.proofs.Outcomes.{FlowOut, Leads, out, value_leads, then_leads, if_leads, caught_leads, labelled_leads, region_leads, turns_lead}

-- ---- parts of actions

abbrev SuitsAt : {A : Type 0} → Context → Setting → Meaning A → Type 0
SuitsAt c w part = Suits c.program w.open_now part

-- a value of no use, and then another part
then_suit : {A B : Type 0} (c : Context) (w : Setting) (f : Flow A) (next : A → Meaning B) → FlowIn c.program w.open_now Any f → ((v : A) → SuitsAt c w (next v)) → FlowIn c.program w.open_now Any (then_do f next)
then_suit c w f next is all = then_keeps c.program w.open_now Any Any f next is (λ v _. all v)

-- the location behind SET
abbrev SetInside : Context → Setting → Option Address → Type 0
SetInside c w None = Unit {0}
SetInside c w (Some address) = LiesInside c.program w.open_now address

nothing_suits : {A : Type 0} (c : Context) (w : Setting) (v : A) → SuitsAt c w (nothing v)
nothing_suits c w v store s stands = (tt, stands)

names_suit : (c : Context) (w : Setting) (names : List Base) (m : ModeTree) (xs : List ℤ) → StandsAs c w → AllBasesHave c names m → SuitsAt c w (set_names names xs)
names_suit c w [] m xs there has store s stands = (tt, stands)
names_suit c w (b ∷ bs) m xs there has store s stands =
    then_suit c w (assign_at (length xs) (address_of b 0) xs store s) _ (assign_suits c.program w.open_now (length xs) (address_of b 0) xs (base_inside c w b m 0 there (has zero b (omega arith))) store s stands) (λ _. names_suit c w bs m xs there (λ k d low. has (suc k) d (omega (arith, low))))

set_to_suits : (c : Context) (w : Setting) (o : Option Address) (by : ℕ) → SetInside c w o → SuitsAt c w (set_to o by)
set_to_suits c w None by lies store s stands = (tt, stands)
set_to_suits c w (Some address) by lies store s stands = assign_suits c.program w.open_now 1 address (one (pos by)) lies store s stands

set_lies : (c : Context) (w : Setting) (o : Option LocationTree) → StandsAs c w → TakesInstance c o → Keeps c.program w.open_now (SetInside c w) (set_address w o)
set_lies c w None there has store s stands = (tt, stands)
set_lies c w (Some l) there has store s stands =
    then_keeps c.program w.open_now (LiesInside c.program w.open_now) (SetInside c w) (location_mean w l store s) _ (location_lies c w l has.0 there has.1 store s stands) (λ address lies store' s' stands'. (lies, stands'))

-- a request that has to do with no region and starts nothing
abbrev IsQuiet : Context → Setting → Request → Type 0
IsQuiet c w request = (open_by request w.open_now ≡ w.open_now) × IsAskedWell c.program w.open_now request

quiet_done : (c : Context) (w : Setting) (request : Request) → IsQuiet c w request → SuitsAt c w (done request)
quiet_done c w request quiet = done_suits c.program w.open_now request quiet.0 quiet.1

put_suits : (c : Context) (w : Setting) (o : Option (List ℕ)) → SuitsAt c w (put_bytes o)
put_suits c w None store s stands = stands
put_suits c w (Some bytes) store s stands = quiet_done c w (Put bytes) (refl, record { inside = tt; enters = tt; starts = tt }) store s stands

send_to_suits : (c : Context) (w : Setting) (n priority : ℕ) (xs : List ℤ) (o : Option ℕ) → SuitsAt c w (send_to n priority xs o)
send_to_suits c w n priority xs None store s stands = stands
send_to_suits c w n priority xs (Some to) store s stands = quiet_done c w (SendSignal n xs (Some to) priority) (refl, record { inside = tt; enters = tt; starts = tt }) store s stands

signal_suits : (c : Context) (w : Setting) (n priority : ℕ) (o : Option ExprTree) (xs : List ℤ) → StandsAs c w → IsReceiver c o → SuitsAt c w (sent_signal w n priority o xs)
signal_suits c w n priority None xs there has store s stands = quiet_done c w (SendSignal n xs None priority) (refl, record { inside = tt; enters = tt; starts = tt }) store s stands
signal_suits c w n priority (Some e) xs there has store s stands =
    then_suit c w (expr_mean w e store s) _ (expr_suits c w e has.0 there has.1 store s stands) (λ ys. send_to_suits c w n priority xs (number_of_32 (sole_number ys)))

sent_suits : (c : Context) (w : Setting) (t : SentTree) (priority : ℕ) → StandsAs c w → IsTypedSend c t → SuitsAt c w (sent_mean w t priority)
sent_suits c w (to_buffer b r) priority there has store s stands =
    then_suit c w (received_mean w r store s) _ (received_suits c w r has.0 there has.2 store s stands) (λ xs. quiet_done c w (SendBuffer b xs priority) (refl, record { inside = tt; enters = tt; starts = tt }))
sent_suits c w (signal n rs to) priority there has store s stands =
    then_suit c w (all_received_mean w rs store s) _ (all_suit c w rs has.0.0 there has.0.2 store s stands) (λ xs. signal_suits c w n priority to xs there has.1)

result_suits : (c : Context) (w : Setting) (r : ReceivedTree) (m : ModeTree) → StandsAs c w → IsTakenBy c r m → SuitsAt c w (result_mean w r)
result_suits c w r m there has store s stands = then_suit c w (received_mean w r store s) _ (received_suits c w r m there has store s stands) (λ xs store' s' stands'. (tt, stands'))

return_leads : (at : Around) (w : Setting) (o : Option ReceivedTree) → StandsAs at.context w → IsTypedReturn at o → Leads at.context.program w.open_now at (return_mean w o)
return_leads at w None there has store s stands = (has, stands)
return_leads at w (Some r) there has store s stands =
    value_leads at.context.program w.open_now at Any (result_mean w r store s) _ (result_suits at.context w r has.1 there has.3 store s stands) (λ _ _ store' s' stands'. (has.0, stands'))

taken_in_suits : (c : Context) (w : Setting) (rows : List LocalRowTree) (rs : ReceiveNodes) (answer : Answer) → SuitsAt c w (take_in rows rs answer)
taken_in_suits c w rows rs (Got k number xs by) store s stands = (tt, stands)
taken_in_suits c w rows rs answer store s stands = (tt, stands)

-- ---- loops

holds_suits : {C : Type 0} (c : Context) (w : Setting) (o : Option ExprTree) (v : C) → StandsAs c w → IsSomeCondition c o → SuitsAt c w (where_holds w o v)
holds_suits c w None v there has store s stands = (tt, stands)
holds_suits c w (Some e) v there has store s stands = then_suit c w (expr_mean w e store s) _ (expr_suits c w e has.0 there has.1 store s stands) (λ xs store' s' stands'. (tt, stands'))

member_suits : (c : Context) (w : Setting) (counter : ℕ) (low : ℤ) (condition : Option ExprTree) (set : List ℤ) (o : Option ℕ) → StandsAs c w → IsSomeCondition c condition → SuitsAt c w (next_member w counter low condition set o)
member_suits c w counter low condition set None there has store s stands = (tt, stands)
member_suits c w counter low condition set (Some k) there has store s stands =
    then_suit c w (as_computed (member_at low (Some k)) store s) _ (computed_suits c.program w.open_now (member_at low (Some k)) store s stands) (λ xs store1. holds_suits c w condition (without_offset k set) there has (with_local store1 counter xs))

if_suits : {A : Type 0} (c : Context) (w : Setting) (b : Bool) (f g : Flow A) → FlowIn c.program w.open_now Any f → FlowIn c.program w.open_now Any g → FlowIn c.program w.open_now Any (if b then f else g)
if_suits c w true f g x y = x
if_suits c w false f g x y = y

step_suits : (c : Context) (w : Setting) (counter : ℕ) (down : Bool) (by end : ℤ) (condition : Option ExprTree) (value : ℤ) → StandsAs c w → IsSomeCondition c condition → SuitsAt c w (next_step w counter down by end condition value)
step_suits c w counter down by end condition value there has store s stands =
    if_suits c w (passes_end down value end) _ _ (tt, stands) (holds_suits c w condition (next_value down value by) there has (with_local store counter (one value)) s stands)

bound_suits : (c : Context) (w : Setting) (e : ExprTree) (m : ModeTree) → StandsAs c w → HasMode c e m → SuitsAt c w (bound_mean w e)
bound_suits c w e m there has store s stands =
    then_suit c w (expr_mean w e store s) _ (expr_suits c w e m there has store s stands) (λ xs. rangefail_suits c.program w.open_now (where_true (is_int (sole_number xs)) (sole_number xs)))

step_bound_suits : (c : Context) (w : Setting) (o : Option ExprTree) (f : FormTree) → StandsAs c w → IsStepped c o f → SuitsAt c w (step_mean w o)
step_bound_suits c w None f there has store s stands = (tt, stands)
step_bound_suits c w (Some e) f there has store s stands =
    then_suit c w (bound_mean w e store s) _ (bound_suits c w e has.0.0 there has.0.1 store s stands) (λ z. rangefail_suits c.program w.open_now (where_true (int_le (pos 1) z) z))

abbrev LeadsAt : {A : Type 0} → Around → Setting → Meaning A → Type 0
LeadsAt at w part = Leads at.context.program w.open_now at part

value_first : {A B : Type 0} (at : Around) (w : Setting) (f : Flow A) (next : A → Meaning B) → FlowIn at.context.program w.open_now Any f → ((v : A) → LeadsAt at w (next v)) → FlowOut at.context.program w.open_now at (then_do f next)
value_first at w f next is all = value_leads at.context.program w.open_now at Any f next is (λ v _. all v)

suits_out : {A : Type 0} (at : Around) (w : Setting) (part : Meaning A) → SuitsAt at.context w part → LeadsAt at w part
suits_out at w part is store s stands = out at.context.program w.open_now at Any (part store s) (is store s stands)

loop_leads : (at : Around) (w : Setting) (n : ℕ) (t : ControlTree) (body : Meaning (Unit {0})) → StandsAs at.context w → IsTypedControl at.context t → LeadsAt at w body → LeadsAt at w (loop_mean w n t body)
loop_leads at w n (while_true e) body there has is store s stands = turns_lead at.context.program w.open_now at n (where_holds w (Some e)) body no_state (λ v. holds_suits at.context w (Some e) v there has) is store s stands
loop_leads at w n for_ever body there has is store s stands = turns_lead at.context.program w.open_now at n (where_holds w None) body no_state (λ v. holds_suits at.context w None v there tt) is store s stands
loop_leads at w n (for_members counter e low condition) body there has is store s stands =
    value_first at w (expr_mean w e store s) _ (expr_suits at.context w e has.0.0 there has.0.3 store s stands) (λ xs.
    turns_lead at.context.program w.open_now at n (λ set. next_member w counter low condition set (first_of_list (offsets_of set))) body xs (λ set. member_suits at.context w counter low condition set (first_of_list (offsets_of set)) there has.1) is)
loop_leads at w n (for_steps counter e step f down condition) body there has is store s stands =
    value_first at w (bound_mean w e store s) _ (bound_suits at.context w e has.0.1 there has.0.4 store s stands) (λ from store1 s1 stands1.
    value_first at w (step_mean w step store1 s1) _ (step_bound_suits at.context w step _ there has.0.10 store1 s1 stands1) (λ by store2 s2 stands2.
    value_first at w (bound_mean w f store2 s2) _ (bound_suits at.context w f has.0.2 there has.0.5 store2 s2 stands2) (λ end.
    turns_lead at.context.program w.open_now at n (next_step w counter down by end condition) body from (λ value. step_suits at.context w counter down by end condition value there has.1) is)))

quiet_leads : (at : Around) (w : Setting) (request : Request) → IsQuiet at.context w request → LeadsAt at w (done request)
quiet_leads at w request quiet = suits_out at w (done request) (quiet_done at.context w request quiet)

-- ---- waits

behind_leads : (at : Around) (w : Setting) (o : Option Address) (alternative : ℕ → Meaning (Unit {0})) (none : Meaning (Unit {0})) (come : Come) → SetInside at.context w o → ((k : ℕ) → LeadsAt at w (alternative k)) → LeadsAt at w none → LeadsAt at w (behind_wait o alternative none come)
behind_leads at w o alternative none (comes_to k by) lies all is store s stands = value_first at w (set_to o by store s) _ (set_to_suits at.context w o by lies store s stands) (λ _. all k)
behind_leads at w o alternative none nothing_came lies all is store s stands = is store s stands

delay_leads : (at : Around) (w : Setting) (set : Option LocationTree) (priority : ℕ) (ds : DelayNodes) (alternative : ℕ → Meaning (Unit {0})) → StandsAs at.context w → TakesInstance at.context set → ((k : ℕ) → LeadsAt at w (alternative k)) → LeadsAt at w (delay_with w set priority ds alternative)
delay_leads at w set priority ds alternative there has all store s stands =
    value_leads at.context.program w.open_now at (SetInside at.context w) (set_address w set store s) _ (set_lies at.context w set there has store s stands) (λ address lies store1 s1 stands1.
    value_first at w (asked (Delay (delay_pairs 0 ds) priority) [] store1 s1) _ (asks_suit at.context.program w.open_now (Delay (delay_pairs 0 ds) priority) [] refl (record { inside = tt; enters = tt; starts = tt }) store1 s1 stands1) (λ answer.
    behind_leads at w address alternative skip (woken_as answer) lies all (λ store2 s2 stands2. stands2)))

receive_leads : (at : Around) (w : Setting) (request : Request) (set : Option LocationTree) (rs : ReceiveNodes) (alternative : ℕ → Meaning (Unit {0})) (none : Meaning (Unit {0})) → IsQuiet at.context w request → StandsAs at.context w → TakesInstance at.context set
    → ((k : ℕ) → LeadsAt at w (alternative k)) → LeadsAt at w none → LeadsAt at w (receive_with w request set rs alternative none)
receive_leads at w request set rs alternative none quiet there has all is store s stands =
    value_leads at.context.program w.open_now at (SetInside at.context w) (set_address w set store s) _ (set_lies at.context w set there has store s stands) (λ address lies store1 s1 stands1.
    value_first at w (asked request (receive_counts w.rows rs) store1 s1) _ (asks_suit at.context.program w.open_now request (receive_counts w.rows rs) quiet.0 quiet.1 store1 s1 stands1) (λ answer store2 s2 stands2.
    value_first at w (take_in w.rows rs answer store2 s2) _ (taken_in_suits at.context w w.rows rs answer store2 s2 stands2) (λ come. behind_leads at w address alternative none come lies all is)))

-- ---- regions

opened_as : (c : Context) (w : Setting) (r : ℕ) → StandsAs c w → StandsAs (record c { region = Some r }) (opened w r)
opened_as c w r there = record { region = has_last w.open_now r; calls = there.calls }

open_as : (c : Context) (w : Setting) (r : ℕ) → is_open r w.open_now ≡ true → StandsAs c w → StandsAs (record c { region = Some r }) w
open_as c w r is there = record { region = is; calls = there.calls }

-- the actions of a RECEIVE CASE
abbrev AllTyped : Around → ReceiveNodes → Type 0
AllTyped at no_receives = Unit {0}
AllTyped at (more_receives thing is ss rs) = AreTyped at ss × AllTyped at rs

receives_typed : (at : Around) (brings : Brings) (rs : ReceiveNodes) → AreTypedReceives at brings rs → AllTyped at rs
receives_typed at brings no_receives has = tt
receives_typed at brings (more_receives thing is ss rs) has = (has.1, receives_typed at brings rs has.2)

-- ---- statements

mutual
  pub statement_leads : (at : Around) (w : Setting) (n : ℕ) (a : StatementTree) → StandsAs at.context w → IsTypedStatement at a → LeadsAt at w (statement_mean w n a)
  statement_leads at w n (statement labelled (region_at r ss) h) there has store s stands =
      region_leads at.context.program at w r (λ w1 store1 s1. caught (statements_mean w1 n ss store1 s1) (handler_mean w1 n h)) has.0
      (λ is store1 s1 stands1. caught_leads at.context.program w.open_now at (statements_mean w n ss store1 s1) (handler_mean w n h)
      (statements_lead (in_region_around (Some r) at) w n ss (open_as at.context w r is there) has.1.1 store1 s1 stands1) (λ x. handler_leads (in_region_around (Some r) at) w n h x (open_as at.context w r is there) has.2.1))
      (λ shut store1 s1 stands1. caught_leads at.context.program (w.open_now ++ r ∷ []) at (statements_mean (opened w r) n ss store1 s1) (handler_mean (opened w r) n h)
      (statements_lead (in_region_around (Some r) at) (opened w r) n ss (opened_as at.context w r there) has.1.1 store1 s1 stands1) (λ x. handler_leads (in_region_around (Some r) at) (opened w r) n h x (opened_as at.context w r there) has.2.1)) store s stands
  statement_leads at w n (statement true do_nothing h) there has store s stands = stands
  statement_leads at w n (statement false do_nothing h) there has store s stands = stands
  statement_leads at w n (statement labelled (module_at ss) h) there has store s stands =
      caught_leads at.context.program w.open_now at (statements_mean w n ss store s) (handler_mean w n h) (statements_lead at w n ss there has.1 store s stands) (λ x. handler_leads at w n h x there has.2.1)
  statement_leads at w n (statement true a h) there has store s stands =
      labelled_leads at.context.program w.open_now at true (caught (action_mean w n a store s) (handler_mean w n h))
      (caught_leads at.context.program w.open_now (labelled_around true at) (action_mean w n a store s) (handler_mean w n h) (action_leads (labelled_around true at) w n a there has.1 store s stands) (λ x. handler_leads (labelled_around true at) w n h x there has.2.1))
  statement_leads at w n (statement false a h) there has store s stands =
      caught_leads at.context.program w.open_now at (action_mean w n a store s) (handler_mean w n h) (action_leads at w n a there has.1 store s stands) (λ x. handler_leads at w n h x there has.2.1)

  pub handler_leads : (at : Around) (w : Setting) (n : ℕ) (h : HandlerNode) (x : Exc) → StandsAs at.context w → IsTypedHandler at h → LeadsAt at w (handler_mean w n h x)
  handler_leads at w n no_handler x there has store s stands = stands
  handler_leads at w n (handler hs o) x there has store s stands =
      alternatives_lead at w n hs (otherwise_mean w n o (Raised x)) x there has.0 (otherwise_leads at w n o (Raised x) there has.1 (λ store1 s1 stands1. stands1)) store s stands

  alternatives_lead : (at : Around) (w : Setting) (n : ℕ) (hs : HandledNodes) (last : Meaning (Unit {0})) (x : Exc) → StandsAs at.context w → AreTypedAlternatives at hs → LeadsAt at w last → LeadsAt at w (alternatives_mean w n hs last x)
  alternatives_lead at w n no_handled last x there has is store s stands = is store s stands
  alternatives_lead at w n (more_handled names ss hs) last x there has is store s stands =
      if_leads at.context.program w.open_now at (names_exception names x) _ _ (statements_lead at w n ss there has.0 store s stands) (alternatives_lead at w n hs last x there has.1 is store s stands)

  otherwise_leads : (at : Around) (w : Setting) (n : ℕ) (o : OtherwiseNode) (none : Meaning (Unit {0})) → StandsAs at.context w → IsTypedOtherwise at o → LeadsAt at w none → LeadsAt at w (otherwise_mean w n o none)
  otherwise_leads at w n no_otherwise none there has is store s stands = is store s stands
  otherwise_leads at w n (otherwise ss) none there has is store s stands = statements_lead at w n ss there has store s stands

  pub statements_lead : (at : Around) (w : Setting) (n : ℕ) (ss : StatementNodes) → StandsAs at.context w → AreTyped at ss → LeadsAt at w (statements_mean w n ss)
  statements_lead at w n no_statements there has store s stands = stands
  statements_lead at w n (more_statements a ss) there has store s stands =
      then_leads at.context.program w.open_now at (statement_mean w n a store s) _ (statement_leads at w n a there has.0 store s stands) (λ _. statements_lead at w n ss there has.1)

  action_leads : (at : Around) (w : Setting) (n : ℕ) (a : ActionTree) → StandsAs at.context w → IsTypedAction at a → LeadsAt at w (action_mean w n a)
  action_leads at w n do_nothing there has store s stands = stands
  action_leads at w n (declare names r) there has store s stands =
      value_first at w (received_mean w r store s) _ (received_suits at.context w r has.0 there has.2 store s stands) (λ xs. suits_out at w (set_names names xs) (names_suit at.context w names has.0 xs there has.1))
  action_leads at w n (set_lowest locals xs) there has store s stands = stands
  action_leads at w n (module_at ss) there has store s stands = statements_lead at w n ss there has store s stands
  action_leads at w n (region_at r ss) there has store s stands = statements_lead at w n ss there has.1 store s stands
  action_leads at w n (assign l r) there has store s stands =
      value_leads at.context.program w.open_now at (LiesInside at.context.program w.open_now) (location_mean w l store s) _ (location_lies at.context w l has.0 there has.1 store s stands) (λ address lies store1 s1 stands1.
      value_first at w (received_mean w r store1 s1) _ (received_suits at.context w r has.0 there has.2 store1 s1 stands1) (λ xs. suits_out at w (assign_at (location_count l) address xs) (assign_suits at.context.program w.open_now (location_count l) address xs lies)))
  action_leads at w n (update l o e bounds) there has store s stands =
      value_leads at.context.program w.open_now at (LiesInside at.context.program w.open_now) (location_mean w l store s) _ (location_lies at.context w l has.0 there has.3 store s stands) (λ address lies store1 s1 stands1.
      value_first at w (read_at (location_count l) address store1 s1) _ (read_suits at.context.program w.open_now (location_count l) address lies store1 s1 stands1) (λ xs store2 s2 stands2.
      value_first at w (binary_with o xs (expr_mean w e) store2 s2) _ (binary_suits at.context.program w.open_now o xs (expr_mean w e) (expr_suits at.context w e has.1 there has.4) store2 s2 stands2) (λ ys store3 s3 stands3.
      value_first at w (tested bounds ys store3 s3) _ (tested_suits at.context.program w.open_now bounds ys store3 s3 stands3) (λ zs. suits_out at w (assign_at (location_count l) address zs) (assign_suits at.context.program w.open_now (location_count l) address zs lies)))))
  action_leads at w n (perform t) there has store s stands =
      value_first at w (call_mean w t store s) _ (call_tree_suits at.context w t has.0 there has.1 store s stands) (λ xs store1 s1 stands1. stands1)
  action_leads at w n (drop_routine r e) there has store s stands =
      value_first at w (expr_mean w e store s) _ (expr_suits at.context w e has.0 there has.2 store s stands) (λ xs store1 s1 stands1.
      value_first at w (as_computed (routine_value r xs) store1 s1) _ (computed_suits at.context.program w.open_now (routine_value r xs) store1 s1 stands1) (λ ys store2 s2 stands2. stands2))
  action_leads at w n (evaluate e) there has store s stands =
      value_first at w (expr_mean w e store s) _ (expr_suits at.context w e has.0 there has.1 store s stands) (λ xs store1 s1 stands1. stands1)
  action_leads at w n (put_int e) there has store s stands =
      value_first at w (expr_mean w e store s) _ (expr_suits at.context w e has.0 there has.1 store s stands) (λ xs. quiet_leads at w (Put (decimal_text (sole_number xs))) (refl, record { inside = tt; enters = tt; starts = tt }))
  action_leads at w n (put_text e) there has store s stands =
      value_first at w (expr_mean w e store s) _ (expr_suits at.context w e has.0 there has.2 store s stands) (λ xs. suits_out at w (put_bytes (bytes_of xs)) (put_suits at.context w (bytes_of xs)))
  action_leads at w n put_line there has store s stands = quiet_leads at w (Put (10 ∷ [])) (refl, record { inside = tt; enters = tt; starts = tt }) store s stands
  action_leads at w n (exit_from k) there has store s stands = (has, stands)
  action_leads at w n (return_with r) there has store s stands = return_leads at w r there has store s stands
  action_leads at w n (set_result r) there has store s stands =
      value_first at w (received_mean w r store s) _ (received_suits at.context w r has.1 there has.3 store s stands) (λ xs store1 s1 stands1. stands1)
  action_leads at w n (assert_that e) there has store s stands =
      value_first at w (expr_mean w e store s) _ (expr_suits at.context w e has.0 there has.1 store s stands) (λ xs store1 s1 stands1. if_leads at.context.program w.open_now at (is_true xs) _ _ stands1 stands1)
  action_leads at w n (cause x) there has store s stands = stands
  action_leads at w n stop there has store s stands = out at.context.program w.open_now at (Any {A = Unit {0}}) (finish {A = Unit {0}} Stopped [] store s) (finish_keeps at.context.program w.open_now (Any {A = Unit {0}}) Stopped [] store s stands.well)
  action_leads at w n (start_of t) there has store s stands =
      value_first at w (start_mean w t store s) _ (start_suits at.context w t there has store s stands) (λ xs store1 s1 stands1. stands1)
  action_leads at w n (delay e priority) there has store s stands = quiet_leads at w (Delay (record { thing = e; number = 0 } ∷ []) priority) (refl, record { inside = tt; enters = tt; starts = tt }) store s stands
  action_leads at w n (continue_at e) there has store s stands = quiet_leads at w (Continue e) (refl, record { inside = tt; enters = tt; starts = tt }) store s stands
  action_leads at w n (send t priority) there has store s stands = suits_out at w (sent_mean w t priority) (sent_suits at.context w t priority there has.0) store s stands
  action_leads at w n (if_then cs ss) there has store s stands = choices_lead at w n cs (statements_mean w n ss) there has.0 (statements_lead at w n ss there has.1) store s stands
  action_leads at w n (case_of e cs o) there has store s stands =
      value_first at w (expr_mean w e store s) _ (expr_suits at.context w e has.0.0 there has.0.2 store s stands) (λ xs.
      cases_lead at w n cs (otherwise_mean w n o (Raised Rangefail)) (sole_number xs) there has.1 (otherwise_leads at w n o (Raised Rangefail) there has.2 (λ store1 s1 stands1. stands1)))
  action_leads at w n (do_loop control ss) there has store s stands = loop_leads at w n control (statements_mean w n ss) there has.0 (statements_lead at w n ss there has.1) store s stands
  action_leads at w n (begin_end ss) there has store s stands = statements_lead at w n ss there has store s stands
  action_leads at w n (delay_case set priority ds) there has store s stands = delay_leads at w set priority ds (delay_mean w n ds) there has.0 (λ k. delays_lead at w n ds k there has.2) store s stands
  action_leads at w n (receive_buffers set rs o) there has store s stands =
      receive_leads at w (ReceiveBuffer (receive_list 0 rs) (is_written o)) set rs (receive_mean w n rs) (otherwise_mean w n o skip) (refl, record { inside = tt; enters = tt; starts = tt }) there has.0
      (λ k. receives_lead at w n rs k there (receives_typed at _ rs has.1)) (otherwise_leads at w n o skip there has.2 (λ store1 s1 stands1. stands1)) store s stands
  action_leads at w n (receive_signals set rs o) there has store s stands =
      receive_leads at w (ReceiveSignal (receive_list 0 rs) (is_written o)) set rs (receive_mean w n rs) (otherwise_mean w n o skip) (refl, record { inside = tt; enters = tt; starts = tt }) there has.0
      (λ k. receives_lead at w n rs k there (receives_typed at _ rs has.1)) (otherwise_leads at w n o skip there has.2 (λ store1 s1 stands1. stands1)) store s stands

  choices_lead : (at : Around) (w : Setting) (n : ℕ) (cs : ChoiceNodes) (last : Meaning (Unit {0})) → StandsAs at.context w → AreTypedChoices at cs → LeadsAt at w last → LeadsAt at w (choices_mean w n cs last)
  choices_lead at w n no_choices last there has is store s stands = is store s stands
  choices_lead at w n (more_choices e ss cs) last there has is store s stands =
      value_first at w (expr_mean w e store s) _ (expr_suits at.context w e has.0.0 there has.0.1 store s stands) (λ xs store1 s1 stands1.
      if_leads at.context.program w.open_now at (is_true xs) _ _ (statements_lead at w n ss there has.1 store1 s1 stands1) (choices_lead at w n cs last there has.2 is store1 s1 stands1))

  cases_lead : (at : Around) (w : Setting) (n : ℕ) (cs : CaseNodes) (last : Meaning (Unit {0})) (x : ℤ) → StandsAs at.context w → AreTypedCases at cs → LeadsAt at w last → LeadsAt at w (cases_mean w n cs last x)
  cases_lead at w n no_cases last x there has is store s stands = is store s stands
  cases_lead at w n (more_cases labels ss cs) last x there has is store s stands =
      if_leads at.context.program w.open_now at (holds_one x labels) _ _ (statements_lead at w n ss there has.0 store s stands) (cases_lead at w n cs last x there has.1 is store s stands)

  delays_lead : (at : Around) (w : Setting) (n : ℕ) (ds : DelayNodes) (k : ℕ) → StandsAs at.context w → AreTypedDelays at ds → LeadsAt at w (delay_mean w n ds k)
  delays_lead at w n no_delays k there has store s stands = stands
  delays_lead at w n (more_delays es ss ds) zero there has store s stands = statements_lead at w n ss there has.1 store s stands
  delays_lead at w n (more_delays es ss ds) (suc k) there has store s stands = delays_lead at w n ds k there has.2 store s stands

  receives_lead : (at : Around) (w : Setting) (n : ℕ) (rs : ReceiveNodes) (k : ℕ) → StandsAs at.context w → AllTyped at rs → LeadsAt at w (receive_mean w n rs k)
  receives_lead at w n no_receives k there has store s stands = stands
  receives_lead at w n (more_receives thing is ss rs) zero there has store s stands = statements_lead at w n ss there has.0 store s stands
  receives_lead at w n (more_receives thing is ss rs) (suc k) there has store s stands = receives_lead at w n rs k there has.1 store s stands

-- One induction over statements, which joins the laws of each.
use Rattle.std.proofs.Common.{◌≡◌, Bool, true}
use Rattle.program_trees.specs.StatementTree.{StatementTree, statement, ActionTree, do_nothing, declare, set_lowest, module_at, region_at, assign, update, perform, drop_routine, evaluate, put_int, put_text, put_line, exit_from, return_with, set_result, assert_that, cause, stop, start_of, delay, continue_at, send, if_then, case_of, do_loop, begin_end, delay_case, receive_buffers, receive_signals, StatementNodes, no_statements, more_statements, ChoiceNodes, no_choices, more_choices, CaseNodes, no_cases, more_cases, DelayNodes, no_delays, more_delays, ReceiveNodes, no_receives, more_receives, OtherwiseNode, no_otherwise, otherwise, HandledNodes, no_handled, more_handled, HandlerNode, no_handler, handler}
use Rattle.code_laws.proofs.Values.{both_true}
use Rattle.code_laws.specs.Statements.{StatementsLaw}
use Rattle.code_laws.proofs.ControlRuns.{loop_runs}
use Rattle.code_laws.proofs.StayingStatements.{leaves_law}
use Rattle.code_laws.specs.Counters.{statements_keep, statement_keeps, handler_keeps, handled_keep, otherwise_keeps, action_keeps, choices_keep, cases_keep, delays_keep, receives_keep}
use Rattle.statement_code_laws.specs.Actions.{ActionActs}
use Rattle.statement_code_laws.specs.StatementForms.{StatementActs, StatementsAct, SomeAct, EachChoice, EachCase, EachDelay, EachReceive, EachHandled, HandlerActs, JoiningLaw, LoopsAct}
use Rattle.statement_code_laws.proofs.PlainRuns.{plain_law}
use Rattle.statement_code_laws.proofs.AssignRuns.{assignment_law}
use Rattle.statement_code_laws.proofs.LeavingRuns.{leaving_law}
use Rattle.statement_code_laws.proofs.DeclarationRuns.{declaration_law}
use Rattle.statement_code_laws.proofs.CallingRuns.{calling_law}
use Rattle.statement_code_laws.proofs.RequestRuns.{requesting_law}
use Rattle.statement_code_laws.proofs.ChoiceRuns.{ChoicesAct, sequence_acts, nothing_acts, begun_acts, no_choices_act, more_choices_act, if_acts}
use Rattle.statement_code_laws.proofs.CaseRuns.{CasesAct, no_cases_act, more_cases_act, case_acts}
use Rattle.statement_code_laws.proofs.DelayRuns.{DelaysAct, no_delays_act, more_delays_act, delay_acts}
use Rattle.statement_code_laws.proofs.ReceptionRuns.{ReceivesAct, no_receives_act, more_receives_act, buffers_act, signals_act}
use Rattle.statement_code_laws.proofs.LoopActs.{loops_act}
use Rattle.statement_code_laws.proofs.HandlingRuns.{HandledAct, no_handled_act, more_handled_act, statement_acts}

-- ---- what holds statements

choices_act : (cs : ChoiceNodes) → EachChoice cs → ChoicesAct cs
choices_act no_choices each = no_choices_act
choices_act (more_choices e ss cs) each = more_choices_act e ss cs each.0 (choices_act cs each.1)

cases_act : (cs : CaseNodes) → EachCase cs → CasesAct cs
cases_act no_cases each = no_cases_act
cases_act (more_cases labels ss cs) each = more_cases_act labels ss cs each.0 (cases_act cs each.1)

delays_act : (ds : DelayNodes) → EachDelay ds → DelaysAct ds
delays_act no_delays each = no_delays_act
delays_act (more_delays es ss ds) each = more_delays_act es ss ds each.0 (delays_act ds each.1)

receives_act : (rs : ReceiveNodes) → EachReceive rs → ReceivesAct rs
receives_act no_receives each = no_receives_act
receives_act (more_receives source ks ss rs) each = more_receives_act source ks ss rs each.0 (receives_act rs each.1)

pub handled_act : (hs : HandledNodes) → EachHandled hs → HandledAct hs
handled_act no_handled each = no_handled_act
handled_act (more_handled names ss hs) each = more_handled_act names ss hs each.0 (handled_act hs each.1)

with_handler : (t : Bool) (a : ActionTree) (h : HandlerNode) → ActionActs a → HandlerActs h → StatementActs (statement t a h)
with_handler t a no_handler action each = statement_acts t a no_handler action tt
with_handler t a (handler hs o) action each = statement_acts t a (handler hs o) action (handled_act hs each.0, each.1)

pub joining_law : JoiningLaw
joining_law =
    record {
      none = nothing_acts;
      more = sequence_acts;
      begun = begun_acts;
      chosen = λ cs ss each last. if_acts cs ss (choices_act cs each) last;
      selected = λ e cs o each some. case_acts e cs o (cases_act cs each) some;
      delayed = λ set priority ds each. delay_acts set priority ds (delays_act ds each);
      buffers = λ set rs o each some. buffers_act set rs o (receives_act rs each) some;
      signals = λ set rs o each some. signals_act set rs o (receives_act rs each) some;
      handled = with_handler;
    }

-- ---- all statements

pub looping_law : LoopsAct
looping_law = loops_act loop_runs leaves_law

mutual
  pub statements_join : LoopsAct → (ss : StatementNodes) → statements_keep ss ≡ true → StatementsAct ss
  statements_join p no_statements keeps = joining_law.none
  statements_join p (more_statements t ts) keeps = joining_law.more t ts (statement_join p t (both_true _ _ keeps).0) (statements_join p ts (both_true _ _ keeps).1)

  pub statement_join : LoopsAct → (t : StatementTree) → statement_keeps t ≡ true → StatementActs t
  statement_join p (statement t a h) keeps = joining_law.handled t a h (action_join p a (both_true _ _ keeps).0) (handler_join p h (both_true _ _ keeps).1)

  pub handler_join : LoopsAct → (h : HandlerNode) → handler_keeps h ≡ true → HandlerActs h
  handler_join p no_handler keeps = tt
  handler_join p (handler hs o) keeps = (handled_join p hs (both_true _ _ keeps).0, otherwise_join p o (both_true _ _ keeps).1)

  handled_join : LoopsAct → (hs : HandledNodes) → handled_keep hs ≡ true → EachHandled hs
  handled_join p no_handled keeps = tt
  handled_join p (more_handled names ss hs) keeps = (statements_join p ss (both_true _ _ keeps).0, handled_join p hs (both_true _ _ keeps).1)

  otherwise_join : LoopsAct → (o : OtherwiseNode) → otherwise_keeps o ≡ true → SomeAct o
  otherwise_join p no_otherwise keeps = tt
  otherwise_join p (otherwise ss) keeps = statements_join p ss keeps

  choices_join : LoopsAct → (cs : ChoiceNodes) → choices_keep cs ≡ true → EachChoice cs
  choices_join p no_choices keeps = tt
  choices_join p (more_choices e ss cs) keeps = (statements_join p ss (both_true _ _ keeps).0, choices_join p cs (both_true _ _ keeps).1)

  cases_join : LoopsAct → (cs : CaseNodes) → cases_keep cs ≡ true → EachCase cs
  cases_join p no_cases keeps = tt
  cases_join p (more_cases labels ss cs) keeps = (statements_join p ss (both_true _ _ keeps).0, cases_join p cs (both_true _ _ keeps).1)

  delays_join : LoopsAct → (ds : DelayNodes) → delays_keep ds ≡ true → EachDelay ds
  delays_join p no_delays keeps = tt
  delays_join p (more_delays es ss ds) keeps = (statements_join p ss (both_true _ _ keeps).0, delays_join p ds (both_true _ _ keeps).1)

  receives_join : LoopsAct → (rs : ReceiveNodes) → receives_keep rs ≡ true → EachReceive rs
  receives_join p no_receives keeps = tt
  receives_join p (more_receives thing names ss rs) keeps = (statements_join p ss (both_true _ _ keeps).0, receives_join p rs (both_true _ _ keeps).1)

  action_join : LoopsAct → (a : ActionTree) → action_keeps a ≡ true → ActionActs a
  action_join p do_nothing keeps = plain_law.nothing
  action_join p (declare names r) keeps = declaration_law.declared names r
  action_join p (set_lowest locals xs) keeps = declaration_law.lowest locals xs
  action_join p (module_at ss) keeps = λ w v st bodies inside n from stands names fits has. absurd fits
  action_join p (region_at r ss) keeps = λ w v st bodies inside n from stands names fits has. absurd fits
  action_join p (assign l r) keeps = assignment_law.assigned l r
  action_join p (update l o e bounds) keeps = assignment_law.updated l o e bounds
  action_join p (perform c) keeps = calling_law.performed c
  action_join p (drop_routine r e) keeps = plain_law.dropped r e
  action_join p (evaluate e) keeps = plain_law.evaluated e
  action_join p (put_int e) keeps = plain_law.int_put e
  action_join p (put_text e) keeps = plain_law.text_put e
  action_join p put_line keeps = plain_law.line_put
  action_join p (exit_from k) keeps = leaving_law.exited k
  action_join p (return_with r) keeps = leaving_law.returned r
  action_join p (set_result r) keeps = leaving_law.result r
  action_join p (assert_that e) keeps = plain_law.asserted e
  action_join p (cause x) keeps = plain_law.caused x
  action_join p stop keeps = plain_law.stopped
  action_join p (start_of t) keeps = calling_law.started t
  action_join p (delay e priority) keeps = requesting_law.delayed e priority
  action_join p (continue_at e) keeps = requesting_law.continued e
  action_join p (send t priority) keeps = requesting_law.sent t priority
  action_join p (if_then cs ss) keeps = joining_law.chosen cs ss (choices_join p cs (both_true _ _ keeps).0) (statements_join p ss (both_true _ _ keeps).1)
  action_join p (case_of e cs o) keeps = joining_law.selected e cs o (cases_join p cs (both_true _ _ keeps).0) (otherwise_join p o (both_true _ _ keeps).1)
  action_join p (do_loop control ss) keeps = p control ss (both_true _ _ keeps).0 (statements_join p ss (both_true _ _ keeps).1)
  action_join p (begin_end ss) keeps = joining_law.begun ss (statements_join p ss keeps)
  action_join p (delay_case set priority ds) keeps = joining_law.delayed set priority ds (delays_join p ds keeps)
  action_join p (receive_buffers set rs o) keeps = joining_law.buffers set rs o (receives_join p rs (both_true _ _ keeps).0) (otherwise_join p o (both_true _ _ keeps).1)
  action_join p (receive_signals set rs o) keeps = joining_law.signals set rs o (receives_join p rs (both_true _ _ keeps).0) (otherwise_join p o (both_true _ _ keeps).1)

pub statements_law : StatementsLaw
statements_law w v st bodies inside n ss at locals store s stands names fits keeps has covered within h =
    (statements_join looping_law ss keeps w v st bodies inside n at stands names fits has).follows covered store s locals within h

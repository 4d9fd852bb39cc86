-- The code of statements with their rows is a block: by one induction over statements, handlers and alternatives.
use Rattle.std.proofs.Common.{Bool, true, false}
use Rattle.program_trees.specs.StatementTree.{StatementTree, statement, ActionTree, do_nothing, declare, set_lowest, module_at, region_at, assign, update, perform, drop_routine, evaluate, put_int, put_text, put_line, exit_from, return_with, set_result, assert_that, cause, stop, start_of, delay, continue_at, send, if_then, case_of, do_loop, begin_end, delay_case, receive_buffers, receive_signals, StatementNodes, no_statements, more_statements, ChoiceNodes, no_choices, more_choices, CaseNodes, no_cases, more_cases, DelayNodes, no_delays, more_delays, ReceiveNodes, no_receives, more_receives, OtherwiseNode, no_otherwise, otherwise, HandledNodes, no_handled, more_handled, HandlerNode, no_handler, handler}
use Rattle.scheme_heights.proofs.Holding.{ActionHolds, CasesHold, ChoicesHold, DelaysHold, HandledHold, HandlerHolds, OtherwiseHolds, ReceivesHold, StatementHolds, StatementsHold}
use Rattle.scheme_heights.proofs.Handling.{handler_holds, labelled_holds, more_cases_hold, more_choices_hold, more_delays_hold, more_handled_hold, more_receives_hold, more_statements_hold, no_cases_hold, no_choices_hold, no_delays_hold, no_handled_hold, no_handler_holds, no_otherwise_holds, no_receives_hold, no_statements_hold, otherwise_holds, unlabelled_holds}
use Rattle.scheme_heights.proofs.Compound.{begin_holds, buffers_hold, case_holds, delay_holds, if_holds, loop_holds, signals_hold}
use Rattle.scheme_heights.proofs.Simple.{assert_holds, assign_holds, cause_holds, continue_holds, declare_holds, delay_request_holds, evaluate_holds, exit_holds, lowest_holds, module_holds, nothing_holds, perform_holds, put_int_holds, put_line_holds, put_text_holds, region_holds, result_holds, return_holds, routine_holds, send_holds, start_holds, stop_holds, update_holds}

pub either_holds : (labelled : Bool) (a : ActionTree) (h : HandlerNode) → ActionHolds a → HandlerHolds h → StatementHolds (statement labelled a h)
either_holds false a h action_known handler_known = unlabelled_holds a h action_known handler_known
either_holds true a h action_known handler_known = labelled_holds a h action_known handler_known

mutual
  pub statements_hold : (ss : StatementNodes) → StatementsHold ss
  statements_hold no_statements = no_statements_hold
  statements_hold (more_statements s ss) = more_statements_hold s ss (statement_holds s) (statements_hold ss)

  pub statement_holds : (s : StatementTree) → StatementHolds s
  statement_holds (statement labelled a h) = either_holds labelled a h (action_holds a) (handler_node_holds h)

  pub handler_node_holds : (h : HandlerNode) → HandlerHolds h
  handler_node_holds no_handler = no_handler_holds
  handler_node_holds (handler hs o) = handler_holds hs o (handled_hold hs) (otherwise_node_holds o)

  handled_hold : (hs : HandledNodes) → HandledHold hs
  handled_hold no_handled = no_handled_hold
  handled_hold (more_handled names ss hs) = more_handled_hold names ss hs (statements_hold ss) (handled_hold hs)

  otherwise_node_holds : (o : OtherwiseNode) → OtherwiseHolds o
  otherwise_node_holds no_otherwise = no_otherwise_holds
  otherwise_node_holds (otherwise ss) = otherwise_holds ss (statements_hold ss)

  action_holds : (a : ActionTree) → ActionHolds a
  action_holds do_nothing = nothing_holds
  action_holds (declare names r) = declare_holds names r
  action_holds (set_lowest locals xs) = lowest_holds locals xs
  action_holds (module_at ss) = module_holds ss
  action_holds (region_at r ss) = region_holds r ss
  action_holds (assign l r) = assign_holds l r
  action_holds (update l o e bounds) = update_holds l o e bounds
  action_holds (perform c) = perform_holds c
  action_holds (drop_routine r e) = routine_holds r e
  action_holds (evaluate e) = evaluate_holds e
  action_holds (put_int e) = put_int_holds e
  action_holds (put_text e) = put_text_holds e
  action_holds put_line = put_line_holds
  action_holds (exit_from k) = exit_holds k
  action_holds (return_with r) = return_holds r
  action_holds (set_result r) = result_holds r
  action_holds (assert_that e) = assert_holds e
  action_holds (cause x) = cause_holds x
  action_holds stop = stop_holds
  action_holds (start_of t) = start_holds t
  action_holds (delay e priority) = delay_request_holds e priority
  action_holds (continue_at e) = continue_holds e
  action_holds (send sent priority) = send_holds sent priority
  action_holds (if_then cs ss) = if_holds cs ss (choices_hold cs) (statements_hold ss)
  action_holds (case_of e cs o) = case_holds e cs o (cases_hold cs) (otherwise_node_holds o)
  action_holds (do_loop c ss) = loop_holds c ss (statements_hold ss)
  action_holds (begin_end ss) = begin_holds ss (statements_hold ss)
  action_holds (delay_case set priority ds) = delay_holds set priority ds (delays_hold ds)
  action_holds (receive_buffers set rs o) = buffers_hold set rs o (receives_hold rs) (otherwise_node_holds o)
  action_holds (receive_signals set rs o) = signals_hold set rs o (receives_hold rs) (otherwise_node_holds o)

  choices_hold : (cs : ChoiceNodes) → ChoicesHold cs
  choices_hold no_choices = no_choices_hold
  choices_hold (more_choices e ss cs) = more_choices_hold e ss cs (statements_hold ss) (choices_hold cs)

  cases_hold : (cs : CaseNodes) → CasesHold cs
  cases_hold no_cases = no_cases_hold
  cases_hold (more_cases labels ss cs) = more_cases_hold labels ss cs (statements_hold ss) (cases_hold cs)

  delays_hold : (ds : DelayNodes) → DelaysHold ds
  delays_hold no_delays = no_delays_hold
  delays_hold (more_delays es ss ds) = more_delays_hold es ss ds (statements_hold ss) (delays_hold ds)

  receives_hold : (rs : ReceiveNodes) → ReceivesHold rs
  receives_hold no_receives = no_receives_hold
  receives_hold (more_receives source ks ss rs) = more_receives_hold source ks ss rs (statements_hold ss) (receives_hold rs)

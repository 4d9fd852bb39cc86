-- Whether a loop alone sets its counter.
use Rattle.std.specs.Prelude.{ℕ, ◌==◌, Bool, true, not, ◌&&◌, List, Option, Some, None}
use Rattle.std.specs.List.{list_all}
use Rattle.checked_program.specs.declared.expr.Base.{Base}
use Rattle.checked_program.specs.declared.expr.Base.TheVariants.{Shared, Local}
use Rattle.program_trees.specs.ExprTree.{ExprTree, expr, OperationTree, constant, own_instance, contents, part_of, receive, start, call, powerset, parts, uniform, routine, get_int, prefixed, binary, ReceivedTree, received, ReceivedNodes, no_received, more_received, PartNodes, no_parts, field, element, RangeNodes, no_ranges, one_member, members, LocationTree, location, StartTree, started, CallTree, called, ArgumentNodes, no_arguments, in_argument, out_argument, inout_argument}
use Rattle.program_trees.specs.StatementTree.{SentTree, to_buffer, signal, ControlTree, while_true, for_ever, for_members, for_steps, StatementTree, statement, ActionTree, do_nothing, declare, set_lowest, module_at, region_at, assign, update, perform, drop_routine, evaluate, put_int, put_text, put_line, exit_from, return_with, set_result, assert_that, cause, stop, start_of, delay, continue_at, send, if_then, case_of, do_loop, begin_end, delay_case, receive_buffers, receive_signals, StatementNodes, no_statements, more_statements, ChoiceNodes, no_choices, more_choices, CaseNodes, no_cases, more_cases, DelayNodes, no_delays, more_delays, ReceiveNodes, no_receives, more_receives, OtherwiseNode, no_otherwise, otherwise, HandledNodes, no_handled, more_handled, HandlerNode, no_handler, handler}

-- ---- whether an expression leaves a local as it is

-- another local, or a shared location
abbrev pub is_other : ℕ → Base → Bool
is_other i (Shared l) = true
is_other i (Local k) = not (k == i)

abbrev mutual
  pub expr_leaves : ℕ → ExprTree → Bool
  expr_leaves i (expr n own o) = operation_leaves i o

  pub operation_leaves : ℕ → OperationTree → Bool
  operation_leaves i (constant xs) = true
  operation_leaves i own_instance = true
  operation_leaves i (contents l) = place_leaves i l
  operation_leaves i (part_of e ps) = expr_leaves i e && parts_leave i ps
  operation_leaves i (receive b) = true
  operation_leaves i (start t) = start_leaves i t
  operation_leaves i (call c) = call_leaves i c
  operation_leaves i (powerset b rs) = ranges_leave i rs
  operation_leaves i (parts rs) = all_leave i rs
  operation_leaves i (uniform m r) = received_leaves i r
  operation_leaves i (routine r e) = expr_leaves i e
  operation_leaves i get_int = true
  operation_leaves i (prefixed o e) = expr_leaves i e
  operation_leaves i (binary o a b) = expr_leaves i a && expr_leaves i b

  pub received_leaves : ℕ → ReceivedTree → Bool
  received_leaves i (received e b) = expr_leaves i e

  pub all_leave : ℕ → ReceivedNodes → Bool
  all_leave i no_received = true
  all_leave i (more_received r rs) = received_leaves i r && all_leave i rs

  pub parts_leave : ℕ → PartNodes → Bool
  parts_leave i no_parts = true
  parts_leave i (field first count ps) = parts_leave i ps
  parts_leave i (element e b count ps) = expr_leaves i e && parts_leave i ps

  -- what is done to find a location
  pub place_leaves : ℕ → LocationTree → Bool
  place_leaves i (location b ps n) = parts_leave i ps

  -- the same of a location that is set
  pub target_leaves : ℕ → LocationTree → Bool
  target_leaves i (location b ps n) = is_other i b && parts_leave i ps

  pub ranges_leave : ℕ → RangeNodes → Bool
  ranges_leave i no_ranges = true
  ranges_leave i (one_member e rs) = expr_leaves i e && ranges_leave i rs
  ranges_leave i (members e f rs) = expr_leaves i e && (expr_leaves i f && ranges_leave i rs)

  pub start_leaves : ℕ → StartTree → Bool
  start_leaves i (started p rs) = all_leave i rs

  pub call_leaves : ℕ → CallTree → Bool
  call_leaves i (called b as') = arguments_leave i as'

  pub arguments_leave : ℕ → ArgumentNodes → Bool
  arguments_leave i no_arguments = true
  arguments_leave i (in_argument r as') = received_leaves i r && arguments_leave i as'
  arguments_leave i (out_argument l b as') = target_leaves i l && arguments_leave i as'
  arguments_leave i (inout_argument l t b as') = target_leaves i l && arguments_leave i as'

-- ---- whether statements do

abbrev pub some_leaves : ℕ → Option ExprTree → Bool
some_leaves i None = true
some_leaves i (Some e) = expr_leaves i e

abbrev pub some_received_leaves : ℕ → Option ReceivedTree → Bool
some_received_leaves i None = true
some_received_leaves i (Some r) = received_leaves i r

abbrev pub set_leaves : ℕ → Option LocationTree → Bool
set_leaves i None = true
set_leaves i (Some l) = target_leaves i l

abbrev pub sent_leaves : ℕ → SentTree → Bool
sent_leaves i (to_buffer b r) = received_leaves i r
sent_leaves i (signal n rs to) = all_leave i rs && some_leaves i to

abbrev pub are_others : ℕ → List ℕ → Bool
are_others i ks = list_all (λ k. not (k == i)) ks

abbrev pub control_leaves : ℕ → ControlTree → Bool
control_leaves i (while_true e) = expr_leaves i e
control_leaves i for_ever = true
control_leaves i (for_members counter e low condition) = not (counter == i) && (expr_leaves i e && some_leaves i condition)
control_leaves i (for_steps counter e step f down condition) = not (counter == i) && ((expr_leaves i e && some_leaves i step) && (expr_leaves i f && some_leaves i condition))

abbrev mutual
  pub statements_leave : ℕ → StatementNodes → Bool
  statements_leave i no_statements = true
  statements_leave i (more_statements s ss) = statement_leaves i s && statements_leave i ss

  pub statement_leaves : ℕ → StatementTree → Bool
  statement_leaves i (statement labelled a h) = action_leaves i a && handler_leaves i h

  pub handler_leaves : ℕ → HandlerNode → Bool
  handler_leaves i no_handler = true
  handler_leaves i (handler hs o) = handled_leave i hs && otherwise_leaves i o

  pub handled_leave : ℕ → HandledNodes → Bool
  handled_leave i no_handled = true
  handled_leave i (more_handled names ss hs) = statements_leave i ss && handled_leave i hs

  pub otherwise_leaves : ℕ → OtherwiseNode → Bool
  otherwise_leaves i no_otherwise = true
  otherwise_leaves i (otherwise ss) = statements_leave i ss

  pub action_leaves : ℕ → ActionTree → Bool
  action_leaves i do_nothing = true
  action_leaves i (declare names r) = list_all (is_other i) names && received_leaves i r
  action_leaves i (set_lowest locals xs) = are_others i locals
  action_leaves i (module_at ss) = statements_leave i ss
  action_leaves i (region_at r ss) = statements_leave i ss
  action_leaves i (assign l r) = target_leaves i l && received_leaves i r
  action_leaves i (update l o e bounds) = target_leaves i l && expr_leaves i e
  action_leaves i (perform t) = call_leaves i t
  action_leaves i (drop_routine r e) = expr_leaves i e
  action_leaves i (evaluate e) = expr_leaves i e
  action_leaves i (put_int e) = expr_leaves i e
  action_leaves i (put_text e) = expr_leaves i e
  action_leaves i put_line = true
  action_leaves i (exit_from k) = true
  action_leaves i (return_with r) = some_received_leaves i r
  action_leaves i (set_result r) = received_leaves i r
  action_leaves i (assert_that e) = expr_leaves i e
  action_leaves i (cause x) = true
  action_leaves i stop = true
  action_leaves i (start_of t) = start_leaves i t
  action_leaves i (delay e priority) = true
  action_leaves i (continue_at e) = true
  action_leaves i (send sent priority) = sent_leaves i sent
  action_leaves i (if_then cs ss) = choices_leave i cs && statements_leave i ss
  action_leaves i (case_of e cs o) = expr_leaves i e && (cases_leave i cs && otherwise_leaves i o)
  action_leaves i (do_loop control ss) = control_leaves i control && statements_leave i ss
  action_leaves i (begin_end ss) = statements_leave i ss
  action_leaves i (delay_case set priority ds) = set_leaves i set && delays_leave i ds
  action_leaves i (receive_buffers set rs o) = set_leaves i set && (receives_leave i rs && otherwise_leaves i o)
  action_leaves i (receive_signals set rs o) = set_leaves i set && (receives_leave i rs && otherwise_leaves i o)

  pub choices_leave : ℕ → ChoiceNodes → Bool
  choices_leave i no_choices = true
  choices_leave i (more_choices e ss cs) = expr_leaves i e && (statements_leave i ss && choices_leave i cs)

  pub cases_leave : ℕ → CaseNodes → Bool
  cases_leave i no_cases = true
  cases_leave i (more_cases labels ss cs) = statements_leave i ss && cases_leave i cs

  pub delays_leave : ℕ → DelayNodes → Bool
  delays_leave i no_delays = true
  delays_leave i (more_delays es ss ds) = statements_leave i ss && delays_leave i ds

  pub receives_leave : ℕ → ReceiveNodes → Bool
  receives_leave i no_receives = true
  receives_leave i (more_receives thing is ss rs) = are_others i is && (statements_leave i ss && receives_leave i rs)

-- ---- loops whose counters are set by them alone

-- the condition and the actions of a loop that counts leave its counter; what is left of a powerset stands elsewhere
abbrev pub loop_keeps : ControlTree → StatementNodes → Bool
loop_keeps (for_steps counter e step f down condition) ss = some_leaves counter condition && statements_leave counter ss
loop_keeps control ss = true

abbrev mutual
  pub statements_keep : StatementNodes → Bool
  statements_keep no_statements = true
  statements_keep (more_statements s ss) = statement_keeps s && statements_keep ss

  pub statement_keeps : StatementTree → Bool
  statement_keeps (statement labelled a h) = action_keeps a && handler_keeps h

  pub handler_keeps : HandlerNode → Bool
  handler_keeps no_handler = true
  handler_keeps (handler hs o) = handled_keep hs && otherwise_keeps o

  pub handled_keep : HandledNodes → Bool
  handled_keep no_handled = true
  handled_keep (more_handled names ss hs) = statements_keep ss && handled_keep hs

  pub otherwise_keeps : OtherwiseNode → Bool
  otherwise_keeps no_otherwise = true
  otherwise_keeps (otherwise ss) = statements_keep ss

  pub action_keeps : ActionTree → Bool
  action_keeps (module_at ss) = statements_keep ss
  action_keeps (region_at r ss) = statements_keep ss
  action_keeps (if_then cs ss) = choices_keep cs && statements_keep ss
  action_keeps (case_of e cs o) = cases_keep cs && otherwise_keeps o
  action_keeps (do_loop control ss) = loop_keeps control ss && statements_keep ss
  action_keeps (begin_end ss) = statements_keep ss
  action_keeps (delay_case set priority ds) = delays_keep ds
  action_keeps (receive_buffers set rs o) = receives_keep rs && otherwise_keeps o
  action_keeps (receive_signals set rs o) = receives_keep rs && otherwise_keeps o
  action_keeps a = true

  pub choices_keep : ChoiceNodes → Bool
  choices_keep no_choices = true
  choices_keep (more_choices e ss cs) = statements_keep ss && choices_keep cs

  pub cases_keep : CaseNodes → Bool
  cases_keep no_cases = true
  cases_keep (more_cases labels ss cs) = statements_keep ss && cases_keep cs

  pub delays_keep : DelayNodes → Bool
  delays_keep no_delays = true
  delays_keep (more_delays es ss ds) = statements_keep ss && delays_keep ds

  pub receives_keep : ReceiveNodes → Bool
  receives_keep no_receives = true
  receives_keep (more_receives thing is ss rs) = statements_keep ss && receives_keep rs

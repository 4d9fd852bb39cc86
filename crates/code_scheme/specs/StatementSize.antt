-- How many instructions statements have: what the targets of jumps are found from.
use Rattle.std.specs.Prelude.{ℕ, suc, ◌+◌, Bool, false, List, [], ◌∷◌, ◌++◌, pos, length, if◌then◌else◌}
use Rattle.modes.specs.declared.mode.Bounds.{Bounds}
use Rattle.code_types.specs.declared.instr.Instr.{Instr}
use Rattle.code_types.specs.declared.instr.Instr.TheVariants as i
use Rattle.program_trees.specs.StatementTree.{StatementTree, statement, ActionTree, do_nothing, declare, set_lowest, module_at, region_at, assign, update, perform, drop_routine, evaluate, put_int, put_text, put_line, exit_from, return_with, set_result, assert_that, cause, stop, start_of, delay, continue_at, send, if_then, case_of, do_loop, begin_end, delay_case, receive_buffers, receive_signals, StatementNodes, no_statements, more_statements, ChoiceNodes, no_choices, more_choices, CaseNodes, no_cases, more_cases, DelayNodes, no_delays, more_delays, ReceiveNodes, no_receives, more_receives, OtherwiseNode, no_otherwise, otherwise, HandledNodes, no_handled, more_handled, HandlerNode, no_handler, handler}
use Rattle.code_scheme.specs.Pieces.{are_same}
use Rattle.code_scheme.specs.ExprSizes.{expr_size, start_size, condition_size}
use Rattle.code_scheme.specs.StatementSite.{Site}
use Rattle.code_scheme.specs.StatementGoing.{go_on, goes_on, action_goes_on, joined}
use Rattle.code_scheme.specs.StatementPlain.{declare_size, set_lowest_size, assign_size, update_size, return_size, set_result_size, perform_size, drop_routine_size, assert_size, send_size}
use Rattle.code_scheme.specs.StatementLoops.{control_size}
use Rattle.code_scheme.specs.StatementWaits.{has_else, delay_wait_size, receive_wait_size}

-- ---- labels of a CASE, whose selector is kept in a scratch local

-- whether a label holds the selector
abbrev pub label_code : ℕ → Bounds → List Instr
label_code kept b =
    if are_same b.low b.high
    then i.Local kept 1 ∷ i.Push b.low ∷ i.Same 1 ∷ []
    else i.Local kept 1 ∷ i.Push b.low ∷ i.Less 1 ∷ i.Push b.high ∷ i.Local kept 1 ∷ i.Less 1 ∷ i.Or ∷ i.Not ∷ []

-- whether one of further labels does, or what is known
abbrev pub more_labels_code : ℕ → List Bounds → List Instr
more_labels_code kept [] = []
more_labels_code kept (b ∷ bs) = label_code kept b ++ (i.Or ∷ more_labels_code kept bs)

-- whether one of the labels does
abbrev pub labels_code : ℕ → List Bounds → List Instr
labels_code kept [] = i.Push (pos 0) ∷ []
labels_code kept (b ∷ bs) = label_code kept b ++ more_labels_code kept bs

abbrev pub labels_size : List Bounds → ℕ
labels_size bs = length (labels_code 0 bs)

-- how many instructions lead back to the test before a turn
abbrev pub turn_back_size : Bool → ℕ
turn_back_size goes = if goes then 1 else 0

-- ---- statements; a part is counted with the jump behind it and what stands behind that

abbrev mutual
  pub statements_size : Site → StatementNodes → ℕ
  statements_size site no_statements = 0
  statements_size site (more_statements s ss) = statement_size site s + (if goes_on s then statements_size site ss else 0)

  -- a statement with its handler
  pub statement_size : Site → StatementTree → ℕ
  statement_size site (statement labelled a h) = joined (action_size site a) (action_goes_on a) (handler_size site h)

  pub handler_size : Site → HandlerNode → ℕ
  handler_size site no_handler = 0
  handler_size site (handler hs o) = handled_size site hs (otherwise_size site o 0)

  -- alternatives of a handler, and so many instructions behind them
  pub handled_size : Site → HandledNodes → ℕ → ℕ
  handled_size site no_handled last = last
  handled_size site (more_handled names ss hs) last = joined (statements_size site ss) (go_on ss) (handled_size site hs last)

  -- ELSE, or so many instructions where none is written
  pub otherwise_size : Site → OtherwiseNode → ℕ → ℕ
  otherwise_size site no_otherwise none = none
  otherwise_size site (otherwise ss) none = statements_size site ss

  -- an action; a modulion stands in no statement, so its size is never asked, and it counts nothing
  pub action_size : Site → ActionTree → ℕ
  action_size site do_nothing = 0
  action_size site (declare names r) = declare_size names r
  action_size site (set_lowest locals xs) = set_lowest_size locals xs
  action_size site (module_at ss) = 0
  action_size site (region_at r ss) = 0
  action_size site (assign l r) = assign_size l r
  action_size site (update l o e bounds) = update_size l o e bounds
  action_size site (perform c) = perform_size site c
  action_size site (drop_routine r e) = drop_routine_size r e
  action_size site (evaluate e) = expr_size e + 1
  action_size site (put_int e) = expr_size e + 1
  action_size site (put_text e) = expr_size e + 1
  action_size site put_line = 1
  action_size site (exit_from k) = 1
  action_size site (return_with r) = return_size site r
  action_size site (set_result r) = set_result_size r
  action_size site (assert_that e) = assert_size e
  action_size site (cause x) = 1
  action_size site stop = 1
  action_size site (start_of t) = start_size t + 1
  action_size site (delay e priority) = 4
  action_size site (continue_at e) = 1
  action_size site (send sent priority) = send_size sent
  action_size site (if_then cs ss) = choices_size site cs (statements_size site ss)
  action_size site (case_of e cs o) = expr_size e + suc (cases_size site cs (otherwise_size site o 1))
  action_size site (do_loop c ss) = control_size c + (statements_size site ss + turn_back_size (go_on ss))
  action_size site (begin_end ss) = statements_size site ss
  action_size site (delay_case set priority ds) = delay_wait_size set ds + delays_size site ds
  action_size site (receive_buffers set rs o) = receive_wait_size set rs (has_else o) + receives_size site rs (otherwise_size site o 0)
  action_size site (receive_signals set rs o) = receive_wait_size set rs (has_else o) + receives_size site rs (otherwise_size site o 0)

  -- the conditions of an IF with their actions, and so many instructions behind them
  pub choices_size : Site → ChoiceNodes → ℕ → ℕ
  choices_size site no_choices last = last
  choices_size site (more_choices e ss cs) last = joined (condition_size e false + statements_size site ss) (go_on ss) (choices_size site cs last)

  pub cases_size : Site → CaseNodes → ℕ → ℕ
  cases_size site no_cases last = last
  cases_size site (more_cases labels ss cs) last =
      joined (labels_size labels + suc (statements_size site ss)) (go_on ss) (cases_size site cs last)

  pub delays_size : Site → DelayNodes → ℕ
  delays_size site no_delays = 0
  delays_size site (more_delays es ss ds) = joined (3 + suc (statements_size site ss)) (go_on ss) (delays_size site ds)

  pub receives_size : Site → ReceiveNodes → ℕ → ℕ
  receives_size site no_receives last = last
  receives_size site (more_receives source ks ss rs) last = joined (3 + suc (statements_size site ss)) (go_on ss) (receives_size site rs last)

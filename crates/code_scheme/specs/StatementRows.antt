-- The handler rows of statements from a place on: those of what a handler guards, its own, and those of its actions.
use Rattle.std.specs.Prelude.{ℕ, suc, ◌+◌, Bool, true, false, List, [], ◌∷◌, ◌++◌, if◌then◌else◌}
use Rattle.code_types.specs.declared.code.Handler.{Handler}
use Rattle.program_trees.specs.StatementTree.{StatementTree, statement, ActionTree, do_nothing, declare, set_lowest, module_at, region_at, assign, update, perform, drop_routine, evaluate, put_int, put_text, put_line, exit_from, return_with, set_result, assert_that, cause, stop, start_of, delay, continue_at, send, if_then, case_of, do_loop, begin_end, delay_case, receive_buffers, receive_signals, StatementNodes, no_statements, more_statements, ChoiceNodes, no_choices, more_choices, CaseNodes, no_cases, more_cases, DelayNodes, no_delays, more_delays, ReceiveNodes, no_receives, more_receives, OtherwiseNode, no_otherwise, otherwise, HandledNodes, no_handled, more_handled, HandlerNode, no_handler, handler}
use Rattle.code_scheme.specs.ExprSizes.{expr_size, condition_size}
use Rattle.code_scheme.specs.StatementSite.{Site}
use Rattle.code_scheme.specs.StatementGoing.{go_on, goes_on, action_goes_on, leave_size}
use Rattle.code_scheme.specs.StatementLoops.{control_size}
use Rattle.code_scheme.specs.StatementWaits.{has_else, delay_wait_size, receive_wait_size}
use Rattle.code_scheme.specs.StatementSize.{labels_size, statements_size, statement_size, handler_size, handled_size, otherwise_size, choices_size, cases_size, delays_size, receives_size, action_size}
use Rattle.code_scheme.specs.StatementCode.{next_place}

-- rows of what stands from a place on
abbrev pub RowsAt : Type 0
RowsAt = ℕ → List Handler

abbrev pub no_rows : RowsAt
no_rows at = []

-- a row for the instructions from one place up to another, which leaves nothing on the stack
abbrev pub row_for : ℕ → ℕ → List ℕ → Bool → ℕ → Handler
row_for from until names is_else target =
    record { from = from; until = until; height = 0; names = names; otherwise = is_else; target = target }

-- a row for ELSE, where it is written
abbrev pub else_row : ℕ → ℕ → OtherwiseNode → ℕ → List Handler
else_row from until no_otherwise target = []
else_row from until (otherwise ss) target = row_for from until [] true target ∷ []

-- A handler's own rows: one for each alternative, the first of which has this place, and one for ELSE.
abbrev pub own_rows : Site → ℕ → ℕ → HandledNodes → OtherwiseNode → ℕ → List Handler
own_rows site from until no_handled o target = else_row from until o target
own_rows site from until (more_handled names ss hs) o target =
    row_for from until names false target ∷
    own_rows site from until hs o (next_place target (statements_size site ss) (go_on ss) (handled_size site hs (otherwise_size site o 0)))

abbrev mutual
  pub statements_rows : Site → StatementNodes → ℕ → List Handler
  statements_rows site no_statements at = []
  statements_rows site (more_statements s ss) at =
      statement_rows site s at ++ (if goes_on s then statements_rows site ss (at + statement_size site s) else [])

  pub statement_rows : Site → StatementTree → ℕ → List Handler
  statement_rows site (statement labelled a h) at =
      action_rows site a at ++ handler_rows site h (action_goes_on a) at (at + action_size site a)

  -- a handler of what stands from one place up to another, where it begins itself
  pub handler_rows : Site → HandlerNode → Bool → ℕ → ℕ → List Handler
  handler_rows site no_handler comes from at = []
  handler_rows site (handler hs o) comes from at =
      own_rows site from at hs o (at + leave_size comes (handler_size site (handler hs o))) ++
      handled_rows site hs (otherwise_size site o 0) (otherwise_rows site o) (at + leave_size comes (handler_size site (handler hs o)))

  -- those in its alternatives, and in what stands behind them, which has so many instructions
  pub handled_rows : Site → HandledNodes → ℕ → RowsAt → ℕ → List Handler
  handled_rows site no_handled last rest at = rest at
  handled_rows site (more_handled names ss hs) last rest at =
      statements_rows site ss at ++
      handled_rows site hs last rest (next_place at (statements_size site ss) (go_on ss) (handled_size site hs last))

  pub otherwise_rows : Site → OtherwiseNode → ℕ → List Handler
  otherwise_rows site no_otherwise at = []
  otherwise_rows site (otherwise ss) at = statements_rows site ss at

  pub action_rows : Site → ActionTree → ℕ → List Handler
  action_rows site do_nothing at = []
  action_rows site (declare names r) at = []
  action_rows site (set_lowest locals xs) at = []
  action_rows site (module_at ss) at = []
  action_rows site (region_at r ss) at = []
  action_rows site (assign l r) at = []
  action_rows site (update l o e bounds) at = []
  action_rows site (perform c) at = []
  action_rows site (drop_routine r e) at = []
  action_rows site (evaluate e) at = []
  action_rows site (put_int e) at = []
  action_rows site (put_text e) at = []
  action_rows site put_line at = []
  action_rows site (exit_from k) at = []
  action_rows site (return_with r) at = []
  action_rows site (set_result r) at = []
  action_rows site (assert_that e) at = []
  action_rows site (cause x) at = []
  action_rows site stop at = []
  action_rows site (start_of t) at = []
  action_rows site (delay e priority) at = []
  action_rows site (continue_at e) at = []
  action_rows site (send sent priority) at = []
  action_rows site (if_then cs ss) at = choices_rows site cs (statements_size site ss) (statements_rows site ss) at
  action_rows site (case_of e cs o) at = cases_rows site cs (otherwise_size site o 1) (otherwise_rows site o) (at + (expr_size e + 1))
  action_rows site (do_loop c ss) at = statements_rows site ss (at + control_size c)
  action_rows site (begin_end ss) at = statements_rows site ss at
  action_rows site (delay_case set priority ds) at = delays_rows site ds (at + delay_wait_size set ds)
  action_rows site (receive_buffers set rs o) at =
      receives_rows site rs (otherwise_size site o 0) (otherwise_rows site o) (at + receive_wait_size set rs (has_else o))
  action_rows site (receive_signals set rs o) at =
      receives_rows site rs (otherwise_size site o 0) (otherwise_rows site o) (at + receive_wait_size set rs (has_else o))

  pub choices_rows : Site → ChoiceNodes → ℕ → RowsAt → ℕ → List Handler
  choices_rows site no_choices last rest at = rest at
  choices_rows site (more_choices e ss cs) last rest at =
      statements_rows site ss (at + condition_size e false) ++
      choices_rows site cs last rest (next_place at (condition_size e false + statements_size site ss) (go_on ss) (choices_size site cs last))

  pub cases_rows : Site → CaseNodes → ℕ → RowsAt → ℕ → List Handler
  cases_rows site no_cases last rest at = rest at
  cases_rows site (more_cases labels ss cs) last rest at =
      statements_rows site ss (at + labels_size labels + 1) ++
      cases_rows site cs last rest (next_place at (labels_size labels + suc (statements_size site ss)) (go_on ss) (cases_size site cs last))

  pub delays_rows : Site → DelayNodes → ℕ → List Handler
  delays_rows site no_delays at = []
  delays_rows site (more_delays es ss ds) at =
      statements_rows site ss (at + 3 + 1) ++
      delays_rows site ds (next_place at (3 + suc (statements_size site ss)) (go_on ss) (delays_size site ds))

  pub receives_rows : Site → ReceiveNodes → ℕ → RowsAt → ℕ → List Handler
  receives_rows site no_receives last rest at = rest at
  receives_rows site (more_receives source ks ss rs) last rest at =
      statements_rows site ss (at + 3 + 1) ++
      receives_rows site rs last rest (next_place at (3 + suc (statements_size site ss)) (go_on ss) (receives_size site rs last))

-- The code of statements, actions and handlers from a place on.
use Rattle.std.specs.Prelude.{ℕ, suc, ◌+◌, ◌-◌, Bool, true, false, List, [], ◌∷◌, ◌++◌, Option, if◌then◌else◌}
use Rattle.code_types.specs.declared.instr.Instr.{Instr}
use Rattle.code_types.specs.declared.instr.Instr.TheVariants as i
use Rattle.program_trees.specs.ExprTree.{count_of, LocationTree}
use Rattle.program_trees.specs.StatementTree.{ControlTree, StatementTree, statement, ActionTree, do_nothing, declare, set_lowest, module_at, region_at, assign, update, perform, drop_routine, evaluate, put_int, put_text, put_line, exit_from, return_with, set_result, assert_that, cause, stop, start_of, delay, continue_at, send, if_then, case_of, do_loop, begin_end, delay_case, receive_buffers, receive_signals, StatementNodes, no_statements, more_statements, ChoiceNodes, no_choices, more_choices, CaseNodes, no_cases, more_cases, DelayNodes, no_delays, more_delays, ReceiveNodes, no_receives, more_receives, OtherwiseNode, no_otherwise, otherwise, HandledNodes, no_handled, more_handled, HandlerNode, no_handler, handler}
use Rattle.code_scheme.specs.ExprSizes.{expr_size, condition_size}
use Rattle.code_scheme.specs.ExprCode.{condition_code}
use Rattle.code_scheme.specs.StatementSite.{layout, Standing, taking, within_label}
use Rattle.code_scheme.specs.StatementGoing.{go_on, goes_on, action_goes_on, leave_size, leave_code}
use Rattle.code_scheme.specs.StatementPlain.{declare_code, set_lowest_code, assign_code, update_code, return_code, set_result_code, perform_code, drop_routine_code, taken_by, start_of_code, exit_code, assert_code, delay_code, send_code}
use Rattle.code_scheme.specs.StatementLoops.{before_turns_size, control_code, control_size, locals_kept}
use Rattle.code_scheme.specs.StatementWaits.{Receives, from_buffers, of_signals, chosen_in, has_else, delay_wait_code, delay_wait_size, receive_wait_code, receive_wait_size, is_chosen_code}
use Rattle.code_scheme.specs.StatementSize.{labels_code, labels_size, turn_back_size, statements_size, statement_size, handler_size, handled_size, otherwise_size, choices_size, cases_size, delays_size, receives_size, action_size}

-- code from a place on
abbrev pub CodeAt : Type 0
CodeAt = ℕ → List Instr

abbrev pub no_code : CodeAt
no_code at = []

-- RANGEFAIL, where no label of a CASE holds its selector
abbrev pub no_label_code : CodeAt
no_label_code at = i.Raise 1 ∷ []

-- a labelled statement, behind which is a place, is around what it holds
abbrev pub labelled_around : Bool → Standing → ℕ → Standing
labelled_around false w behind = w
labelled_around true w behind = within_label w behind

-- ---- parts of which one is done

-- the place behind a part of so many instructions and its jump, where so many stand behind these
abbrev pub next_place : ℕ → ℕ → Bool → ℕ → ℕ
next_place at size goes rest = at + (size + leave_size goes rest)

-- a part's actions, behind which control goes on behind all parts: the place there, and how many instructions lie between
abbrev pub joining : List Instr → Bool → ℕ → ℕ → List Instr
joining actions goes rest behind = actions ++ leave_code goes rest behind

-- the same from a place on, where the Boolean on top is TRUE: how many instructions the actions have, whether control goes on
-- behind them, how many stand behind the part, and the place behind all
abbrev pub chosen : CodeAt → ℕ → Bool → ℕ → ℕ → ℕ → List Instr
chosen actions size goes rest behind at = i.Unless (next_place at (suc size) goes rest) ∷ joining (actions (at + 1)) goes rest behind

-- ---- handlers, loops and waits around what they hold

-- the place behind a handler whose alternatives have so many instructions, where it begins at a place
abbrev pub behind_handler : Bool → ℕ → ℕ → ℕ
behind_handler comes size at = at + (leave_size comes size + size)

-- the alternatives of a handler, over which control goes from what it guards
abbrev pub guarding : Bool → ℕ → CodeAt → ℕ → List Instr
guarding comes size alternatives at = leave_code comes size (behind_handler comes size at) ++ alternatives (at + leave_size comes size)

-- back to the test before a turn, where control comes
abbrev pub turn_back_code : Bool → ℕ → List Instr
turn_back_code goes again = if goes then i.Again again ∷ [] else []

-- a loop: its control, its actions of so many instructions, and back where control goes on behind them
abbrev pub loop_code : Standing → ControlTree → CodeAt → ℕ → Bool → ℕ → List Instr
loop_code w c actions size goes at =
    control_code w c (at + (control_size c + (size + turn_back_size goes))) at ++
    (actions (at + control_size c) ++ turn_back_code goes (at + before_turns_size c))

-- A RECEIVE CASE: the wait, and the alternatives with ELSE, which have so many instructions, the last so many being ELSE's.
abbrev pub receive_case_code : Standing → Receives → Option LocationTree → ReceiveNodes → Bool → ℕ → ℕ → CodeAt → ℕ → List Instr
receive_case_code w receives set rs has_else size last alternatives at =
    receive_wait_code w receives set rs has_else ((at + (receive_wait_size set rs has_else + size)) - last) at ++
    alternatives (at + receive_wait_size set rs has_else)

-- ---- statements

abbrev mutual
  -- statements, as far as control comes
  pub statements_code : Standing → StatementNodes → ℕ → List Instr
  statements_code w no_statements at = []
  statements_code w (more_statements s ss) at =
      statement_code w s at ++ (if goes_on s then statements_code w ss (at + statement_size w.site s) else [])

  -- a statement with its handler; its label encloses both
  pub statement_code : Standing → StatementTree → ℕ → List Instr
  statement_code w (statement labelled a h) at =
      action_code (labelled_around labelled w (at + statement_size w.site (statement labelled a h))) a at ++
      handler_code (labelled_around labelled w (at + statement_size w.site (statement labelled a h))) h (action_goes_on a) (at + action_size w.site a)

  -- a handler behind what it guards, from which control comes or not
  pub handler_code : Standing → HandlerNode → Bool → ℕ → List Instr
  handler_code w no_handler comes at = []
  handler_code w (handler hs o) comes at =
      guarding comes (handler_size w.site (handler hs o))
      (handled_code w hs (behind_handler comes (handler_size w.site (handler hs o)) at) (otherwise_size w.site o 0) (otherwise_code w o no_code)) at

  -- the alternatives of a handler: the place behind all, and what stands behind them, which has so many instructions
  pub handled_code : Standing → HandledNodes → ℕ → ℕ → CodeAt → ℕ → List Instr
  handled_code w no_handled behind last rest at = rest at
  handled_code w (more_handled names ss hs) behind last rest at =
      joining (statements_code w ss at) (go_on ss) (handled_size w.site hs last) behind ++
      handled_code w hs behind last rest (next_place at (statements_size w.site ss) (go_on ss) (handled_size w.site hs last))

  -- ELSE, or what stands there where none is written
  pub otherwise_code : Standing → OtherwiseNode → CodeAt → ℕ → List Instr
  otherwise_code w no_otherwise none at = none at
  otherwise_code w (otherwise ss) none at = statements_code w ss at

  -- an action; a modulion stands in no statement
  pub action_code : Standing → ActionTree → ℕ → List Instr
  action_code w do_nothing at = []
  action_code w (declare names r) at = declare_code w names r at
  action_code w (set_lowest locals xs) at = set_lowest_code (layout w.site) locals xs
  action_code w (module_at ss) at = []
  action_code w (region_at r ss) at = []
  action_code w (assign l r) at = assign_code w l r at
  action_code w (update l o e bounds) at = update_code w l o e bounds at
  action_code w (perform c) at = perform_code w c at
  action_code w (drop_routine r e) at = drop_routine_code w r e at
  action_code w (evaluate e) at = taken_by w e (i.Pop (count_of e)) at
  action_code w (put_int e) at = taken_by w e i.PutInt at
  action_code w (put_text e) at = taken_by w e (i.PutText (count_of e)) at
  action_code w put_line at = i.PutLine ∷ []
  action_code w (exit_from k) at = exit_code w k
  action_code w (return_with r) at = return_code w r at
  action_code w (set_result r) at = set_result_code w r at
  action_code w (assert_that e) at = assert_code w e at
  action_code w (cause x) at = i.Raise x ∷ []
  action_code w stop at = i.Stop ∷ []
  action_code w (start_of t) at = start_of_code w t at
  action_code w (delay e priority) at = delay_code e priority
  action_code w (continue_at e) at = i.Continue e ∷ []
  action_code w (send sent priority) at = send_code w sent priority at
  action_code w (if_then cs ss) at =
      choices_code w cs (at + choices_size w.site cs (statements_size w.site ss)) (statements_size w.site ss) (statements_code w ss) at
  action_code w (case_of e cs o) at =
      taken_by w e (i.SetLocal w.free 1) at ++
      cases_code w cs (at + (expr_size e + suc (cases_size w.site cs (otherwise_size w.site o 1)))) (otherwise_size w.site o 1)
      (otherwise_code w o no_label_code) (at + (expr_size e + 1))
  action_code w (do_loop c ss) at = loop_code w c (statements_code (taking w (locals_kept c)) ss) (statements_size w.site ss) (go_on ss) at
  action_code w (begin_end ss) at = statements_code w ss at
  action_code w (delay_case set priority ds) at =
      delay_wait_code w set priority ds at ++
      delays_code w (chosen_in w.free set) 0 ds (at + (delay_wait_size set ds + delays_size w.site ds)) (at + delay_wait_size set ds)
  action_code w (receive_buffers set rs o) at =
      receive_case_code w from_buffers set rs (has_else o) (receives_size w.site rs (otherwise_size w.site o 0)) (otherwise_size w.site o 0)
      (receives_code w (chosen_in w.free set) 0 rs (at + (receive_wait_size set rs (has_else o) + receives_size w.site rs (otherwise_size w.site o 0)))
      (otherwise_size w.site o 0) (otherwise_code w o no_code)) at
  action_code w (receive_signals set rs o) at =
      receive_case_code w of_signals set rs (has_else o) (receives_size w.site rs (otherwise_size w.site o 0)) (otherwise_size w.site o 0)
      (receives_code w (chosen_in w.free set) 0 rs (at + (receive_wait_size set rs (has_else o) + receives_size w.site rs (otherwise_size w.site o 0)))
      (otherwise_size w.site o 0) (otherwise_code w o no_code)) at

  -- the conditions of an IF with their actions: the place behind all, and what stands behind them
  pub choices_code : Standing → ChoiceNodes → ℕ → ℕ → CodeAt → ℕ → List Instr
  choices_code w no_choices behind last rest at = rest at
  choices_code w (more_choices e ss cs) behind last rest at =
      condition_code (layout w.site) w.free e false
      (next_place at (condition_size e false + statements_size w.site ss) (go_on ss) (choices_size w.site cs last)) at ++
      (joining (statements_code w ss (at + condition_size e false)) (go_on ss) (choices_size w.site cs last) behind ++
      choices_code w cs behind last rest
      (next_place at (condition_size e false + statements_size w.site ss) (go_on ss) (choices_size w.site cs last)))

  -- the alternatives of a CASE, whose selector is kept
  pub cases_code : Standing → CaseNodes → ℕ → ℕ → CodeAt → ℕ → List Instr
  cases_code w no_cases behind last rest at = rest at
  cases_code w (more_cases labels ss cs) behind last rest at =
      labels_code w.free labels ++
      (chosen (statements_code w ss) (statements_size w.site ss) (go_on ss) (cases_size w.site cs last) behind (at + labels_size labels) ++
      cases_code w cs behind last rest
      (next_place at (labels_size labels + suc (statements_size w.site ss)) (go_on ss) (cases_size w.site cs last)))

  -- the alternatives of a DELAY CASE from a number on, of which the chosen one's number is kept
  pub delays_code : Standing → ℕ → ℕ → DelayNodes → ℕ → ℕ → List Instr
  delays_code w kept k no_delays behind at = []
  delays_code w kept k (more_delays es ss ds) behind at =
      is_chosen_code kept k ++
      (chosen (statements_code w ss) (statements_size w.site ss) (go_on ss) (delays_size w.site ds) behind (at + 3) ++
      delays_code w kept (suc k) ds behind (next_place at (3 + suc (statements_size w.site ss)) (go_on ss) (delays_size w.site ds)))

  -- those of a RECEIVE CASE, and what stands behind them
  pub receives_code : Standing → ℕ → ℕ → ReceiveNodes → ℕ → ℕ → CodeAt → ℕ → List Instr
  receives_code w kept k no_receives behind last rest at = rest at
  receives_code w kept k (more_receives source ks ss rs) behind last rest at =
      is_chosen_code kept k ++
      (chosen (statements_code w ss) (statements_size w.site ss) (go_on ss) (receives_size w.site rs last) behind (at + 3) ++
      receives_code w kept (suc k) rs behind last rest (next_place at (3 + suc (statements_size w.site ss)) (go_on ss) (receives_size w.site rs last)))

-- Behind which statements control may come. What stands where it never comes has no code.
use Rattle.std.specs.Prelude.{ℕ, zero, suc, ◌+◌, Bool, true, false, ◌&&◌, ◌||◌, List, [], ◌∷◌}
use Rattle.code_types.specs.declared.instr.Instr.{Instr}
use Rattle.code_types.specs.declared.instr.Instr.TheVariants as i
use Rattle.program_trees.specs.StatementTree.{ControlTree, while_true, for_ever, for_members, for_steps, StatementTree, statement, ActionTree, do_nothing, declare, set_lowest, module_at, region_at, assign, update, perform, drop_routine, evaluate, put_int, put_text, put_line, exit_from, return_with, set_result, assert_that, cause, stop, start_of, delay, continue_at, send, if_then, case_of, do_loop, begin_end, delay_case, receive_buffers, receive_signals, StatementNodes, no_statements, more_statements, ChoiceNodes, no_choices, more_choices, CaseNodes, no_cases, more_cases, OtherwiseNode, no_otherwise, otherwise, HandledNodes, no_handled, more_handled, HandlerNode, no_handler, handler}

-- whether the control of a DO ends it some time
abbrev pub has_end : ControlTree → Bool
has_end (while_true e) = true
has_end for_ever = false
has_end (for_members counter e low condition) = true
has_end (for_steps counter start step end down condition) = true

-- a modulion
abbrev pub is_modulion : ActionTree → Bool
is_modulion (module_at ss) = true
is_modulion (region_at r ss) = true
is_modulion a = false

-- a label, by an EXIT of which control may come behind the statement; the name of a modulion is none
abbrev pub has_label : Bool → ActionTree → Bool
has_label false a = false
has_label true (module_at ss) = false
has_label true (region_at r ss) = false
has_label true a = true

abbrev mutual
  -- behind statements: behind each of them
  pub go_on : StatementNodes → Bool
  go_on no_statements = true
  go_on (more_statements s ss) = goes_on s && go_on ss

  -- behind a statement: by an EXIT of its label, behind its action, or behind its handler
  pub goes_on : StatementTree → Bool
  goes_on (statement labelled a h) = has_label labelled a || (action_goes_on a || handler_goes_on h)

  pub handler_goes_on : HandlerNode → Bool
  handler_goes_on no_handler = false
  handler_goes_on (handler hs o) = otherwise_goes_on o || some_handled_goes_on hs

  pub otherwise_goes_on : OtherwiseNode → Bool
  otherwise_goes_on no_otherwise = false
  otherwise_goes_on (otherwise ss) = go_on ss

  pub some_handled_goes_on : HandledNodes → Bool
  some_handled_goes_on no_handled = false
  some_handled_goes_on (more_handled names ss hs) = go_on ss || some_handled_goes_on hs

  -- behind an action, an EXIT of a label aside
  pub action_goes_on : ActionTree → Bool
  action_goes_on do_nothing = true
  action_goes_on (declare names r) = true
  action_goes_on (set_lowest locals xs) = true
  action_goes_on (module_at ss) = go_on ss
  action_goes_on (region_at r ss) = true
  action_goes_on (assign l r) = true
  action_goes_on (update l o e bounds) = true
  action_goes_on (perform c) = true
  action_goes_on (drop_routine r e) = true
  action_goes_on (evaluate e) = true
  action_goes_on (put_int e) = true
  action_goes_on (put_text e) = true
  action_goes_on put_line = true
  action_goes_on (exit_from k) = false
  action_goes_on (return_with r) = false
  action_goes_on (set_result r) = true
  action_goes_on (assert_that e) = true
  action_goes_on (cause x) = false
  action_goes_on stop = false
  action_goes_on (start_of t) = true
  action_goes_on (delay e priority) = true
  action_goes_on (continue_at e) = true
  action_goes_on (send sent priority) = true
  action_goes_on (if_then cs ss) = go_on ss || some_choice_goes_on cs
  action_goes_on (case_of e cs o) = otherwise_goes_on o || some_case_goes_on cs
  action_goes_on (do_loop c ss) = has_end c
  action_goes_on (begin_end ss) = go_on ss
  action_goes_on (delay_case set priority ds) = true
  action_goes_on (receive_buffers set rs o) = true
  action_goes_on (receive_signals set rs o) = true

  pub some_choice_goes_on : ChoiceNodes → Bool
  some_choice_goes_on no_choices = false
  some_choice_goes_on (more_choices e ss cs) = go_on ss || some_choice_goes_on cs

  pub some_case_goes_on : CaseNodes → Bool
  some_case_goes_on no_cases = false
  some_case_goes_on (more_cases labels ss cs) = go_on ss || some_case_goes_on cs

-- ---- parts of which one is done, joined behind each other: a part jumps over what stands behind it

-- how many instructions lead over so many, where control comes
abbrev pub leave_size : Bool → ℕ → ℕ
leave_size false rest = 0
leave_size true zero = 0
leave_size true (suc rest) = 1

-- they lead behind all parts, to this place
abbrev pub leave_code : Bool → ℕ → ℕ → List Instr
leave_code false rest behind = []
leave_code true zero behind = []
leave_code true (suc rest) behind = i.Jump behind ∷ []

-- the size of a part, the jump behind it, and the so many instructions of the other parts
abbrev pub joined : ℕ → Bool → ℕ → ℕ
joined size goes rest = size + (leave_size goes rest + rest)

-- What the functions append that go over statements with others in them: the instructions and handler rows of the scheme, from
-- the present place on.
use Rattle.std.specs.Prelude.{◌≡◌, ℕ, ◌+◌, List, Bool, false, Option, length}
use Rattle.checked_program.specs.declared.statement.Action.{Action}
use Rattle.checked_program.specs.declared.statement.CaseAlternative.{CaseAlternative}
use Rattle.checked_program.specs.declared.statement.Choice.{Choice}
use Rattle.checked_program.specs.declared.statement.Control.{Control}
use Rattle.checked_program.specs.declared.statement.DelayAlternative.{DelayAlternative}
use Rattle.checked_program.specs.declared.statement.Handler.{Handler as CheckedHandler}
use Rattle.checked_program.specs.declared.statement.HandlerAlternative.{HandlerAlternative}
use Rattle.checked_program.specs.declared.statement.ReceiveAlternative.{ReceiveAlternative}
use Rattle.checked_program.specs.declared.statement.Statement.{Statement}
use Rattle.program_trees.specs.StatementTree.{statement_tree, action_tree, handler_tree, statements_of, control_tree, set_tree}
use Rattle.code_scheme.specs.ExprSizes.{condition_size}
use Rattle.code_scheme.specs.StatementSite.{Site, taking}
use Rattle.code_scheme.specs.StatementGoing.{go_on, leave_size}
use Rattle.code_scheme.specs.StatementLoops.{control_size, locals_kept}
use Rattle.code_scheme.specs.StatementWaits.{has_else, receive_wait_size}
use Rattle.code_scheme.specs.StatementSize.{turn_back_size, statements_size, statement_size, handler_size, handled_size, otherwise_size, action_size, choices_size, cases_size, delays_size, receives_size}
use Rattle.code_scheme.specs.StatementCode.{CodeAt, no_code, no_label_code, joining, chosen, loop_code, statements_code, statement_code, handler_code, handled_code, otherwise_code, action_code, choices_code, cases_code, delays_code, receives_code}
use Rattle.code_scheme.specs.StatementRows.{RowsAt, statements_rows, statement_rows, handler_rows, handled_rows, otherwise_rows, action_rows, choices_rows, cases_rows, delays_rows, receives_rows}
use Rattle.expr_gen.specs.declared.building.Draft.{Draft}
use Rattle.stmt_gen.specs.Appending.{AppendsAt, StillTo}
use Rattle.stmt_gen.specs.Constructs.{guarded_code, choice_code, receive_action_code, receive_action_rows}
use Rattle.action_gen.specs.Putting.{standing_of}
use Rattle.action_gen.specs.Receiving.{kind_of, waits_else}
use Rattle.action_gen.specs.Trees.{choice_tree, choices_of, cases_of, delays_of, receives_of, handled_of, else_of}
use Rattle.action_gen.specs.declared.around.Around.{Around}
use Rattle.stmt_gen.specs.declared.statements.Kept.{Kept}
use Rattle.stmt_gen.specs.declared.statements.Wait.{Wait}

-- the body in which statements stand
abbrev pub site_around : Around → Site
site_around around = (standing_of around).site

-- instructions, so many, and rows behind what a draft has
abbrev pub PutsHere : CodeAt → ℕ → RowsAt → Draft → Draft → Type 0
PutsHere made size rows old new = AppendsAt made size rows old.code new.code

-- the same, where this is the place behind them
abbrev pub PutsUpTo : ℕ → CodeAt → ℕ → RowsAt → Draft → Draft → Type 0
PutsUpTo behind made size rows old new = behind ≡ length old.code.instrs + size → PutsHere made size rows old new

-- the same but for a last part, which is left to be put
abbrev pub PutsUpToLast : ℕ → CodeAt → ℕ → RowsAt → CodeAt → ℕ → RowsAt → Draft → Draft → Type 0
PutsUpToLast behind made size rows last last_size last_rows old new =
    behind ≡ length old.code.instrs + size → StillTo made size rows last last_size last_rows old.code new.code

-- ---- statements

pub record PutsStatements (around : Around) (ss : List Statement) (old new : Draft) : Type 0 where
  pub puts : PutsHere (statements_code (standing_of around) (statements_of ss)) (statements_size (site_around around) (statements_of ss))
      (statements_rows (site_around around) (statements_of ss)) old new

pub record PutsStatement (around : Around) (s : Statement) (old new : Draft) : Type 0 where
  pub puts : PutsHere (statement_code (standing_of around) (statement_tree s)) (statement_size (site_around around) (statement_tree s))
      (statement_rows (site_around around) (statement_tree s)) old new

-- a statement with its handler, within its label
pub record PutsGuarded (around : Around) (s : Statement) (old new : Draft) : Type 0 where
  pub puts : PutsHere (guarded_code (standing_of around) (statement_tree s)) (statement_size (site_around around) (statement_tree s))
      (statement_rows (site_around around) (statement_tree s)) old new

pub record PutsAction (around : Around) (a : Action) (old new : Draft) : Type 0 where
  pub puts : PutsHere (action_code (standing_of around) (action_tree a)) (action_size (site_around around) (action_tree a))
      (action_rows (site_around around) (action_tree a)) old new

-- an action, behind which is this place
pub record PutsActionTo (around : Around) (a : Action) (behind : ℕ) (old new : Draft) : Type 0 where
  pub puts : PutsUpTo behind (action_code (standing_of around) (action_tree a)) (action_size (site_around around) (action_tree a))
      (action_rows (site_around around) (action_tree a)) old new

-- ---- handlers

-- the handler of what stands from a place on, from which control comes or not
pub record PutsHandler (around : Around) (h : CheckedHandler) (from : ℕ) (comes : Bool) (old new : Draft) : Type 0 where
  pub puts : PutsHere (handler_code (standing_of around) (handler_tree h) comes)
      (leave_size comes (handler_size (site_around around) (handler_tree h)) + handler_size (site_around around) (handler_tree h))
      (handler_rows (site_around around) (handler_tree h) comes from) old new

-- its alternatives with ELSE
abbrev pub handled_parts : Around → List HandlerAlternative → Option (List Statement) → ℕ
handled_parts around hs o = handled_size (site_around around) (handled_of hs) (otherwise_size (site_around around) (else_of o) 0)

-- its alternatives, where ELSE ends at this place: whatever is written there, it is left
pub record PutsHandled (around : Around) (hs : List HandlerAlternative) (behind : ℕ) (old new : Draft) : Type 0 where
  pub puts : (o : Option (List Statement)) → PutsUpToLast behind
      (handled_code (standing_of around) (handled_of hs) behind (otherwise_size (site_around around) (else_of o) 0)
      (otherwise_code (standing_of around) (else_of o) no_code))
      (handled_parts around hs o)
      (handled_rows (site_around around) (handled_of hs) (otherwise_size (site_around around) (else_of o) 0)
      (otherwise_rows (site_around around) (else_of o)))
      (otherwise_code (standing_of around) (else_of o) no_code) (otherwise_size (site_around around) (else_of o) 0)
      (otherwise_rows (site_around around) (else_of o)) old new

-- ---- parts of which one is done, where this is the place behind all and so many instructions stand behind the part

abbrev pub joined_size : Around → List Statement → ℕ → ℕ
joined_size around ss rest = statements_size (site_around around) (statements_of ss) + leave_size (go_on (statements_of ss)) rest

pub record PutsJoining (around : Around) (ss : List Statement) (behind : ℕ) (old new : Draft) : Type 0 where
  pub puts : (rest : ℕ)
      → behind ≡ length old.code.instrs + (statements_size (site_around around) (statements_of ss) + (leave_size (go_on (statements_of ss)) rest + rest))
      → PutsHere (λ at. joining (statements_code (standing_of around) (statements_of ss) at) (go_on (statements_of ss)) rest behind)
      (joined_size around ss rest) (statements_rows (site_around around) (statements_of ss)) old new

-- where the Boolean on top is TRUE
abbrev pub chosen_parts : Around → List Statement → ℕ
chosen_parts around ss = 1 + statements_size (site_around around) (statements_of ss)

pub record PutsChosen (around : Around) (ss : List Statement) (behind : ℕ) (old new : Draft) : Type 0 where
  pub puts : (rest : ℕ)
      → behind ≡ length old.code.instrs + (chosen_parts around ss + (leave_size (go_on (statements_of ss)) rest + rest))
      → PutsHere (chosen (statements_code (standing_of around) (statements_of ss)) (statements_size (site_around around) (statements_of ss)) (go_on (statements_of ss)) rest behind)
      (chosen_parts around ss + leave_size (go_on (statements_of ss)) rest) (λ at. statements_rows (site_around around) (statements_of ss) (at + 1)) old new

-- ---- IF and CASE

abbrev pub choice_parts : Around → Choice → ℕ
choice_parts around c = condition_size (choice_tree c).condition false + statements_size (site_around around) (choice_tree c).actions

pub record PutsChoice (around : Around) (c : Choice) (behind : ℕ) (old new : Draft) : Type 0 where
  pub puts : (rest : ℕ)
      → behind ≡ length old.code.instrs + (choice_parts around c + (leave_size (go_on (choice_tree c).actions) rest + rest))
      → PutsHere (choice_code (standing_of around) (choice_tree c).condition (choice_tree c).actions rest behind)
      (choice_parts around c + leave_size (go_on (choice_tree c).actions) rest)
      (λ at. statements_rows (site_around around) (choice_tree c).actions (at + condition_size (choice_tree c).condition false)) old new

abbrev pub choices_parts : Around → List Choice → List Statement → ℕ
choices_parts around cs ss = choices_size (site_around around) (choices_of cs) (statements_size (site_around around) (statements_of ss))

-- the conditions with their actions, where ELSE ends at this place: whatever is written there, it is left
pub record PutsChoices (around : Around) (cs : List Choice) (behind : ℕ) (old new : Draft) : Type 0 where
  pub puts : (ss : List Statement) → PutsUpToLast behind
      (choices_code (standing_of around) (choices_of cs) behind (statements_size (site_around around) (statements_of ss))
      (statements_code (standing_of around) (statements_of ss)))
      (choices_parts around cs ss)
      (choices_rows (site_around around) (choices_of cs) (statements_size (site_around around) (statements_of ss))
      (statements_rows (site_around around) (statements_of ss)))
      (statements_code (standing_of around) (statements_of ss)) (statements_size (site_around around) (statements_of ss))
      (statements_rows (site_around around) (statements_of ss)) old new

abbrev pub cases_parts : Around → List CaseAlternative → Option (List Statement) → ℕ
cases_parts around cs o = cases_size (site_around around) (cases_of cs) (otherwise_size (site_around around) (else_of o) 1)

pub record PutsCases (around : Around) (cs : List CaseAlternative) (behind : ℕ) (old new : Draft) : Type 0 where
  pub puts : (o : Option (List Statement)) → PutsUpToLast behind
      (cases_code (standing_of around) (cases_of cs) behind (otherwise_size (site_around around) (else_of o) 1)
      (otherwise_code (standing_of around) (else_of o) no_label_code))
      (cases_parts around cs o)
      (cases_rows (site_around around) (cases_of cs) (otherwise_size (site_around around) (else_of o) 1)
      (otherwise_rows (site_around around) (else_of o)))
      (otherwise_code (standing_of around) (else_of o) no_label_code) (otherwise_size (site_around around) (else_of o) 1)
      (otherwise_rows (site_around around) (else_of o)) old new

-- ---- DO

abbrev pub loop_parts : Around → Control → List Statement → ℕ
loop_parts around c ss =
    control_size (control_tree c) + (statements_size (site_around around) (statements_of ss) + turn_back_size (go_on (statements_of ss)))

pub record PutsDo (around : Around) (c : Control) (ss : List Statement) (behind : ℕ) (old new : Draft) : Type 0 where
  pub puts : PutsUpTo behind
      (loop_code (standing_of around) (control_tree c)
      (statements_code (taking (standing_of around) (locals_kept (control_tree c))) (statements_of ss))
      (statements_size (site_around around) (statements_of ss)) (go_on (statements_of ss)))
      (loop_parts around c ss)
      (λ at. statements_rows (site_around around) (statements_of ss) (at + control_size (control_tree c))) old new

-- ---- DELAY CASE and RECEIVE CASE

pub record PutsDelays (around : Around) (ds : List DelayAlternative) (kept behind : ℕ) (old new : Draft) : Type 0 where
  pub puts : PutsUpTo behind (delays_code (standing_of around) kept 0 (delays_of ds) behind) (delays_size (site_around around) (delays_of ds))
      (delays_rows (site_around around) (delays_of ds)) old new

abbrev pub receives_parts : Around → List ReceiveAlternative → Option (List Statement) → ℕ
receives_parts around rs o = receives_size (site_around around) (receives_of rs) (otherwise_size (site_around around) (else_of o) 0)

pub record PutsReceives (around : Around) (rs : List ReceiveAlternative) (kept : Kept) (old new : Draft) : Type 0 where
  pub puts : (o : Option (List Statement)) → PutsUpToLast kept.behind
      (receives_code (standing_of around) kept.chosen 0 (receives_of rs) kept.behind (otherwise_size (site_around around) (else_of o) 0)
      (otherwise_code (standing_of around) (else_of o) no_code))
      (receives_parts around rs o)
      (receives_rows (site_around around) (receives_of rs) (otherwise_size (site_around around) (else_of o) 0)
      (otherwise_rows (site_around around) (else_of o)))
      (otherwise_code (standing_of around) (else_of o) no_code) (otherwise_size (site_around around) (else_of o) 0)
      (otherwise_rows (site_around around) (else_of o)) old new

-- a RECEIVE CASE of either sort, with ELSE where the wait says so, which is left
pub record PutsReceiveCase (around : Around) (rs : List ReceiveAlternative) (o : Option (List Statement)) (wait : Wait) (old new : Draft) : Type 0 where
  pub puts : waits_else wait.receives ≡ has_else (else_of o)
      → PutsUpToLast wait.behind
      (receive_action_code (standing_of around) (kind_of wait.receives) (set_tree wait.set.now) (receives_of rs) (else_of o))
      (receive_wait_size (set_tree wait.set.now) (receives_of rs) (has_else (else_of o)) + receives_parts around rs o)
      (receive_action_rows (site_around around) (set_tree wait.set.now) (receives_of rs) (else_of o))
      (otherwise_code (standing_of around) (else_of o) no_code) (otherwise_size (site_around around) (else_of o) 0)
      (otherwise_rows (site_around around) (else_of o)) old new

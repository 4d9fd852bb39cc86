-- The laws of actions that hold no statements, in the one form.
use Rattle.std.specs.Prelude.{ℕ, ◌+◌, List, ℤ, length, Option}
use Rattle.modes.specs.declared.mode.Bounds.{Bounds}
use Rattle.checked_program.specs.declared.expr.Base.{Base}
use Rattle.checked_program.specs.declared.expr.Binary.{Binary}
use Rattle.checked_program.specs.declared.expr.Routine.{Routine}
use Rattle.program_trees.specs.ExprTree.{ExprTree, ReceivedTree, LocationTree, StartTree, CallTree}
use Rattle.program_trees.specs.StatementTree.{SentTree, ActionTree, do_nothing, declare, set_lowest, assign, update, perform, drop_routine, evaluate, put_int, put_text, put_line, exit_from, return_with, set_result, assert_that, cause, stop, start_of, delay, continue_at, send}
use Rattle.source_meaning.specs.ExprMeaning.{Setting}
use Rattle.source_meaning.specs.StatementMeaning.{action_mean}
use Rattle.source_meaning.specs.BodyMeaning.{Bodies}
use Rattle.code_scheme.specs.StatementSite.{Standing}
use Rattle.code_scheme.specs.StatementGoing.{action_goes_on}
use Rattle.code_scheme.specs.StatementSize.{action_size}
use Rattle.code_scheme.specs.StatementCode.{action_code}
use Rattle.code_scheme.specs.StatementRows.{action_rows}
use Rattle.follow_laws.specs.Follows.{HasAt, Around}
use Rattle.code_laws.specs.BodyBounds.{BodiesWithin}
use Rattle.code_laws.specs.Expressions.{NamesIn}
use Rattle.statement_code_laws.specs.Parts.{Acts}
use Rattle.code_laws.specs.Statements.{StandsAs, calls_from}
use Rattle.code_laws.specs.StatementsInRange.{FitsAction}
use Rattle.code_laws.specs.StatementBounds.{action_within}

-- the code of an action acts as the action means, wherever it stands
abbrev pub ActionActs : ActionTree → Type 0
ActionActs a = (w : Around) (v : Setting) (st : Standing) (bodies : Bodies) (inside : BodiesWithin) (n from : ℕ)
    → StandsAs w v st bodies inside → NamesIn w from (from + action_size st.site a) → FitsAction st.site (length st.exits) a
    → HasAt w.code.instrs from (action_code st a from)
    → Acts w from (from + action_size st.site a) (action_rows st.site a from) (from + action_size st.site a) (action_goes_on a) (action_within v (calls_from inside w) n a) (action_mean v n a)

-- Assignments to a location.
pub record AssignmentLaw : Type 0 where
  pub assigned : (l : LocationTree) (r : ReceivedTree) → ActionActs (assign l r)
  pub updated : (l : LocationTree) (o : Binary) (e : ExprTree) (bounds : Option Bounds) → ActionActs (update l o e bounds)

-- Declarations, with a value and without.
pub record DeclarationLaw : Type 0 where
  pub declared : (names : List Base) (r : ReceivedTree) → ActionActs (declare names r)
  pub lowest : (locals : List ℕ) (xs : List ℤ) → ActionActs (set_lowest locals xs)

-- Values that are dropped or put out, ASSERT, CAUSE and STOP.
pub record PlainLaw : Type 0 where
  pub nothing : ActionActs do_nothing
  pub evaluated : (e : ExprTree) → ActionActs (evaluate e)
  pub dropped : (r : Routine) (e : ExprTree) → ActionActs (drop_routine r e)
  pub int_put : (e : ExprTree) → ActionActs (put_int e)
  pub text_put : (e : ExprTree) → ActionActs (put_text e)
  pub line_put : ActionActs put_line
  pub asserted : (e : ExprTree) → ActionActs (assert_that e)
  pub caused : (x : ℕ) → ActionActs (cause x)
  pub stopped : ActionActs stop

-- RESULT, RETURN and EXIT.
pub record LeavingLaw : Type 0 where
  pub result : (r : ReceivedTree) → ActionActs (set_result r)
  pub returned : (r : Option ReceivedTree) → ActionActs (return_with r)
  pub exited : (k : ℕ) → ActionActs (exit_from k)

-- Calls and starts whose values are dropped.
pub record CallingLaw : Type 0 where
  pub performed : (c : CallTree) → ActionActs (perform c)
  pub started : (t : StartTree) → ActionActs (start_of t)

-- DELAY, CONTINUE and SEND.
pub record RequestingLaw : Type 0 where
  pub delayed : (e priority : ℕ) → ActionActs (delay e priority)
  pub continued : (e : ℕ) → ActionActs (continue_at e)
  pub sent : (t : SentTree) (priority : ℕ) → ActionActs (send t priority)

-- The law of typed actions: what an action that holds no other is elaborated to, and of which nothing is told, is as its modes say.
use Rattle.std.specs.Prelude.{◌≡◌, ℕ, length, Bool, true, ◌||◌, List, [], ◌∷◌, Option, Some, map}
use Rattle.chill_tree.specs.declared.tree.name.Name.{Name}
use Rattle.chill_tree.specs.declared.tree.expr.Operator.{Operator}
use Rattle.chill_tree.specs.ExprTree.{ExprTree}
use Rattle.chill_tree.specs.SimpleTree.{SimpleTree, assign, update, call_of, exit, return_with, result_of, assert_that, cause, stop, start_of, delay, continue_event, send}
use Rattle.modes.specs.ModeTree.{ModeTree}
use Rattle.checked_program.specs.declared.program.Sort.TheVariants as sorts
use Rattle.program_trees.specs.StatementTree as done
use Rattle.checks_model.specs.Sites as sites
use Rattle.checks_model.specs.Sites.{at_simple}
use Rattle.checks_model.specs.Operations.{is_arithmetic, is_on_sets, is_logic}
use Rattle.checks_model.specs.ActionRules.{no_procedure}
use Rattle.checks_model.specs.Phases.{returning_of}
use Rattle.checks_model.specs.Ground.{message_parts}
use Rattle.table_laws.specs.Names.{names_in}
use Rattle.written_laws.specs.Written.{Each, exprs_at}
use Rattle.elaboration_model.specs.Numbering.{Source, a_buffer, a_message, thing_used, event_used}
use Rattle.elaboration_model.specs.Statements.{Around, action_of}
use Rattle.expression_laws.specs.Names.{AllNamesKnown}
use Rattle.expression_laws.specs.Statements.{IsNodeClean, IsAround}
use Rattle.constant_laws.specs.Constants.{HasBytes}
use Rattle.source_meaning.specs.TypedValues.{Context, BufferHas}
use Rattle.source_meaning.specs.TypedStatements as typed
use Rattle.source_meaning.specs.TypedStatements.{SignalHas, IsEvent, IsTypedAction}
use Rattle.typed_laws.specs.Typed.{IsNameTyped, AreNamesTyped}

-- an expression whose names stand for what they have to, and whose characters are bytes
pub record IsSound (s : Source) (ctx : Context) (e : ExprTree) : Type 0 where
  pub names : AreNamesTyped s ctx (names_in e)
  pub bytes : HasBytes e

-- what is sent to: a buffer of its element, or a signal of its parts
pub record IsMessageTyped (s : Source) (ctx : Context) (n : Name) : Type 0 where
  pub buffer : (k : ℕ) (m : ModeTree) → thing_used s n ≡ Some (a_buffer k) → message_parts s.known n ≡ Some (Some m ∷ []) → BufferHas ctx k m
  pub signal : (k : ℕ) (ms : List (Option ModeTree)) → thing_used s n ≡ Some (a_message k) → message_parts s.known n ≡ Some ms → (own : List ModeTree) × (SignalHas ctx k own × (ms ≡ map Some own))

-- an operator that an assignment may have
abbrev pub is_updating : Operator → Bool
is_updating o = is_arithmetic o || (is_on_sets o || is_logic o)

-- the names of an action, those in its expressions aside
abbrev pub ActionTyped : Source → Context → SimpleTree → Type 0
ActionTyped s ctx (update at t o p v) = is_updating o ≡ true
ActionTyped s ctx (start_of at n es) = IsNameTyped s ctx n
ActionTyped s ctx (delay at n p) = (k : ℕ) → event_used s n ≡ Some k → IsEvent ctx k
ActionTyped s ctx (continue_event at n) = (k : ℕ) → event_used s n ≡ Some k → IsEvent ctx k
ActionTyped s ctx (send at n es to p) = IsMessageTyped s ctx n
ActionTyped s ctx a = Unit {0}

-- what stands around an action: its procedure, its result, and as many labels
pub record StandsAround (s : Source) (a : Around) (around : sites.Around) (at : typed.Around) : Type 0 where
  pub labels : at.labels ≡ length a.labels
  pub result : at.result ≡ a.result
  pub sort : (returning_of s.known around ≡ no_procedure → ⊥) → at.sort ≡ sorts.Procedure

abbrev pub ActionTypedLaw : Type 0
ActionTypedLaw = (s : Source) (a : Around) (around : sites.Around) (at : typed.Around) (act : SimpleTree) (x : done.ActionTree)
    → AllNamesKnown s → IsAround s a around → StandsAround s a around at → IsNodeClean s (at_simple around act) → Each (IsSound s at.context) (exprs_at (at_simple around act)) → ActionTyped s at.context act → action_of s a act ≡ Some x → IsTypedAction at x

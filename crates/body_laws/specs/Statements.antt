-- The laws of typed statements: what a statement, a body or a handler is elaborated to, at none of whose nodes anything is told, is as its
-- modes say.
use Rattle.std.specs.Prelude.{◌≡◌, ℕ, Bool, true, false, List, [], ◌∷◌, Option, Some}
use Rattle.chill_tree.specs.declared.tree.name.Name.{Name}
use Rattle.chill_tree.specs.StatementTree.{StatementTree, HandlerNode, BodyNodes}
use Rattle.modes.specs.ModeTree.{ModeTree}
use Rattle.checked_program.specs.declared.expr.Base.{Base}
use Rattle.program_trees.specs.StatementTree as done
use Rattle.checks_model.specs.Sites as sites
use Rattle.checks_model.specs.Sites.{Site, at_item, at_synonym, at_mode_definition, at_declaration, at_mode, at_simple, at_condition, at_selector, at_labels, at_control, at_set, at_priority, at_event, at_source, at_received, at_exceptions, at_body, at_program, sites_of, sites_of_parts, sites_of_handler}
use Rattle.written_laws.specs.Written.{Each, exprs_at}
use Rattle.elaboration_model.specs.Numbering.{Source, thing_used, event_used, local_defined}
use Rattle.elaboration_model.specs.Parts.{made_each}
use Rattle.elaboration_model.specs.Statements.{Around, some_names, is_buffer, source_used, base_defined, first_mode, statement, handled, body}
use Rattle.expression_laws.specs.Names.{AllNamesKnown}
use Rattle.expression_laws.specs.Statements.{IsNodeClean, IsAround}
use Rattle.source_meaning.specs.TypedValues.{Context, BaseHas}
use Rattle.source_meaning.specs.TypedStatements as typed
use Rattle.source_meaning.specs.TypedStatements.{SignalHas, BufferBrings, LocalsHave, IsEvent, IsTypedStatement, IsTypedHandler, AreTyped}
use Rattle.action_laws.specs.Actions.{IsSound, ActionTyped, StandsAround}
use Rattle.action_laws.specs.Controls.{ControlTyped}

-- what is received has the modes of a buffer's values, or of a signal's parts
pub record ReceivedTyped (s : Source) (ctx : Context) (n : Name) (ks : List ℕ) (k : ℕ) : Type 0 where
  pub modes : List ModeTree
  pub buffer : is_buffer (thing_used s n) ≡ true → BufferBrings ctx k modes
  pub signal : is_buffer (thing_used s n) ≡ false → SignalHas ctx k modes
  pub locals : LocalsHave ctx ks modes

-- the first name of a RECEIVE CASE says of what all are
abbrev pub IsAlikeWith : Source → List Name → Name → Type 0
IsAlikeWith s [] n = Unit {0}
IsAlikeWith s (e ∷ es) n = is_buffer (thing_used s n) ≡ is_buffer (thing_used s e)

-- the names at a node, those in its expressions aside
abbrev pub NodeTyped : Source → Context → Site → Type 0
NodeTyped s ctx (at_declaration shared d) = (m : ModeTree) → first_mode s d.names ≡ Some m → Each (λ n. (b : Base) → base_defined s n ≡ Some b → BaseHas ctx b m) d.names
NodeTyped s ctx (at_simple a act) = ActionTyped s ctx act
NodeTyped s ctx (at_control c) = ControlTyped s ctx c
NodeTyped s ctx (at_event earlier n) = (k : ℕ) → event_used s n ≡ Some k → IsEvent ctx k
NodeTyped s ctx (at_source earlier n) = IsAlikeWith s earlier n
NodeTyped s ctx (at_received n names) = (ks : List ℕ) (k : ℕ) → made_each (local_defined s) (some_names names) ≡ Some ks → source_used s n ≡ Some k → ReceivedTyped s ctx n ks k
NodeTyped s ctx n = Unit {0}

-- a node of which nothing is told, and whose names stand for what they have to
pub record IsNodeSound (s : Source) (ctx : Context) (n : Site) : Type 0 where
  pub clean : IsNodeClean s n
  pub sound : Each (IsSound s ctx) (exprs_at n)
  pub names : NodeTyped s ctx n

abbrev pub StatementTypedLaw : Type 0
StatementTypedLaw = (s : Source) (a : Around) (around : sites.Around) (at : typed.Around) (x : StatementTree) (y : done.StatementTree)
    → AllNamesKnown s → IsAround s a around → StandsAround s a around at → Each (IsNodeSound s at.context) (sites_of around x) → statement s a x ≡ Some y → IsTypedStatement at y

abbrev pub BodyTypedLaw : Type 0
BodyTypedLaw = (s : Source) (a : Around) (around : sites.Around) (at : typed.Around) (ps : BodyNodes) (ys : done.StatementNodes)
    → AllNamesKnown s → IsAround s a around → StandsAround s a around at → Each (IsNodeSound s at.context) (sites_of_parts around ps) → body s a ps ≡ Some ys → AreTyped at ys

abbrev pub HandlerTypedLaw : Type 0
HandlerTypedLaw = (s : Source) (a : Around) (around : sites.Around) (at : typed.Around) (h : HandlerNode) (y : done.HandlerNode)
    → AllNamesKnown s → IsAround s a around → StandsAround s a around at → Each (IsNodeSound s at.context) (sites_of_handler around h) → handled s a h ≡ Some y → IsTypedHandler at y

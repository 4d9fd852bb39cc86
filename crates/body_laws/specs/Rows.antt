-- The laws of the bodies of procedures and processes: their statements and their handlers are as their modes say.
use Rattle.std.specs.Prelude.{◌≡◌, ℕ, Option, Some, None}
use Rattle.chill_tree.specs.StatementTree.{body_nodes, handler_node}
use Rattle.chill_tree.specs.ItemTree.{ProcedureTree, ProcessTree}
use Rattle.modes.specs.ModeTree.{ModeTree}
use Rattle.program_trees.specs.ProgramTree.{CheckedTree, BodyRowTree}
use Rattle.checks_model.specs.Ground.{a_procedure, a_process}
use Rattle.checks_model.specs.ActionRules.{no_procedure}
use Rattle.checks_model.specs.Phases.{returning_of}
use Rattle.checks_model.specs.Sites as sites
use Rattle.checks_model.specs.Sites.{sites_of_parts, sites_of_handler}
use Rattle.written_laws.specs.Written.{Each}
use Rattle.elaboration_model.specs.Numbering.{Source, Row}
use Rattle.elaboration_model.specs.Elaborated.{body_as}
use Rattle.elaboration_model.specs.Statements.{in_body}
use Rattle.expression_laws.specs.Names.{AllNamesKnown}
use Rattle.expression_laws.specs.Statements.{IsAround}
use Rattle.source_meaning.specs.TypedStatements.{AreTyped, IsTypedHandler}
use Rattle.source_meaning.specs.Typed.{around_body}
use Rattle.body_laws.specs.Statements.{IsNodeSound}

-- what a body does
pub record IsTypedInside (p : CheckedTree) (b : BodyRowTree) : Type 0 where
  pub statements : AreTyped (around_body p b) b.statements
  pub handler : IsTypedHandler (around_body p b) b.handler

-- The body of a procedure, at none of whose nodes anything is told, and whose names stand for what they have to.
abbrev pub ProcedureTypedLaw : Type 0
ProcedureTypedLaw = (s : Source) (p : CheckedTree) (d : ℕ) (r : Row) (q : ProcedureTree) (b : BodyRowTree) (around : sites.Around) → AllNamesKnown s → body_as s d r (a_procedure q) ≡ Some b → IsAround s (in_body b.result) around
    → Each (IsNodeSound s (around_body p b).context) (sites_of_parts around (body_nodes q.body)) → Each (IsNodeSound s (around_body p b).context) (sites_of_handler around (handler_node q.handler)) → IsTypedInside p b

-- So is that of a process, around which nothing is returned.
abbrev pub ProcessTypedLaw : Type 0
ProcessTypedLaw = (s : Source) (p : CheckedTree) (d : ℕ) (r : Row) (q : ProcessTree) (b : BodyRowTree) (around : sites.Around) → AllNamesKnown s → body_as s d r (a_process q) ≡ Some b → returning_of s.known around ≡ no_procedure
    → Each (IsNodeSound s (around_body p b).context) (sites_of_parts around (body_nodes q.body)) → Each (IsNodeSound s (around_body p b).context) (sites_of_handler around (handler_node q.handler)) → IsTypedInside p b

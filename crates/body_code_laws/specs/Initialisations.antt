-- Two facts about statements on which the law of the initialisations of regions rests.
use Rattle.std.specs.Prelude.{◌≡◌, ℕ, [], Some, slice_get}
use Rattle.world_model.specs.Session.{Session}
use Rattle.checked_program.specs.declared.program.Sort.TheVariants.{Procedure}
use Rattle.program_trees.specs.ProgramTree.{CheckedTree}
use Rattle.program_trees.specs.StatementTree.{StatementNodes, HandlerNode}
use Rattle.code_types.specs.declared.instr.Instr.TheVariants as i
use Rattle.source_meaning.specs.Store.{Store}
use Rattle.source_meaning.specs.Flow.{Returned}
use Rattle.source_meaning.specs.ExprMeaning.{Setting}
use Rattle.source_meaning.specs.StatementMeaning.{caught, handler_mean, statements_mean}
use Rattle.source_meaning.specs.BodyMeaning.{Bodies, calls_in}
use Rattle.source_meaning.specs.TypedStatements.{Around as TypedAround, AreTyped, IsTypedHandler}
use Rattle.code_scheme.specs.StatementSite.{Standing}
use Rattle.code_scheme.specs.BodyItems.{initialising_code}
use Rattle.code_laws.specs.StatementsInRange.{IsException, FitsStatements, FitsHandler}
use Rattle.body_code_laws.specs.Items.{InitialisationsLaw}

-- Each exception that the code of statements with their handler raises is one of the program, so that it has a row by which it leaves
-- the region and is raised again.
abbrev pub RaisesKnown : Type 0
RaisesKnown = (st : Standing) (ss : StatementNodes) (h : HandlerNode) (at k e : ℕ)
    → st.exits ≡ [] → FitsStatements st.site 0 ss → FitsHandler st.site 0 h
    → slice_get (initialising_code st ss h at) k ≡ Some (i.Raise e) → IsException st.site.program e

-- Statements with their handler that are typed outside procedures never return, where calls are those of a program.
abbrev pub ReturnsNever : Type 0
ReturnsNever = (p : CheckedTree) (bodies : Bodies) (frames : ℕ) (at : TypedAround) (v : Setting) (n : ℕ) (ss : StatementNodes) (h : HandlerNode) (store store1 : Store) (s s1 : Session)
    → v.calls ≡ calls_in p bodies frames → (at.sort ≡ Procedure → ⊥) → AreTyped at ss → IsTypedHandler at h
    → caught (statements_mean v n ss store s) (handler_mean v n h) ≡ Returned store1 s1 → ⊥

-- On the first of these the law of initialisations stands.
abbrev pub InitialisationsJoined : Type 0
InitialisationsJoined = RaisesKnown → InitialisationsLaw

-- The laws of bodies: what a frame begins with, what its statements begin with, and what a procedure gives back.
use Rattle.std.specs.Prelude.{◌≡◌, ℕ, ◌+◌, ◌-◌, ◌≤◌, List, [], ◌∷◌, ◌++◌, ℤ, pos, length, replicate, Some, slice_get, All}
use Rattle.world_model.specs.Session.{Session}
use Rattle.program_trees.specs.ProgramTree.{BodyRowTree, CheckedTree}
use Rattle.program_trees.specs.StatementTree.{statement, set_lowest, StatementNodes, no_statements, more_statements}
use Rattle.code_types.specs.declared.instr.Instr.TheVariants as i
use Rattle.code_types.specs.State.{Frame}
use Rattle.source_meaning.specs.Store.{Store, Taken, first_store}
use Rattle.source_meaning.specs.ExprMeaning.{Setting}
use Rattle.source_meaning.specs.StatementMeaning.{statements_mean}
use Rattle.source_meaning.specs.Typed.{IsTypedBody}
use Rattle.code_scheme.specs.StatementSite.{result_scalars as declared_result, call_results}
use Rattle.code_scheme.specs.StatementPlain.{result_code, parameters_code}
use Rattle.code_scheme.specs.BodyCode.{lowest_code, behind_lowest}
use Rattle.follow_laws.specs.Follows.{HasAt, Around, scalars_in, here, Holds, GetsTo, Arrives}
use Rattle.code_laws.specs.Calls.{taken_scalars, results_back, back_in, result_scalars, FitTaken}
use Rattle.code_laws.specs.StatementsInRange.{AreLaid}

-- where the statements of a body stand: its locals and its result are the frame's, and nothing is kept yet
pub record StandsInBody (w : Around) (body : BodyRowTree) : Type 0 where
  pub rows : w.rows ≡ body.locals
  pub results : w.results ≡ result_scalars body.result
  pub kept : w.kept ≡ []
  pub room : scalars_in body.locals + result_scalars body.result ≤ w.row.locals

-- A frame that has what the parameters begin with, and zeros, comes behind the lowest values to the body's first store.
abbrev pub BeginsLaw : Type 0
BeginsLaw = (w : Around) (body : BodyRowTree) (ts : List Taken) (at : ℕ) (s : Session)
    → StandsInBody w body → length body.parameters ≤ length body.locals → AreLaid 0 body.locals → result_scalars body.result ≤ 4097
    → FitTaken body.locals body.parameters ts
    → HasAt w.code.instrs at (lowest_code body)
    → Arrives w (here w at [] (taken_scalars body.locals ts ++ replicate (w.row.locals - length (taken_scalars body.locals ts)) (pos 0)) s) (at + length (lowest_code body)) [] (Holds w (first_store body ts)) s

-- The declarations without a value with which statements begin are of locals behind so many. A frame begins with their lowest values,
-- so they have no code.
abbrev pub DeclareBehind : ℕ → StatementNodes → Type 0
DeclareBehind n no_statements = Unit {0}
DeclareBehind n (more_statements (statement labelled (set_lowest locals xs) h) ss) = All (λ i. n ≤ i) locals × DeclareBehind n ss
DeclareBehind n (more_statements s ss) = Unit {0}

-- With the first store the statements of a body of a typed program mean what those behind such declarations mean.
abbrev pub SkipsLaw : Type 0
SkipsLaw = (p : CheckedTree) (k : ℕ) (body : BodyRowTree) (v : Setting) (n : ℕ) (ts : List Taken) (s : Session)
    → IsTypedBody p k body → DeclareBehind (length body.parameters) body.statements → FitTaken body.locals body.parameters ts
    → statements_mean v n body.statements (first_store body ts) s ≡ statements_mean v n (behind_lowest body.statements) (first_store body ts) s

-- Behind the release of its region a procedure's way out gives its result and its parameters back to the caller.
abbrev pub GivesBackLaw : Type 0
GivesBackLaw = (w : Around) (body : BodyRowTree) (caller : Frame) (below : List Frame) (at : ℕ) (locals : List ℤ) (store : Store) (s : Session)
    → StandsInBody w body → declared_result body ≡ result_scalars body.result
    → w.below ≡ caller ∷ below
    → slice_get w.code.bodies w.body ≡ Some w.row → w.row.results ≡ call_results body
    → length body.parameters ≤ length body.locals
    → HasAt w.code.instrs at (result_code body ++ (parameters_code body.parameters body.locals ++ i.Return ∷ []))
    → Holds w store locals
    → GetsTo w.code (here w at [] locals s) (back_in w.instance (results_back body store) caller below w.regions s)

-- The law of parameters: the first locals of a body are its parameters, in order.
use Rattle.std.specs.Prelude.{◌≡◌, ℕ, List, [], ◌∷◌, map, Option, Some, slice_get}
use Rattle.chill_tree.specs.ItemTree.{ProcedureTree, ProcessTree, ProgramTree}
use Rattle.modes.specs.ModeTree.{ModeTree}
use Rattle.program_trees.specs.ProgramTree.{LocalRowTree, BodyRowTree, CheckedTree}
use Rattle.checks_model.specs.Ground.{Ground, a_procedure, a_process}
use Rattle.checks_model.specs.Diagnoses.{BreaksNoRule}
use Rattle.elaboration_model.specs.Numbering.{body_number}
use Rattle.elaboration_model.specs.Expressions.{formals_by, modes_by}
use Rattle.elaboration_model.specs.Elaborated.{source_of, elaborated}

-- the first locals have these modes
abbrev pub BeginWith : List LocalRowTree → List (Option ModeTree) → Type 0
BeginWith ls [] = Unit {0}
BeginWith [] (m ∷ ms) = ⊥
BeginWith (l ∷ ls) (m ∷ ms) = (m ≡ Some l.mode) × BeginWith ls ms

-- Those of a procedure's body are the ones that its arguments go to.
abbrev pub FormalsLaw : Type 0
FormalsLaw = (text : List ℕ) (t : ProgramTree) (g : Ground) (p : CheckedTree) (d : ℕ) (q : ProcedureTree) (b : BodyRowTree) → BreaksNoRule text t g → elaborated g t ≡ Some p
    → slice_get g.origins d ≡ Some (a_procedure q) → slice_get p.bodies (body_number (source_of g t).rows d) ≡ Some b → BeginWith b.locals (map (λ f. f.1) (formals_by (source_of g t) (Some (a_procedure q))))

-- So are those of a process.
abbrev pub StartedLaw : Type 0
StartedLaw = (text : List ℕ) (t : ProgramTree) (g : Ground) (p : CheckedTree) (d : ℕ) (q : ProcessTree) (b : BodyRowTree) → BreaksNoRule text t g → elaborated g t ≡ Some p
    → slice_get g.origins d ≡ Some (a_process q) → slice_get p.bodies (body_number (source_of g t).rows d) ≡ Some b → BeginWith b.locals (modes_by (source_of g t) (Some (a_process q)))

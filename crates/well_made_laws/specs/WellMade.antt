-- The law of well made bodies: each loop of a body alone sets its counter, and its declarations name no parameters.
use Rattle.std.specs.Prelude.{◌≡◌, ℕ, List, Some, slice_get}
use Rattle.chill_tree.specs.ItemTree.{ProgramTree}
use Rattle.program_trees.specs.ProgramTree.{BodyRowTree, CheckedTree}
use Rattle.checks_model.specs.Ground.{Ground}
use Rattle.checks_model.specs.Diagnoses.{BreaksNoRule}
use Rattle.elaboration_model.specs.Elaborated.{elaborated}
use Rattle.code_laws.specs.Talk.{IsWellMade}

-- So it is of each body of the elaborated program of a text that breaks no rule.
abbrev pub WellMadeLaw : Type 0
WellMadeLaw = (text : List ℕ) (t : ProgramTree) (g : Ground) (p : CheckedTree) → BreaksNoRule text t g → elaborated g t ≡ Some p → (k : ℕ) (b : BodyRowTree) → slice_get p.bodies k ≡ Some b → IsWellMade b

-- The law of typed programs: a text of bytes that breaks no rule has a typed elaborated program.
use Rattle.std.specs.Prelude.{◌≡◌, ℕ, List, Some}
use Rattle.chill_tree.specs.ItemTree.{ProgramTree}
use Rattle.program_trees.specs.ProgramTree.{CheckedTree}
use Rattle.checks_model.specs.Ground.{Ground}
use Rattle.checks_model.specs.Diagnoses.{BreaksNoRule}
use Rattle.elaboration_model.specs.Elaborated.{elaborated}
use Rattle.written_laws.specs.Written.{Each}
use Rattle.byte_laws.specs.Bytes.{IsByte}
use Rattle.source_meaning.specs.Typed.{IsTyped}

-- All that it says of its heads, rows and statements is what their modes say. Of numbers that are no bytes it isn't so: a character
-- of such a number is no value of CHAR, and no rule tells it.
abbrev pub TypedProgramLaw : Type 0
TypedProgramLaw = (text : List ℕ) (t : ProgramTree) (g : Ground) (p : CheckedTree) → Each IsByte text → BreaksNoRule text t g → elaborated g t ≡ Some p → IsTyped p

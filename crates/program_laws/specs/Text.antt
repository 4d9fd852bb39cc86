-- The law of the program of a text that breaks no rule.
use Rattle.std.specs.Prelude.{ℕ, List, IsSome}
use Rattle.chill_tree.specs.ItemTree.{ProgramTree}
use Rattle.checks_model.specs.Ground.{Ground}
use Rattle.checks_model.specs.Diagnoses.{BreaksNoRule}
use Rattle.elaboration_model.specs.Elaborated.{elaborated}

-- A text that breaks no rule has an elaborated program.
abbrev pub ElaboratedThereLaw : Type 0
ElaboratedThereLaw = (text : List ℕ) (t : ProgramTree) (g : Ground) → BreaksNoRule text t g → IsSome (elaborated g t)

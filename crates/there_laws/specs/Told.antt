-- The law that where the list of modes and constants is empty nothing is told of what defines something.
use Rattle.std.specs.Prelude.{◌≡◌, ℕ, true, false, List, [], flat_map, Option, Some, None, slice_get}
use Rattle.diagnostics.specs.declared.diagnostic.Diagnostic.{Diagnostic}
use Rattle.chill_tree.specs.ModeTree as written
use Rattle.chill_tree.specs.ItemTree.{ProgramTree}
use Rattle.checks_model.specs.Ground.{Ground, Origin, a_synonym, a_mode, a_location, a_parameter, a_procedure, a_signal}
use Rattle.checks_model.specs.Origins.{origins_of}
use Rattle.checks_model.specs.Phases.{broken_modes}
use Rattle.checks_model.specs.WrittenModes.{told_of_mode, told_of_some_mode}
use Rattle.checks_model.specs.Table.{told_of_synonym}

abbrev pub told_of_parts : Ground → Option (List written.ModeTree) → List Diagnostic
told_of_parts g None = []
told_of_parts g (Some ws) = flat_map (told_of_mode g false) ws

-- nothing is told of the modes and the value that something is defined by
abbrev pub IsUntold : Ground → Origin → Type 0
IsUntold g (a_synonym s) = (told_of_some_mode g s.mode ≡ []) × (told_of_synonym g s ≡ [])
IsUntold g (a_mode novel w) = told_of_mode g true w ≡ []
IsUntold g (a_location d) = told_of_mode g true d.mode ≡ []
IsUntold g (a_parameter w) = told_of_mode g false w ≡ []
IsUntold g (a_procedure p) = told_of_some_mode g p.returns ≡ []
IsUntold g (a_signal s) = told_of_parts g s.parts ≡ []
IsUntold g o = Unit {0}

abbrev pub UntoldLaw : Type 0
UntoldLaw = (g : Ground) (t : ProgramTree) → g.origins ≡ origins_of t → broken_modes g t ≡ [] → (d : ℕ) (o : Origin) → slice_get g.origins d ≡ Some o → IsUntold g o

-- The law of few things: an elaborated program has no more things than a text may define.
use Rattle.std.specs.Prelude.{◌≡◌, ◌≤◌, ℕ, List, length, Some}
use Rattle.chill_tree.specs.ItemTree.{ProgramTree}
use Rattle.program_trees.specs.ProgramTree.{CheckedTree}
use Rattle.checks_model.specs.Ground.{Ground}
use Rattle.checks_model.specs.Diagnoses.{BreaksNoRule}
use Rattle.elaboration_model.specs.Elaborated.{elaborated}

-- a text has at most 4,096 definitions; the outermost process has none
pub record HasFewThings (p : CheckedTree) : Type 0 where
  pub locations : length p.locations ≤ 4096
  pub events : length p.events ≤ 4096
  pub buffers : length p.buffers ≤ 4096
  pub signals : length p.signals ≤ 4096
  pub bodies : length p.bodies ≤ 4097

abbrev pub FewThingsLaw : Type 0
FewThingsLaw = (text : List ℕ) (t : ProgramTree) (g : Ground) (p : CheckedTree) → BreaksNoRule text t g → elaborated g t ≡ Some p → HasFewThings p

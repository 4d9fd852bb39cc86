-- The law of the names of a text: in one that breaks no rule on modes and constants, and whose synonyms have bytes, all is known of each
-- name that constants need.
use Rattle.std.specs.Prelude.{◌≡◌, ℕ, List, Some, slice_get}
use Rattle.chill_tree.specs.declared.tree.name.Name.{Name}
use Rattle.chill_tree.specs.LocalTree.{SynonymTree}
use Rattle.chill_tree.specs.ItemTree.{ProgramTree}
use Rattle.checks_model.specs.Ground.{Ground, a_synonym}
use Rattle.checks_model.specs.Table.{IsStatementGroundOf}
use Rattle.checks_model.specs.Diagnoses.{HasModes}
use Rattle.constant_laws.specs.Constants.{HasBytes, IsNameFit}

abbrev pub SynonymsHaveBytes : Ground → Type 0
SynonymsHaveBytes g = (d : ℕ) (s : SynonymTree) → slice_get g.origins d ≡ Some (a_synonym s) → HasBytes s.value

abbrev pub NamesFitLaw : Type 0
NamesFitLaw = (text : List ℕ) (t : ProgramTree) (g h : Ground) → HasModes text t g → IsStatementGroundOf t h → SynonymsHaveBytes h → (n : Name) → IsNameFit h n

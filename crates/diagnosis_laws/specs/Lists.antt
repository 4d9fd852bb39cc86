-- What is told of a text that has a tree, its size left aside; and the laws that this is one list, and that there is one; as
-- statements.
use Rattle.std.specs.Prelude.{◌≡◌, ℕ, List, []}
use Rattle.chill_tree.specs.ItemTree.{ProgramTree}
use Rattle.diagnostics.specs.declared.diagnostic.Diagnostic.{Diagnostic}
use Rattle.rules_model.specs.Diagnoses.{HasTree}
use Rattle.checks_model.specs.Ground.{Ground}
use Rattle.checks_model.specs.Table.{IsStatementGroundOf}
use Rattle.checks_model.specs.Diagnoses.{HasNames, BreaksNoRule, BreaksRules}

-- the list of the first phase that has any, or none where the text breaks no rule of any phase
pub data IsListOf (text : List ℕ) (tree : ProgramTree) : List Diagnostic → Type 0 where
  broken : {told : List Diagnostic} → BreaksRules text tree told → IsListOf text tree told
  sound : {g : Ground} → BreaksNoRule text tree g → IsListOf text tree []

-- A text that breaks no rule on names has one ground for the phases of statements and processes.
abbrev pub OneStatementGroundLaw : Type 0
OneStatementGroundLaw = (text : List ℕ) (t : ProgramTree) (g h : Ground) → HasNames text t → IsStatementGroundOf t g → IsStatementGroundOf t h → g ≡ h

-- So one list is told of a text that has a tree,
abbrev pub OneListLaw : Type 0
OneListLaw = (text : List ℕ) (t : ProgramTree) (told other : List Diagnostic) → IsListOf text t told → IsListOf text t other → told ≡ other

-- and some list is.
abbrev pub SomeListLaw : Type 0
SomeListLaw = (text : List ℕ) (t : ProgramTree) → HasTree text t → (told : List Diagnostic) × IsListOf text t told

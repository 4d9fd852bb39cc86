-- What is answered of the modes, constants and statements of a program.
use Rattle.std.specs.Prelude.{◌≡◌, ◌≢◌, ℕ, List, [], Result, Ok, Err}
use Rattle.std.specs.List.Sorted.{IsStrictlySortedBy}
use Rattle.chill_tree.specs.ItemTree.{ProgramTree}
use Rattle.diagnostics.specs.declared.diagnostic.Diagnostic.{Diagnostic}
use Rattle.diagnostics.specs.Order.{diagnostic_cmp}
use Rattle.checks_model.specs.Ground.{Ground}
use Rattle.checks_model.specs.Table.{IsStatementGroundOf}
use Rattle.checks_model.specs.Phases.{broken_statements}
use Rattle.checks_model.specs.Diagnoses.{HasModes, BreaksRules}
use Rattle.constant_operators.specs.Grounds.{ground_of, HasGround}
use Rattle.constant_operators.specs.declared.evaluation.Evaluation.{Evaluation}
use Rattle.definition_origins.specs.CheckRules.{AreOfChecks}
use Rattle.visibility.specs.declared.refusal.Refusal.{Refusal}
use Rattle.visibility.specs.declared.refusal.Refusal.TheVariants as refusals

-- What is told is in order, each once, and isn't empty. Want of memory may come anywhere.
abbrev pub TellsInOrder : Result Unit Refusal → Type 0
TellsInOrder (Ok done) = Unit {0}
TellsInOrder (Err (refusals.Broken list)) = IsStrictlySortedBy diagnostic_cmp list × (list ≢ []) × AreOfChecks list
TellsInOrder (Err refusals.Memory) = Unit {0}

-- the list of what is broken is answered, where there is memory for it
abbrev pub Answers : List Diagnostic → Result Unit Refusal → Type 0
Answers broken (Ok done) = broken ≡ []
Answers broken (Err (refusals.Broken list)) = broken ≡ list
Answers broken (Err refusals.Memory) = Unit {0}

-- The program, with the ground of its first phase, breaks no rule on modes, constants or statements, and the evaluation keeps
-- the ground of its later ones.
pub record IsChecked (text : List ℕ) (t : ProgramTree) (g : Ground) (e : Evaluation) : Type 0 where
  pub modes : HasModes text t g
  pub ground : IsStatementGroundOf t (ground_of e)
  pub keeps : HasGround e
  pub statements : broken_statements (ground_of e) t ≡ []

-- what is answered of both phases: what is told of the text, where it is the list of one of them, or that there is none
abbrev pub Checks : List ℕ → ProgramTree → Ground → Evaluation → Result Unit Refusal → Type 0
Checks text t g e (Ok done) = IsChecked text t g e
Checks text t g e (Err (refusals.Broken list)) = BreaksRules text t list
Checks text t g e (Err refusals.Memory) = Unit {0}

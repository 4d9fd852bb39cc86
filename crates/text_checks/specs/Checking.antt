-- What the checks answer of a text.
use Rattle.std.specs.Prelude.{ℕ, List, Result, Ok, Err}
use Rattle.chill_tree.specs.ItemTree.{ProgramTree}
use Rattle.checks_model.specs.Diagnoses.{BreaksNoRule, BreaksRules}
use Rattle.constant_operators.specs.Grounds.{ground_of, HasGround}
use Rattle.constant_operators.specs.declared.evaluation.Evaluation.{Evaluation}
use Rattle.visibility.specs.declared.refusal.Refusal.{Refusal}
use Rattle.visibility.specs.declared.refusal.Refusal.TheVariants as refusals

-- the text breaks no rule, and the evaluation keeps the ground of its later phases
pub record IsSound (text : List ℕ) (tree : ProgramTree) (e : Evaluation) : Type 0 where
  pub none : BreaksNoRule text tree (ground_of e)
  pub keeps : HasGround e

-- what is told of the text by the first phase that tells something, or that none does
abbrev pub AnswersChecks : List ℕ → ProgramTree → Evaluation → Result Unit Refusal → Type 0
AnswersChecks text tree e (Ok done) = IsSound text tree e
AnswersChecks text tree e (Err (refusals.Broken told)) = BreaksRules text tree told
AnswersChecks text tree e (Err refusals.Memory) = Unit {0}

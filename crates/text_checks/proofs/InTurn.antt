-- What the phases answer, one behind the other.
use Rattle.std.proofs.Common.{◌≡◌, ℕ, List, [], ◌∷◌, refl, sym, subst}
use Rattle.std.specs.Prelude.{Result, Ok, Err, IsErrAnd}
use Rattle.chill_tree.specs.ItemTree.{ProgramTree}
use Rattle.checks_model.specs.Ground.{Ground}
use Rattle.checks_model.specs.Phases.{broken_processes}
use Rattle.checks_model.specs.Diagnoses.{BreaksNoRule, on_processes}
use Rattle.constant_operators.specs.Grounds.{ground_of}
use Rattle.constant_operators.specs.declared.evaluation.Evaluation.{Evaluation}
use Rattle.visibility.specs.declared.refusal.Refusal.{Refusal}
use Rattle.visibility.specs.declared.refusal.Refusal.TheVariants as refusals
use Rattle.static_checks.specs.Answers.{IsChecked, Checks, TellsInOrder}
use Rattle.process_checks.specs.Answers.{Answers}
use Rattle.text_checks.specs.Checking.{AnswersChecks}

-- what the checks of modes, constants and statements refuse
pub statements_refused : (text : List ℕ) (t : ProgramTree) (g : Ground) (e : Evaluation) (result : Result (Unit {0}) Refusal) (r : Refusal) → IsErrAnd result (λ x. x ≡ r) → Checks text t g e (Err r) → AnswersChecks text t e result
statements_refused text t g e (Ok done) r same checks = absurd same
statements_refused text t g e (Err (refusals.Broken told)) r same checks = subst (λ (x : Refusal). Checks text t g e (Err x)) (sym same) checks
statements_refused text t g e (Err refusals.Memory) r same checks = tt

-- behind these, what the checks of processes answer
pub processes_answered : (text : List ℕ) (t : ProgramTree) (g : Ground) (e : Evaluation) (result : Result (Unit {0}) Refusal) → IsChecked text t g e → TellsInOrder result → Answers (broken_processes (ground_of e) t) result
    → AnswersChecks text t e result
processes_answered text t g e (Ok done) checked order told =
    let none : BreaksNoRule text t (ground_of e) = record { plain_ground = g; has_modes = checked.modes; is_ground = checked.ground; statements = checked.statements; processes = told } in
    record { none = none; keeps = checked.keeps }
processes_answered text t g e (Err (refusals.Broken [])) checked order told = absurd (order.1 refl)
processes_answered text t g e (Err (refusals.Broken (d ∷ ds))) checked order told = on_processes checked.modes checked.ground checked.statements told
processes_answered text t g e (Err refusals.Memory) checked order told = tt

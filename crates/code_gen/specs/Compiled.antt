-- What holds of the code of a program that may be compiled.
use Rattle.std.specs.Prelude.{ℕ, ◌≤◌, List, ℤ}
use Rattle.kernel_base.specs.declared.answer.Answer.{Answer}
use Rattle.checked_program.specs.declared.program.Checked.{Checked}
use Rattle.program_trees.specs.ProgramTree.{checked_tree}
use Rattle.code_types.specs.declared.code.Code.{Code}
use Rattle.code_types.specs.Agreement.{Agrees}
use Rattle.source_meaning.specs.Fitting.{IsFitting}
use Rattle.code_laws.specs.Assembly.{TalksAs}
use Rattle.code_laws.specs.Talk.{IsCompilable}
use Rattle.text_laws.specs.Laws.{HasFittingTalks}

-- It agrees, in all that a guard asks.
abbrev pub AgreesFor : Checked → Code → Type 0
AgreesFor program code = IsCompilable (checked_tree program) → Agrees code

-- It has the text's talks, with arguments and answers that fit.
abbrev pub TalksFor : Checked → Code → Type 0
TalksFor program code = IsCompilable (checked_tree program) → HasFittingTalks (checked_tree program) code

-- Where such a talk stops, the frames of the code hold the stores of the open calls.
abbrev pub StandsFor : Checked → Code → Type 0
StandsFor program code = (instance process : ℕ) (xs : List ℤ) (answers : List Answer) (n : ℕ)
    → IsCompilable (checked_tree program) → IsFitting (checked_tree program) instance process xs answers → 1 ≤ n
    → TalksAs (checked_tree program) code instance process xs answers n

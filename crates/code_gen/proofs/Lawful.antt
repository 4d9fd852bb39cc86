-- The laws of the scheme's code, told of a code that is it.
use Rattle.std.proofs.Common.{◌≡◌, ℕ, ◌≤◌, List, [], ℤ, sym, subst}
use Rattle.kernel_base.specs.declared.answer.Answer.{Answer}
use Rattle.checked_program.specs.declared.program.Checked.{Checked}
use Rattle.program_trees.specs.ProgramTree.{CheckedTree, checked_tree}
use Rattle.code_types.specs.declared.code.Code.{Code}
use Rattle.code_types.specs.Agreement.{Agrees}
use Rattle.source_meaning.specs.Fitting.{IsFitting}
use Rattle.code_scheme.specs.BodyCode.{code_of}
use Rattle.scheme_heights.specs.Things.{AreGiven}
use Rattle.scheme_heights.proofs.GivenStatements.{things_law}
use Rattle.code_laws.specs.Assembly.{TalksAs}
use Rattle.code_laws.specs.Talk.{IsCompilable}
use Rattle.text_laws.specs.Laws.{HasFittingTalks}
use Rattle.talk_laws.proofs.CompiledTalks.{compilable_agrees, compiled_talks}
use Rattle.code_gen.specs.Compiled.{AgreesFor, TalksFor, StandsFor}

pub things_of : (p : CheckedTree) (code : Code) → code ≡ code_of p → AreGiven [] code.instrs
things_of p code is = subst (λ (k : Code). AreGiven [] k.instrs) (sym is) (things_law p)

pub agrees_of : (program : Checked) (code : Code) → code ≡ code_of (checked_tree program) → AgreesFor program code
agrees_of program code is may = subst (λ (k : Code). Agrees k) (sym is) (compilable_agrees (checked_tree program) may)

pub talks_of : (program : Checked) (code : Code) → code ≡ code_of (checked_tree program) → TalksFor program code
talks_of program code is may = subst (λ (k : Code). HasFittingTalks (checked_tree program) k) (sym is) (compiled_talks.talks (checked_tree program) may)

pub stands_of : (program : Checked) (code : Code) → code ≡ code_of (checked_tree program) → StandsFor program code
stands_of program code is instance process xs answers n may fits some =
    subst (λ (k : Code). TalksAs (checked_tree program) k instance process xs answers n) (sym is) (compiled_talks.stands (checked_tree program) instance process xs answers n may fits some)

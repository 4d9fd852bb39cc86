-- Compiled code has the text's talks and runs.
use Rattle.std.proofs.Common.{ℕ, ◌≤◌, List, ℤ}
use Rattle.kernel_base.specs.declared.answer.Answer.{Answer}
use Rattle.program_trees.specs.ProgramTree.{CheckedTree}
use Rattle.source_meaning.specs.Fitting.{IsFitting}
use Rattle.code_scheme.specs.BodyCode.{code_of}
use Rattle.code_laws.specs.Assembly.{TalksAs}
use Rattle.code_laws.specs.Talk.{IsCompilable}
use Rattle.code_laws.proofs.Assembling.{assembled}
use Rattle.code_laws.proofs.Births.{birth_fits}
use Rattle.code_laws.proofs.SameRuns.{code_talks}
use Rattle.body_code_laws.proofs.AllBodies.{bodies_law}
use Rattle.bounds_laws.proofs.BodiesLie.{within}
use Rattle.scheme_heights.proofs.TypedPrograms.{typed_agrees}
use Rattle.text_laws.specs.Laws.{HasFittingTalks}
use Rattle.text_laws.proofs.CodeJournals.{same_runs}
use Rattle.text_laws.proofs.Suits.{suits}
use Rattle.talk_laws.specs.Laws.{CompilableAgreesLaw, CompiledTalksLaw, CompiledRunsLaw}
use Rattle.talk_laws.proofs.StatementsCounted.{text_fits}

pub compilable_agrees : CompilableAgreesLaw
compilable_agrees p compilable = typed_agrees p compilable.typed (text_fits p compilable.typed compilable.in_range)

has_talk : (p : CheckedTree) (instance process : ℕ) (xs : List ℤ) (answers : List Answer) (n : ℕ) → IsCompilable p → IsFitting p instance process xs answers → 1 ≤ n → TalksAs p (code_of p) instance process xs answers n
has_talk p instance process xs answers n compilable fits low =
    assembled p (code_of p) instance (bodies_law p instance compilable (compilable_agrees p compilable)) process xs answers n low
    (birth_fits p instance process xs answers compilable.in_range fits)
    (within p instance process xs answers n compilable.typed fits)

has_talks : (p : CheckedTree) → IsCompilable p → HasFittingTalks p (code_of p)
has_talks p compilable instance process xs answers n low fits =
    code_talks p (code_of p) instance process xs answers n (has_talk p instance process xs answers n compilable fits low)

pub compiled_talks : CompiledTalksLaw
compiled_talks = record { stands = has_talk; talks = has_talks }

pub compiled_runs : CompiledRunsLaw
compiled_runs = record {
  same = λ p facts events compilable are. same_runs p (code_of p) facts events are (has_talks p compilable);
  suits = λ p facts compilable are. suits p (code_of p) facts are (has_talks p compilable);
}

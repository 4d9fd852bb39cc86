-- The laws of compiled code: it agrees, has the text's talks where arguments and answers fit, and so the text's runs.
use Rattle.std.specs.Prelude.{◌↔◌, ℕ, ◌≤◌, List, ℤ}
use Rattle.kernel_base.specs.declared.answer.Answer.{Answer}
use Rattle.kernel_base.specs.declared.event.Event.{Event}
use Rattle.kernel_base.specs.declared.facts.Facts.{Facts}
use Rattle.program_trees.specs.ProgramTree.{CheckedTree}
use Rattle.code_types.specs.Agreement.{Agrees}
use Rattle.code_types.specs.Runs.{IsCodeRun, Suits}
use Rattle.source_meaning.specs.Fitting.{IsFitting}
use Rattle.source_meaning.specs.Runs.{IsSourceRun}
use Rattle.code_scheme.specs.BodyCode.{code_of}
use Rattle.code_laws.specs.Assembly.{TalksAs}
use Rattle.code_laws.specs.Talk.{IsCompilable}
use Rattle.text_laws.specs.Laws.{AreTypedFacts, HasFittingTalks}

-- The code of a program that may be compiled agrees, in all that a guard asks.
abbrev pub CompilableAgreesLaw : Type 0
CompilableAgreesLaw = (p : CheckedTree) → IsCompilable p → Agrees (code_of p)

-- With arguments and answers that fit, the code of a program that may be compiled has its talk, and where it stops its frames hold
-- the stores of the open calls. So it has the text's talks, as the laws of runs ask for them.
pub record CompiledTalksLaw : Type 0 where
  pub stands : (p : CheckedTree) (instance process : ℕ) (xs : List ℤ) (answers : List Answer) (n : ℕ)
      → IsCompilable p → IsFitting p instance process xs answers → 1 ≤ n
      → TalksAs p (code_of p) instance process xs answers n
  pub talks : (p : CheckedTree) → IsCompilable p → HasFittingTalks p (code_of p)

-- From the facts of such a program the runs of its code are exactly those of the text, and the code suits these facts.
pub record CompiledRunsLaw : Type 0 where
  pub same : (p : CheckedTree) (facts : Facts) (events : List Event)
      → IsCompilable p → AreTypedFacts p facts
      → IsCodeRun (code_of p) facts events ↔ IsSourceRun p facts events
  pub suits : (p : CheckedTree) (facts : Facts) → IsCompilable p → AreTypedFacts p facts → Suits (code_of p) facts

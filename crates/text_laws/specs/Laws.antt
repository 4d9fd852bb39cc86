-- The laws of the runs of a text.
use Rattle.std.specs.Prelude.{◌≡◌, ◌↔◌, ℕ, ◌≤◌, List, ◌++◌, ℤ, Some, slice_get}
use Rattle.kernel_base.specs.declared.facts.Facts.{Facts}
use Rattle.kernel_base.specs.declared.answer.Answer.{Answer}
use Rattle.kernel_base.specs.declared.event.Event.{Event}
use Rattle.kernel_base.specs.declared.request.Request.{Request}
use Rattle.kernel_base.specs.Facts.{IsSound, FitsRequest}
use Rattle.world_model.specs.Journal.{Birth, born_of, answers_of}
use Rattle.world_model.specs.Allowed.{IsRun}
use Rattle.program_trees.specs.ProgramTree.{BodyRowTree, CheckedTree}
use Rattle.code_types.specs.declared.code.Code.{Code}
use Rattle.code_types.specs.Talk.{CodeTalk}
use Rattle.code_types.specs.Runs.{Begins, IsCodeRun, Suits}
use Rattle.source_meaning.specs.Talk.{talk}
use Rattle.source_meaning.specs.Fitting.{FitsBody, AreOfTypes, IsFitting}
use Rattle.source_meaning.specs.Runs.{IsSourceRun}
use Rattle.source_meaning.specs.Facts.{AreFactsOf}
use Rattle.source_meaning.specs.Typed.{IsTyped}
use Rattle.text_laws.specs.Journals.{AllAskText, KeepsValues}
use Rattle.text_laws.specs.Requests.{FitsText, AskWell, AllFitText}

-- ---- premises

-- The facts are those of a typed program, with an input, and with a budget that there may be.
pub record AreTypedFacts (p : CheckedTree) (facts : Facts) : Type 0 where
  pub typed : IsTyped p
  pub input : List ℕ
  pub units : ℕ
  pub least : 1 ≤ units
  pub most : units ≤ 10000000
  pub are : AreFactsOf p input units facts

-- The journal is a run of a typed program.
pub record IsTextRun (p : CheckedTree) (facts : Facts) (events : List Event) : Type 0 where
  pub typed : AreTypedFacts p facts
  pub run : IsSourceRun p facts events

-- Wherever arguments and answers fit, the code has the text's talk. Of others nothing is said: compiled code leaves out tests that
-- no fitting answer fails.
abbrev pub HasFittingTalks : CheckedTree → Code → Type 0
HasFittingTalks p code = (instance process : ℕ) (zs : List ℤ) (answers : List Answer) (n : ℕ)
    → 1 ≤ n
    → IsFitting p instance process zs answers
    → CodeTalk code instance process zs answers n (talk p instance process zs answers n).trace

-- ---- facts

-- The facts of a typed program are sound.
abbrev pub FactsAreSoundLaw : Type 0
FactsAreSoundLaw = (p : CheckedTree) (facts : Facts) → AreTypedFacts p facts → IsSound facts

-- ---- requests

-- What a process of a typed program asks fits the text, as far as the answers before it fit; so all of it does where its arguments
-- and its answers fit. And what fits the text fits the facts of the program.
pub record AsksFitLaw : Type 0 where
  pub far : (p : CheckedTree) (instance process : ℕ) (zs : List ℤ) (answers : List Answer) (n : ℕ) (body : BodyRowTree)
      → IsTyped p
      → AreOfTypes instance zs answers
      → slice_get p.bodies process ≡ Some body
      → FitsBody body zs
      → AskWell p (talk p instance process zs answers n).trace answers
  pub all : (p : CheckedTree) (instance process : ℕ) (zs : List ℤ) (answers : List Answer) (n : ℕ)
      → IsTyped p
      → IsFitting p instance process zs answers
      → AllFitText p (talk p instance process zs answers n).trace
  pub in_range : (p : CheckedTree) (facts : Facts) (request : Request)
      → AreTypedFacts p facts
      → FitsText p request
      → FitsRequest facts request

-- ---- talks

-- With more answers behind and with more ticks a talk goes on where it stopped, and takes nothing back.
abbrev pub TalkGrowsLaw : Type 0
TalkGrowsLaw = (p : CheckedTree) (instance process : ℕ) (zs : List ℤ) (answers behind : List Answer) (n m : ℕ)
    → 1 ≤ m
    → n ≤ m
    → Begins (talk p instance process zs answers n).trace (talk p instance process zs (answers ++ behind) m).trace

-- ---- journals

-- In an allowed journal from the facts of a typed program whose requests fit the text, values stay of their modes.
abbrev pub WorldKeepsLaw : Type 0
WorldKeepsLaw = (p : CheckedTree) (facts : Facts) (events : List Event)
    → AreTypedFacts p facts
    → IsRun facts events
    → AllAskText p events
    → KeepsValues p facts events

-- So it is in each run of a typed program; the arguments and answers of each instance fit, and all that it asks in its talk fits
-- the text, however many ticks it may make.
pub record RunFitsLaw : Type 0 where
  pub keeps : (p : CheckedTree) (facts : Facts) (events : List Event) → IsTextRun p facts events → KeepsValues p facts events
  pub fits : (p : CheckedTree) (facts : Facts) (events : List Event) (who : ℕ) (birth : Birth)
      → IsTextRun p facts events
      → born_of who events ≡ Some birth
      → IsFitting p who birth.process birth.arguments (answers_of who events)
  pub asks : (p : CheckedTree) (facts : Facts) (events : List Event) (who : ℕ) (birth : Birth) (n : ℕ)
      → IsTextRun p facts events
      → born_of who events ≡ Some birth
      → AllFitText p (talk p who birth.process birth.arguments (answers_of who events) n).trace

-- ---- a code with the talks of a text

-- From the facts of a typed program the runs of a code that has the text's talks wherever answers fit are exactly those of the text.
abbrev pub TextRunsLaw : Type 0
TextRunsLaw = (p : CheckedTree) (code : Code) (facts : Facts) (events : List Event)
    → AreTypedFacts p facts
    → HasFittingTalks p code
    → IsCodeRun code facts events ↔ IsSourceRun p facts events

-- Such a code suits the facts: each next request fits them, each instance names a body with as many parameters as it has arguments,
-- and each answer has as many scalars as the waiting instruction takes.
abbrev pub SuitsLaw : Type 0
SuitsLaw = (p : CheckedTree) (code : Code) (facts : Facts) → AreTypedFacts p facts → HasFittingTalks p code → Suits code facts

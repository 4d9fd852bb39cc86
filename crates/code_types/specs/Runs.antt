-- Runs of a code, and the facts that a code suits.
use Rattle.std.specs.Prelude.{◌≡◌, ℕ, suc, List, [], ◌∷◌, ◌++◌, length, slice_get, Some, IsTrue, IsSomeAnd}
use Rattle.kernel_base.specs.declared.facts.Facts.{Facts}
use Rattle.kernel_base.specs.declared.request.Request.{Request}
use Rattle.kernel_base.specs.declared.answer.Answer.{Answer}
use Rattle.kernel_base.specs.declared.event.Event.{Event}
use Rattle.kernel_base.specs.Facts.{FitsRequest}
use Rattle.world_model.specs.Session.{Item, Tick, Ask}
use Rattle.world_model.specs.Journal.{ticks_of, line_of, answers_by, answers_of, Birth, born_of}
use Rattle.world_model.specs.Waiting.{IsActive}
use Rattle.world_model.specs.World.{world_of}
use Rattle.world_model.specs.Allowed.{IsRun}
use Rattle.code_types.specs.declared.code.Code.{Code}
use Rattle.code_types.specs.Answers.{fills_slot}
use Rattle.code_types.specs.State.{Slot, State, Asking}
use Rattle.code_types.specs.Talk.{CodeTalk, Reaches}

-- the number of ticks in a trace
abbrev pub ticks_in : List Item → ℕ
ticks_in [] = 0
ticks_in (Tick ∷ items) = suc (ticks_in items)
ticks_in (Ask request ∷ items) = ticks_in items

abbrev pub Begins : List Item → List Item → Type 0
Begins front trace = (rest : List Item) × (trace ≡ front ++ rest)

-- What an instance did in a journal begins its talk, with the answers that the journal gave it and one tick more than it made.
pub record FollowsCode (code : Code) (events : List Event) (who : ℕ) (birth : Birth) : Type 0 where
  pub trace : List Item
  pub talks : CodeTalk code who birth.process birth.arguments (answers_of who events) (suc (ticks_in (line_of who events))) trace
  pub begins : Begins (line_of who events) trace

-- A run of a code: each event is allowed in the world that those before it leave, and each instance follows the code.
pub record IsCodeRun (code : Code) (facts : Facts) (events : List Event) : Type 0 where
  pub run : IsRun facts events
  pub follows : (who : ℕ) (birth : Birth) → born_of who events ≡ Some birth → FollowsCode code events who birth

-- the facts fit each next request of an active instance in a run of the code
abbrev pub RequestsFit : Code → Facts → Type 0
RequestsFit code facts = (events : List Event) (who : ℕ) (birth : Birth) (ticks : ℕ) (request : Request) (state : State)
    → IsCodeRun code facts events
    → IsActive (world_of facts events) who
    → born_of who events ≡ Some birth
    → Reaches code who birth.process birth.arguments (answers_of who events) (line_of who events ++ (ticks_of ticks ++ Ask request ∷ [])) state
    → FitsRequest facts request

-- each instance of a run, the first included, names a body with as many parameters as it has arguments
abbrev pub BirthsFit : Code → Facts → Type 0
BirthsFit code facts = (events : List Event) (who : ℕ) (birth : Birth)
    → IsCodeRun code facts events
    → born_of who events ≡ Some birth
    → IsSomeAnd (slice_get code.bodies birth.process) (λ row. row.params ≡ length birth.arguments)

-- each answer of a run has as many scalars as the waiting instruction takes
abbrev pub AnswersFit : Code → Facts → Type 0
AnswersFit code facts = (events : List Event) (event : Event) (who : ℕ) (birth : Birth) (answer : Answer) (request : Request) (slots : List Slot) (state : State)
    → IsCodeRun code facts (events ++ event ∷ [])
    → born_of who events ≡ Some birth
    → answers_by who event ≡ answer ∷ []
    → Reaches code who birth.process birth.arguments (answers_of who events) (line_of who (events ++ event ∷ [])) state
    → state.mode ≡ Asking request slots
    → IsTrue (fills_slot slots answer)

-- A code suits facts.
pub record Suits (code : Code) (facts : Facts) : Type 0 where
  pub requests : RequestsFit code facts
  pub births : BirthsFit code facts
  pub answers : AnswersFit code facts

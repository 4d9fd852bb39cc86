-- The laws of guarded code.
use Rattle.std.specs.Prelude.{◌≡◌, ℕ, IsTrue, List, ℤ, Some}
use Rattle.kernel_base.specs.declared.request.Request.{Request}
use Rattle.kernel_base.specs.declared.answer.Answer.{Answer}
use Rattle.world_model.specs.Session.{Item}
use Rattle.code_types.specs.declared.code.Code.{Code}
use Rattle.code_types.specs.Agreement.{Agrees}
use Rattle.code_types.specs.Answers.{answered, fits_request}
use Rattle.code_types.specs.State.{Slot, State, Asking, Ended}
use Rattle.code_types.specs.Steps.{Move, Goes, Makes, Asks, Awaits, Stays, move}
use Rattle.code_types.specs.Talk.{start_of, Leads, Reaches}
use Rattle.code_safety.specs.Standing.{StandsWell}

-- A process that is started stands well.
abbrev pub StartSafetyLaw : Type 0
StartSafetyLaw = (code : Code) (agrees : Agrees code) (instance process : ℕ) (arguments : List ℤ) (state : State)
    → start_of code instance process arguments ≡ Some state
    → StandsWell code agrees.heights state

-- what a state comes to stands well; it waits where it asks, and stays only where it has ended
abbrev pub MovesWell : Code → List ℕ → State → Move → Type 0
MovesWell code heights s (Goes next) = StandsWell code heights next
MovesWell code heights s (Makes next) = StandsWell code heights next
MovesWell code heights s (Asks request next) = StandsWell code heights next
MovesWell code heights s (Awaits request slots) = s.mode ≡ Asking request slots
MovesWell code heights s Stays = s.mode ≡ Ended

-- What stands well is never stuck, and comes to what stands well.
abbrev pub ProgressAndPreservationLaw : Type 0
ProgressAndPreservationLaw = (code : Code) (agrees : Agrees code) (s : State)
    → StandsWell code agrees.heights s
    → MovesWell code agrees.heights s (move code s)

-- An answer that fits leaves what stands well standing well.
abbrev pub AnswerPreservationLaw : Type 0
AnswerPreservationLaw = (code : Code) (agrees : Agrees code) (s : State) (request : Request) (slots : List Slot) (answer : Answer)
    → StandsWell code agrees.heights s
    → s.mode ≡ Asking request slots
    → IsTrue (fits_request request slots answer)
    → StandsWell code agrees.heights (answered s request slots answer)

-- What a started process reaches stands well.
abbrev pub ReachSafetyLaw : Type 0
ReachSafetyLaw = (code : Code) (agrees : Agrees code) (instance process : ℕ) (arguments : List ℤ) (answers : List Answer) (trace : List Item) (state : State)
    → Reaches code instance process arguments answers trace state
    → StandsWell code agrees.heights state

-- What leads from a state that stands well comes to one.
abbrev pub LeadPreservationLaw : Type 0
LeadPreservationLaw = (code : Code) (agrees : Agrees code) (from : State) (answers : List Answer) (trace : List Item) (to : State)
    → StandsWell code agrees.heights from
    → Leads code from answers trace to
    → StandsWell code agrees.heights to

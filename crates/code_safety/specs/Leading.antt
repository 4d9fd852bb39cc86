-- What a single move leads to, and a single answer.
use Rattle.std.specs.Prelude.{◌≡◌, IsTrue, List, [], ◌∷◌}
use Rattle.kernel_base.specs.declared.request.Request.{Request}
use Rattle.kernel_base.specs.declared.answer.Answer.{Answer}
use Rattle.world_model.specs.Session.{Tick, Ask}
use Rattle.code_types.specs.declared.code.Code.{Code}
use Rattle.code_types.specs.Answers.{answered, fits_request}
use Rattle.code_types.specs.State.{Slot, State, Asking}
use Rattle.code_types.specs.Steps.{Move, Goes, Makes, Asks, Awaits, Stays, move}
use Rattle.code_types.specs.Talk.{Leads}

-- a process waits for an answer to the request
abbrev pub WaitsWith : Request → State → Type 0
WaitsWith request s = (slots : List Slot) × (s.mode ≡ Asking request slots)

-- A move that goes on leaves the trace, a tick is one item of it, and so is a request, for whose answer the process then waits.
abbrev pub LeadsBy : Code → State → Move → Type 0
LeadsBy code s (Goes next) = Leads code s [] [] next
LeadsBy code s (Makes next) = Leads code s [] (Tick ∷ []) next
LeadsBy code s (Asks request next) = Leads code s [] (Ask request ∷ []) next × WaitsWith request next
LeadsBy code s (Awaits request slots) = Unit {0}
LeadsBy code s Stays = Unit {0}

-- A move leads to the state that it makes.
abbrev pub MoveLeadsLaw : Type 0
MoveLeadsLaw = (code : Code) (s : State) → LeadsBy code s (move code s)

-- An answer that fits leads to the state that it leaves.
abbrev pub AnswerLeadsLaw : Type 0
AnswerLeadsLaw = (code : Code) (s : State) (request : Request) (slots : List Slot) (answer : Answer)
    → s.mode ≡ Asking request slots
    → IsTrue (fits_request request slots answer)
    → Leads code s (answer ∷ []) [] (answered s request slots answer)

-- Without a move a state leads to itself.
abbrev pub NoMoveLeadsLaw : Type 0
NoMoveLeadsLaw = (code : Code) (s : State) → Leads code s [] [] s

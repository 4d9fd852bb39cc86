-- Where the instances of a run stand beside its journal.
use Rattle.std.specs.Prelude.{◌≡◌, ℕ, ◌+◌, List, [], ◌∷◌, ◌++◌, length, Some, None}
use Rattle.std.specs.declared.option.Option.{Option}
use Rattle.kernel_base.specs.declared.ends.How.{How}
use Rattle.kernel_base.specs.declared.facts.Facts.{Facts}
use Rattle.kernel_base.specs.declared.request.Request.TheVariants.{End}
use Rattle.kernel_base.specs.declared.answer.Answer.{Answer}
use Rattle.kernel_base.specs.declared.event.Event.{Event}
use Rattle.world_model.specs.Session.{Item, Ask}
use Rattle.world_model.specs.Journal.{line_of, answers_of, requests_of, Birth, born_of}
use Rattle.world_model.specs.Over.{IsNoGoing, over_of}
use Rattle.code_types.specs.declared.code.Code.{Code}
use Rattle.code_types.specs.State.{State, Mode, Running, Called, Asking, Raising, Ended}
use Rattle.code_types.specs.Talk.{Reaches}
use Rattle.code_types.specs.Runs.{IsCodeRun}

-- how many requests wait for their answers
abbrev pub waiting_in : Mode → ℕ
waiting_in Running = 0
waiting_in Called = 0
waiting_in (Asking request slots) = 1
waiting_in (Raising exception) = 0
waiting_in Ended = 0

-- the last item of a trace
abbrev pub last_item : List Item → Option Item
last_item [] = None
last_item (item ∷ []) = Some item
last_item (item ∷ next ∷ items) = last_item (next ∷ items)

-- the last item asks for no end
abbrev pub AsksNoEnd : List Item → Type 0
AsksNoEnd line = (how : How) → last_item line ≡ Some (Ask (End how)) → ⊥

-- What waits was asked last, a process that has ended asked for its end last, and any other didn't.
abbrev pub IsLastAsked : Mode → List Item → Type 0
IsLastAsked Running line = AsksNoEnd line
IsLastAsked Called line = AsksNoEnd line
IsLastAsked (Asking request slots) line = last_item line ≡ Some (Ask request)
IsLastAsked (Raising exception) line = AsksNoEnd line
IsLastAsked Ended line = (how : How) × (last_item line ≡ Some (Ask (End how)))

-- An instance has come to a state: it was born, and its line is what the code does up to this state with all of its answers but
-- those that are still owed to it.
pub record HasCome (code : Code) (events : List Event) (owed : List Answer) (instance : ℕ) (state : State) : Type 0 where
  pub birth : Birth
  pub born : born_of instance events ≡ Some birth
  pub given : List Answer
  pub answers : answers_of instance events ≡ given ++ owed
  pub reached : Reaches code instance birth.process birth.arguments given (line_of instance events) state
  pub asked : length (requests_of instance events) ≡ length given + waiting_in state.mode
  pub last : IsLastAsked state.mode (line_of instance events)

-- the run wasn't over before any event but a going on
abbrev pub WasOpen : Facts → List Event → Type 0
WasOpen facts events = (before : List Event) (event : Event) (behind : List Event) → events ≡ before ++ event ∷ behind → IsNoGoing event → over_of facts before ≡ None

-- each front of the journal is a run of the code
abbrev pub EachFrontFollows : Code → Facts → List Event → Type 0
EachFrontFollows code facts events = (before behind : List Event) → events ≡ before ++ behind → IsCodeRun code facts before

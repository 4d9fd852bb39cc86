-- The laws of the runs of a code.
use Rattle.std.specs.Prelude.{◌≡◌, ℕ, ◌<◌, ◌≤◌, List, [], ◌++◌, ℤ, length, map, slice_get, Some, None}
use Rattle.std.specs.declared.option.Option.{Option}
use Rattle.kernel_base.specs.declared.facts.Facts.{Facts}
use Rattle.kernel_base.specs.declared.answer.Answer.{Answer}
use Rattle.kernel_base.specs.declared.event.Event.{Event}
use Rattle.world_model.specs.declared.world.World.{World}
use Rattle.world_model.specs.Waiting.{IsActive}
use Rattle.world_model.specs.World.{world_of, held_by}
use Rattle.world_model.specs.Allowed.{IsRun}
use Rattle.world_model.specs.Session.{Item}
use Rattle.world_model.specs.Journal.{line_of, answers_of, Birth, started_as, born_of}
use Rattle.code_types.specs.declared.code.Code.{Code}
use Rattle.code_types.specs.State.{State}
use Rattle.code_types.specs.Talk.{CodeTalk, Reaches}
use Rattle.code_types.specs.Runs.{Begins, FollowsCode, IsCodeRun, ticks_in}

-- What a process reaches begins each of its talks with more answers behind, and with more ticks than it made.
abbrev pub ReachedLaw : Type 0
ReachedLaw = (code : Code) (instance process : ℕ) (arguments : List ℤ) (answers behind : List Answer) (n : ℕ) (trace talk : List Item) (state : State)
    → Reaches code instance process arguments answers trace state
    → CodeTalk code instance process arguments (answers ++ behind) n talk
    → ticks_in trace < n
    → Begins trace talk

-- a code has a talk, whatever is started and answered
abbrev pub HasTalks : Code → Type 0
HasTalks code = (instance process : ℕ) (arguments : List ℤ) (answers : List Answer) (n : ℕ) → (trace : List Item) × CodeTalk code instance process arguments answers n trace

-- An instance follows the code where its line is reached with some of its answers, the others being behind.
abbrev pub FollowsLaw : Type 0
FollowsLaw = (code : Code) (events : List Event) (who : ℕ) (birth : Birth) (given behind : List Answer) (state : State)
    → HasTalks code
    → answers_of who events ≡ given ++ behind
    → Reaches code who birth.process birth.arguments given (line_of who events) state
    → FollowsCode code events who birth

-- the process and the arguments of an instance, if it was made
abbrev pub birth_in : Option ℕ → Option (List ℤ) → Option Birth
birth_in None arguments = None
birth_in (Some process) None = None
birth_in (Some process) (Some arguments) = Some (record { process = process; arguments = arguments })

abbrev pub birth_at : World → ℕ → Option Birth
birth_at w i = birth_in (slice_get w.processes i) (slice_get w.arguments i)

-- Each instance but the first was born as the world has it, and one that wasn't made neither did anything nor was answered.
pub record Births (w : World) (events : List Event) : Type 0 where
  pub processes : length w.processes ≡ length w.phases
  pub arguments : length w.arguments ≡ length w.phases
  pub some : 2 ≤ length w.phases
  pub nobody : started_as 0 events ≡ None
  pub births : (i : ℕ) → 2 ≤ i → started_as i events ≡ birth_at w i
  pub quiet : (i : ℕ) → length w.phases ≤ i → (line_of i events ≡ []) × (answers_of i events ≡ [])

-- So it is in each journal that is allowed.
abbrev pub BirthsLaw : Type 0
BirthsLaw = (facts : Facts) (events : List Event) → IsRun facts events → Births (world_of facts events) events

-- An instance stands in a state where a journal leaves it: it was born, and what it did is what the code does up to this state
-- with the answers that it had, all of them in order.
pub record StandsWhereLeft (code : Code) (events : List Event) (instance : ℕ) (state : State) : Type 0 where
  pub birth : Birth
  pub born : born_of instance events ≡ Some birth
  pub reached : Reaches code instance birth.process birth.arguments (answers_of instance events) (line_of instance events) state

-- An instance was born, and what it did is what the code does with a front of its answers.
pub record HasReached (code : Code) (events : List Event) (instance : ℕ) : Type 0 where
  pub birth : Birth
  pub born : born_of instance events ≡ Some birth
  pub given : List Answer
  pub behind : List Answer
  pub answers : answers_of instance events ≡ given ++ behind
  pub state : State
  pub reached : Reaches code instance birth.process birth.arguments given (line_of instance events) state

-- A journal that is allowed is a run of the code, where each instance that was made has reached what it did.
abbrev pub CodeRunLaw : Type 0
CodeRunLaw = (code : Code) (facts : Facts) (events : List Event)
    → HasTalks code
    → IsRun facts events
    → ((i : ℕ) → 1 ≤ i → i < length (world_of facts events).phases → HasReached code events i)
    → IsCodeRun code facts events

-- In a journal that is allowed an active process holds exactly the regions that its state has open, in the order in which it
-- entered them.
abbrev pub HeldRegionsLaw : Type 0
HeldRegionsLaw = (code : Code) (facts : Facts) (events : List Event) (instance : ℕ) (state : State)
    → IsRun facts events
    → StandsWhereLeft code events instance state
    → IsActive (world_of facts events) instance
    → held_by (world_of facts events) instance ≡ map (λ r. r.region) state.regions

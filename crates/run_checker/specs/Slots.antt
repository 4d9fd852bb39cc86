-- What the machines of a journal's instances make of an event. A machine that is none can make nothing more.
use Rattle.std.specs.Prelude.{◌≡◌, ◌≢◌, ◌⊎◌, ℕ, ◌+◌, ◌^◌, ◌<◌, ◌≤◌, Bool, true, false, List, [], ◌∷◌, ◌++◌, ℤ, slice_get, slice_set, Some, None}
use Rattle.std.specs.declared.option.Option.{Option}
use Rattle.kernel_base.specs.declared.request.Request.{Request}
use Rattle.kernel_base.specs.declared.request.Request.TheVariants.{Start, End}
use Rattle.kernel_base.specs.declared.answer.Answer.{Answer}
use Rattle.kernel_base.specs.declared.answer.Answer.TheVariants.{Instance}
use Rattle.kernel_base.specs.declared.event.Event.{Event}
use Rattle.kernel_base.specs.declared.event.Event.TheVariants.{Did, Waits, Goes, Runs}
use Rattle.world_model.specs.Session.{Ask}
use Rattle.world_model.specs.Journal.{ticks_of}
use Rattle.code_types.specs.declared.code.Code.{Code}
use Rattle.code_types.specs.State.{State}
use Rattle.code_types.specs.Talk.{Leads, start_of}
use Rattle.code_safety.specs.Leading.{WaitsWith}
use Rattle.machine_steps.specs.declared.process.Process.{Process}
use Rattle.machine_steps.specs.Answering.{takes_answer}
use Rattle.machine_steps.specs.Views.{state_of}
use Rattle.code_machine.specs.declared.burst.Stop.{Stop}
use Rattle.code_machine.specs.declared.burst.Stop.TheVariants.{Asks, Paused}
use Rattle.code_machine.specs.Running.{Bursts, GoesOnBehind, IsUp, RunsOn}

-- the machine, where there is one, runs on the code and can make a burst
pub record CanBurst (code : Code) (p : Process) : Type 0 where
  pub runs : RunsOn code p
  pub up : IsUp (state_of p).mode

abbrev pub IsReady : Code → Option Process → Type 0
IsReady code None = Unit {0}
IsReady code (Some p) = CanBurst code p

abbrev pub IsReadyAt : Code → Option (Option Process) → Type 0
IsReadyAt code None = ⊥
IsReadyAt code (Some slot) = IsReady code slot

abbrev pub IsThere : Option (Option Process) → Type 0
IsThere None = ⊥
IsThere (Some slot) = Unit {0}

-- who made a burst has a machine that is ready or none, and its ticks leave room for one more; who goes on has a machine or none
abbrev pub CanFollow : Code → List (Option Process) → Event → Type 0
CanFollow code machines (Did who ticks request answer refill) = IsReadyAt code (slice_get machines who) × (ticks + 1 < 2 ^ 32)
CanFollow code machines (Waits who ticks request) = IsReadyAt code (slice_get machines who) × (ticks + 1 < 2 ^ 32)
CanFollow code machines (Goes who answer) = IsThere (slice_get machines who)
CanFollow code machines (Runs who ticks) = IsReadyAt code (slice_get machines who) × (1 ≤ ticks)

-- the machine makes so many ticks, asks the request, and waits for its answer
pub record HasAsked (code : Code) (ticks : ℕ) (request : Request) (old new : Option Process) : Type 0 where
  pub from : Process
  pub to : Process
  pub was : old ≡ Some from
  pub is : new ≡ Some to
  pub runs : RunsOn code to
  pub leads : Leads code (state_of from) [] (ticks_of ticks ++ Ask request ∷ []) (state_of to)
  pub waits : WaitsWith request (state_of to)

-- the machine makes so many ticks and asks nothing
pub record HasRun (code : Code) (ticks : ℕ) (old new : Option Process) : Type 0 where
  pub from : Process
  pub to : Process
  pub was : old ≡ Some from
  pub is : new ≡ Some to
  pub runs : RunsOn code to
  pub leads : Leads code (state_of from) [] (ticks_of ticks) (state_of to)
  pub up : IsUp (state_of to).mode

-- the machine's burst of at most so many ticks isn't the one that is wanted
pub record MakesOther (code : Code) (most : ℕ) (wanted : Stop) (old : Option Process) : Type 0 where
  pub from : Process
  pub was : old ≡ Some from
  pub stop : Stop
  pub to : State
  pub bursts : Bursts code most (state_of from) to stop
  pub other : stop ≢ wanted

-- there is no machine, or its burst is another one
abbrev pub Misses : Code → ℕ → Stop → Option Process → Type 0
Misses code most wanted old = (old ≡ None) ⊎ MakesOther code most wanted old

-- whether there is a machine that takes the answer
abbrev pub takes_in : Option Process → Answer → Bool
takes_in None answer = false
takes_in (Some p) answer = takes_answer (state_of p).mode answer

-- the machine takes the answer
pub record HasTaken (code : Code) (answer : Answer) (from : Process) (new : Option Process) : Type 0 where
  pub to : Process
  pub is : new ≡ Some to
  pub takes : takes_answer (state_of from).mode answer ≡ true
  pub leads : Leads code (state_of from) (answer ∷ []) [] (state_of to)
  pub runs : RunsOn code from → RunsOn code to
  pub going : GoesOnBehind (state_of from).mode (state_of to).mode

-- the machine is given up, since the answer doesn't fit, or since it is that to a request to end
abbrev pub IsGivenUp : Answer → Bool → Process → Option Process → Type 0
IsGivenUp answer ends from new = (new ≡ None) × ((takes_answer (state_of from).mode answer ≡ false) ⊎ (ends ≡ true))

-- what an answer makes of a machine
abbrev pub Takes : Code → Answer → Bool → Option Process → Option Process → Type 0
Takes code answer ends None new = new ≡ None
Takes code answer ends (Some from) new = (HasTaken code answer from new × (ends ≡ false)) ⊎ IsGivenUp answer ends from new

-- the machine of a process that is started; none where the code has no such body, or one with other parameters
abbrev pub StartsAs : Code → ℕ → ℕ → List ℤ → Option Process → Type 0
StartsAs code instance process scalars None = start_of code instance process scalars ≡ None
StartsAs code instance process scalars (Some p) = (start_of code instance process scalars ≡ Some (state_of p)) × RunsOn code p

-- one more machine, that of a process that is started
pub record HasStarted (code : Code) (instance process : ℕ) (scalars : List ℤ) (old new : List (Option Process)) : Type 0 where
  pub slot : Option Process
  pub starts : StartsAs code instance process scalars slot
  pub is : new ≡ old ++ slot ∷ []

-- what a request and its answer add to the machines
abbrev pub Adds : Code → Request → Answer → List (Option Process) → List (Option Process) → Type 0
Adds code (Start process scalars) (Instance i) old new = HasStarted code i process scalars old new
Adds code request answer old new = new ≡ old

abbrev pub is_end : Request → Bool
is_end (End how) = true
is_end request = false

-- the machine of an instance that asked and was answered
pub record HasDone (code : Code) (ticks : ℕ) (request : Request) (answer : Answer) (old new : Option Process) : Type 0 where
  pub asked : Option Process
  pub asks : HasAsked code ticks request old asked
  pub takes : Takes code answer (is_end request) asked new

-- One machine is changed in this way, and the others stay.
pub record Changes (machines new : List (Option Process)) (who : ℕ) (Way : Option Process → Option Process → Type 0) : Type 0 where
  pub old : Option Process
  pub changed : Option Process
  pub there : slice_get machines who ≡ Some old
  pub way : Way old changed
  pub is : new ≡ slice_set machines who changed

-- who did something changed its machine, and who was started has one more
pub record HasDoneAll (code : Code) (who ticks : ℕ) (request : Request) (answer : Answer) (machines new : List (Option Process)) : Type 0 where
  pub between : List (Option Process)
  pub changes : Changes machines between who (HasDone code ticks request answer)
  pub adds : Adds code request answer between new

-- the machines follow an event
abbrev pub Follows : Code → Event → List (Option Process) → List (Option Process) → Type 0
Follows code (Did who ticks request answer refill) machines new = HasDoneAll code who ticks request answer machines new
Follows code (Waits who ticks request) machines new = Changes machines new who (HasAsked code ticks request)
Follows code (Goes who answer) machines new = Changes machines new who (Takes code answer false)
Follows code (Runs who ticks) machines new = Changes machines new who (HasRun code ticks)

-- at this place there is no machine, or its burst is another one
pub record MissesAt (code : Code) (most : ℕ) (wanted : Stop) (machines : List (Option Process)) (who : ℕ) : Type 0 where
  pub old : Option Process
  pub there : slice_get machines who ≡ Some old
  pub misses : Misses code most wanted old

-- the machine of who made the burst makes another one
abbrev pub CannotFollow : Code → Event → List (Option Process) → Type 0
CannotFollow code (Did who ticks request answer refill) machines = MissesAt code (ticks + 1) (Asks ticks request) machines who
CannotFollow code (Waits who ticks request) machines = MissesAt code (ticks + 1) (Asks ticks request) machines who
CannotFollow code (Goes who answer) machines = ⊥
CannotFollow code (Runs who ticks) machines = MissesAt code ticks (Paused ticks) machines who

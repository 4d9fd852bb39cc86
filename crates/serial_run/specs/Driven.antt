-- What a run of a code comes to.
use Rattle.std.specs.Prelude.{◌≡◌, ◌⊎◌, ◌≤◌, ℕ, suc, List, [], ◌∷◌, ◌++◌, length, slice_get, sum_by, Some, None, All}
use Rattle.kernel_base.specs.declared.facts.Facts.{Facts}
use Rattle.kernel_base.specs.declared.request.Request.{Request}
use Rattle.kernel_base.specs.declared.event.Event.{Event}
use Rattle.kernel_base.specs.declared.event.Event.TheVariants.{Did, Waits, Goes, Runs}
use Rattle.world_model.specs.Session.{Item, Ask}
use Rattle.world_model.specs.Journal.{ticks_of, line_of, answers_of}
use Rattle.world_model.specs.World.{world_of}
use Rattle.world_model.specs.Over.{over_of, IsComplete}
use Rattle.kernel_steps.specs.Kept.{IsWholeBurst}
use Rattle.code_types.specs.declared.code.Code.{Code}
use Rattle.code_types.specs.State.{State}
use Rattle.code_types.specs.Talk.{Leads}
use Rattle.code_types.specs.Runs.{IsCodeRun}
use Rattle.machine_steps.specs.Views.{state_of}
use Rattle.run_laws.specs.Laws.{StandsWhereLeft}
use Rattle.serial_run.specs.declared.serial.Driven.{Driven}
use Rattle.serial_run.specs.declared.stopped.Stopped.{Stopped}
use Rattle.serial_run.specs.declared.runner.Runner.{Runner}

-- at most 256 ticks, and at most one request behind them: a burst that was made, but wasn't committed since the run was over
abbrev pub IsUncommitted : List Item → Type 0
IsUncommitted burst = (ticks : ℕ) × (ticks ≤ 256) × ((burst ≡ ticks_of ticks) ⊎ ((request : Request) × (burst ≡ ticks_of ticks ++ Ask request ∷ [])))

-- A machine stands where the journal leaves its instance, or past it by a burst that wasn't committed.
pub record StandsPast (code : Code) (events : List Event) (instance : ℕ) (state : State) : Type 0 where
  pub left : State
  pub stands : StandsWhereLeft code events instance left
  pub burst : List Item
  pub short : IsUncommitted burst
  pub leads : Leads code left [] burst state

-- an instance has a machine
abbrev pub HasMachine : List Runner → ℕ → Type 0
HasMachine machines instance = (k : ℕ) × (runner : Runner) × (slice_get machines k ≡ Some runner) × (runner.instance ≡ instance)

-- an instance has neither done anything nor had an answer
abbrev pub IsUntouched : List Event → ℕ → Type 0
IsUntouched events instance = (line_of instance events ≡ []) × (answers_of instance events ≡ [])

-- no instance has two machines
abbrev pub HaveOneEach : List Runner → Type 0
HaveOneEach machines = (k j : ℕ) (runner other : Runner) → slice_get machines k ≡ Some runner → slice_get machines j ≡ Some other → runner.instance ≡ other.instance → k ≡ j

-- The journal is a run of the code to its end, and each note of ticks is a whole burst. No instance has two machines, each that
-- has done anything or had an answer has one, and each machine stands where the journal leaves it, or past it by a burst that
-- wasn't committed.
pub record IsDriven (code : Code) (facts : Facts) (driven : Driven) : Type 0 where
  pub run : IsCodeRun code facts driven.events
  pub complete : IsComplete facts driven.events
  pub over : over_of facts driven.events ≡ Some driven.over
  pub bursts : All IsWholeBurst driven.events
  pub once : HaveOneEach driven.machines
  pub each : (instance : ℕ) → 1 ≤ instance → HasMachine driven.machines instance ⊎ IsUntouched driven.events instance
  pub stand : (k : ℕ) (runner : Runner) → slice_get driven.machines k ≡ Some runner → StandsPast code driven.events runner.instance (state_of runner.machine)

-- Each instance that was made has its machine, in the order of instances, and it stands exactly where the journal leaves it.
pub record HasAllMachines (code : Code) (facts : Facts) (driven : Driven) : Type 0 where
  pub machines : suc (length driven.machines) ≡ length (world_of facts driven.events).phases
  pub instances : (k : ℕ) (runner : Runner) → slice_get driven.machines k ≡ Some runner → runner.instance ≡ suc k
  pub stand : (k : ℕ) (runner : Runner) → slice_get driven.machines k ≡ Some runner → StandsWhereLeft code driven.events runner.instance (state_of runner.machine)

-- one for a commit or a note of ticks, none for a going on
abbrev pub made_by : Event → ℕ
made_by (Did who ticks request answer refill) = 1
made_by (Waits who ticks request) = 1
made_by (Goes who answer) = 0
made_by (Runs who ticks) = 1

-- how many events of a journal are no goings on
abbrev pub made_of : List Event → ℕ
made_of = sum_by made_by

-- The journal is a run of the code, of so many commits and notes of ticks, and not more than were asked for; over is its end, and
-- where it has none all of them were made.
pub record IsStopped (code : Code) (facts : Facts) (most : ℕ) (stopped : Stopped) : Type 0 where
  pub run : IsCodeRun code facts stopped.events
  pub made : stopped.made ≡ made_of stopped.events
  pub few : stopped.made ≤ most
  pub over : stopped.over ≡ over_of facts stopped.events
  pub all : stopped.over ≡ None → stopped.made ≡ most

-- Machines that run a code, and what a burst makes of them.
use Rattle.std.specs.Prelude.{◌≡◌, ℕ, ◌+◌, ◌^◌, ◌<◌, ◌≤◌, All, [], ◌∷◌, ◌++◌, length, vec_capacity}
use Rattle.kernel_base.specs.declared.request.Request.TheVariants.{End}
use Rattle.world_model.specs.Session.{Ask}
use Rattle.world_model.specs.Journal.{ticks_of}
use Rattle.code_types.specs.declared.code.Code.{Code}
use Rattle.code_types.specs.State.{State, Mode}
use Rattle.code_types.specs.State.{Running as RunningMode, Called as CalledMode, Asking as AskingMode, Raising as RaisingMode, Ended as EndedMode}
use Rattle.code_types.specs.Talk.{Leads}
use Rattle.code_safety.specs.Leading.{WaitsWith}
use Rattle.code_safety.specs.Standing.{StandsOn}
use Rattle.machine_steps.specs.declared.process.Doing.{Doing}
use Rattle.machine_steps.specs.declared.process.Doing.TheVariants.{Running, Called, Asking, Raising, Ended}
use Rattle.machine_steps.specs.declared.process.Process.{Process}
use Rattle.machine_steps.specs.Asking.{HasFewSlots}
use Rattle.machine_steps.specs.declared.room.Room.{Room}
use Rattle.machine_steps.specs.Rooms.{HasLists, HasRoomFor}
use Rattle.machine_steps.specs.Views.{state_of}
use Rattle.code_machine.specs.declared.burst.Stop.{Stop}
use Rattle.code_machine.specs.declared.burst.Stop.TheVariants.{Asks, Paused}

-- a process isn't waiting for an answer, and hasn't ended
abbrev pub IsUp : Mode → Type 0
IsUp RunningMode = Unit {0}
IsUp CalledMode = Unit {0}
IsUp (AskingMode request slots) = ⊥
IsUp (RaisingMode exception) = Unit {0}
IsUp EndedMode = ⊥

-- Behind an answer a process goes on, but behind that to a request to end, by which it has ended.
abbrev pub GoesOnBehind : Mode → Mode → Type 0
GoesOnBehind RunningMode new = Unit {0}
GoesOnBehind CalledMode new = Unit {0}
GoesOnBehind (AskingMode (End how) slots) new = new ≡ EndedMode
GoesOnBehind (AskingMode request slots) new = IsUp new
GoesOnBehind (RaisingMode exception) new = Unit {0}
GoesOnBehind EndedMode new = Unit {0}

-- a process that hasn't ended has room for 250 frames, and one that waits has room for one more region
abbrev pub HasRoomIn : Doing → Code → Process → Type 0
HasRoomIn Running code p = HasRoomFor code p
HasRoomIn Called code p = HasRoomFor code p
HasRoomIn (Asking request slots) code p = HasRoomFor code p × (length p.regions.items + 1 ≤ vec_capacity p.regions)
HasRoomIn (Raising exception) code p = HasRoomFor code p
HasRoomIn Ended code p = Unit {0}

-- A process that was started on a code: it stands well on the code, which agrees, and has the room that its steps and answers take.
pub record RunsOn (code : Code) (p : Process) : Type 0 where
  pub stands : StandsOn code (state_of p)
  pub short : length code.instrs < 2 ^ 64
  pub room : HasRoomIn p.doing code p
  pub few : HasFewSlots p.doing

-- Steps are made from a first state: so many ticks were made so far and no request was asked, and there is room for what the next
-- step takes.
pub record IsUnderway (code : Code) (most : ℕ) (from : State) (ticks : ℕ) (p : Process) (room : Room) : Type 0 where
  pub stands : StandsOn code (state_of p)
  pub short : length code.instrs < 2 ^ 64
  pub frames : HasRoomFor code p
  pub regions : length p.regions.items + 1 ≤ vec_capacity p.regions
  pub up : IsUp (state_of p).mode
  pub height : ℕ
  pub heights : All (λ row. row.height ≤ height) code.bodies
  pub lists : HasLists height room
  pub leads : Leads code from [] (ticks_of ticks) (state_of p)
  pub below : ticks < most

-- what is known of each machine: it was started on some code
abbrev pub RunsOnSome : Process → Type 0
RunsOnSome p = (code : Code) × RunsOn code p

-- What a burst of at most so many ticks makes of a process. The code's own steps lead from the first state to the second. Where
-- the burst asks, they made fewer ticks, and then asked the request that now waits; where it pauses, they made exactly so many
-- ticks and asked nothing.
abbrev pub Bursts : Code → ℕ → State → State → Stop → Type 0
Bursts code most from to (Asks ticks request) = (ticks < most) × Leads code from [] (ticks_of ticks ++ Ask request ∷ []) to × WaitsWith request to
Bursts code most from to (Paused ticks) = (ticks ≡ most) × Leads code from [] (ticks_of most) to × IsUp to.mode

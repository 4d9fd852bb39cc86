-- What a process has for its next step: what the step asks of the frames, and the room that it takes.
use Rattle.std.specs.Prelude.{◌≡◌, ℕ, ◌+◌, ◌<◌, ◌≤◌, IfSome, IsSomeAnd, length, slice_get, Some, vec_capacity}
use Rattle.kernel_base.specs.declared.ends.Exc.{Exc}
use Rattle.code_types.specs.declared.instr.Instr.{Instr}
use Rattle.code_types.specs.declared.instr.Instr.TheVariants.{Call}
use Rattle.code_types.specs.declared.code.Code.{Code}
use Rattle.code_types.specs.Places.{finds, params_of, results_of}
use Rattle.machine_frames.specs.Frames.{CanAct}
use Rattle.machine_steps.specs.declared.process.Doing.{Doing}
use Rattle.machine_steps.specs.declared.process.Doing.TheVariants.{Running, Called, Asking, Raising, Ended}
use Rattle.machine_steps.specs.declared.process.Process.{Process}
use Rattle.machine_steps.specs.declared.room.Room.{Room}
use Rattle.machine_steps.specs.Ending.{CanReturn}
use Rattle.machine_steps.specs.Rooms.{HasLists, HasRoomFor}

-- frames that are left have room beside those that aren't in use
abbrev pub HasSpare : Process → Type 0
HasSpare p = length p.below.items + length p.spare.items ≤ vec_capacity p.spare

-- A process that runs can make this instruction, with this room for a request.
pub record IsEquipped (code : Code) (instr : Instr) (p : Process) (room : Room) : Type 0 where
  pub running : p.doing ≡ Running
  pub here : slice_get code.instrs p.top.place ≡ Some instr
  pub can : CanAct code instr p.top
  pub there : p.top.body < length code.bodies
  pub lists : HasLists (finds code p.top.body instr) room
  pub returns : CanReturn (results_of (slice_get code.bodies p.top.body)) p.below.items
  pub spare : HasSpare p

-- A process that has made the tick of a call can make the frame of this body.
pub record IsEquippedToEnter (code : Code) (p : Process) : Type 0 where
  pub called : p.doing ≡ Called
  pub callee : ℕ
  pub here : slice_get code.instrs p.top.place ≡ Some (Call callee)
  pub there : callee < length code.bodies
  pub found : params_of (slice_get code.bodies callee) ≤ length p.top.stack.items
  pub holds : IfSome (slice_get code.bodies callee) (λ row. row.params ≤ row.locals)
  pub few : length p.below.items < 249
  pub room : HasRoomFor code p

-- A process that has raised an exception can go on.
pub record IsEquippedToRaise (code : Code) (exception : Exc) (p : Process) : Type 0 where
  pub raising : p.doing ≡ Raising exception
  pub there : p.top.body < length code.bodies
  pub spare : HasSpare p

-- what a process has for its next step, by what it is about
abbrev pub IsEquippedIn : Doing → Code → Process → Room → Type 0
IsEquippedIn Running code p room = IsSomeAnd (slice_get code.instrs p.top.place) (λ instr. IsEquipped code instr p room)
IsEquippedIn Called code p room = IsEquippedToEnter code p
IsEquippedIn (Asking request slots) code p room = ⊥
IsEquippedIn (Raising exception) code p room = IsEquippedToRaise code exception p
IsEquippedIn Ended code p room = ⊥

-- A process can make its next step.
abbrev pub IsEquippedToStep : Code → Process → Room → Type 0
IsEquippedToStep code p room = IsEquippedIn p.doing code p room

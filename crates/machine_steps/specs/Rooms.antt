-- The room of frames.
use Rattle.std.specs.Prelude.{◌≡◌, ℕ, ◌+◌, ◌≤◌, All, [], ◌∷◌, ◌++◌, length, vec_capacity}
use Rattle.code_types.specs.declared.code.Code.{Code}
use Rattle.machine_steps.specs.declared.process.Process.{Process}
use Rattle.machine_steps.specs.declared.process.Doing.{Doing}
use Rattle.machine_steps.specs.declared.process.Doing.TheVariants.{Running, Called, Asking, Raising, Ended}
use Rattle.machine_steps.specs.declared.process.Stepped.{Stepped}
use Rattle.machine_steps.specs.declared.process.Stepped.TheVariants.{GoesOn, Ticks, Asks, Wants}
use Rattle.machine_steps.specs.declared.room.Room.{Room}
use Rattle.machine_frames.specs.declared.activation.Activation.{Activation}
use Rattle.machine_frames.specs.Frames.{KeepsRoom}

-- a frame has room for so many numbers on its stack, and so many locals
pub record HasRoom (height locals : ℕ) (a : Activation) : Type 0 where
  pub stack : height ≤ vec_capacity a.stack
  pub store : locals ≤ vec_capacity a.locals

-- a process whose 250 frames have such room, and that has room for the frames below the innermost one
pub record IsRoomy (height locals : ℕ) (p : Process) : Type 0 where
  pub top : HasRoom height locals p.top
  pub below : All (HasRoom height locals) p.below.items
  pub spare : All (HasRoom height locals) p.spare.items
  pub count : length p.below.items + length p.spare.items ≡ 249
  pub depth : 249 ≤ vec_capacity p.below
  pub unused : 249 ≤ vec_capacity p.spare

-- a process that has room for 250 frames of any body of the code
pub record HasRoomFor (code : Code) (p : Process) : Type 0 where
  pub height : ℕ
  pub locals : ℕ
  pub heights : All (λ row. row.height ≤ height) code.bodies
  pub stores : All (λ row. row.locals ≤ locals) code.bodies
  pub room : IsRoomy height locals p

-- a step keeps the memory of all frames where it was, and no frame gives up room
pub record KeepsFrames (old new : Process) : Type 0 where
  pub top : KeepsRoom old.top new.top
  pub below : new.below ≡ old.below
  pub spare : new.spare ≡ old.spare
  pub regions : new.regions ≡ old.regions

-- the frames are where they were, and no frame gives up room
pub record KeepsPlaces (old new : Process) : Type 0 where
  pub top : KeepsRoom old.top new.top
  pub below : new.below ≡ old.below
  pub spare : new.spare ≡ old.spare

-- whatever room the 250 frames had, they have
pub record StaysRoomy (old new : Process) : Type 0 where
  pub frames : (height locals : ℕ) → IsRoomy height locals old → IsRoomy height locals new
  pub regions : new.regions ≡ old.regions

-- empty lists with room for so many items each, and for a number in decimal
pub record HasLists (most : ℕ) (room : Room) : Type 0 where
  pub numbers : (room.numbers.items ≡ []) × (most ≤ vec_capacity room.numbers)
  pub kept_numbers : (room.kept_numbers.items ≡ []) × (most ≤ vec_capacity room.kept_numbers)
  pub alternatives : (room.alternatives.items ≡ []) × (most ≤ vec_capacity room.alternatives)
  pub kept_alternatives : (room.kept_alternatives.items ≡ []) × (most ≤ vec_capacity room.kept_alternatives)
  pub bytes : (room.bytes.items ≡ []) × (most ≤ vec_capacity room.bytes) × (40 ≤ vec_capacity room.bytes)
  pub kept_bytes : (room.kept_bytes.items ≡ []) × (most ≤ vec_capacity room.kept_bytes) × (40 ≤ vec_capacity room.kept_bytes)
  pub slots : (room.slots.items ≡ []) × (most ≤ vec_capacity room.slots)

-- the room is there still where no request is asked
abbrev pub StaysUnlessAsked : Stepped → Room → Room → Type 0
StaysUnlessAsked GoesOn old new = (most : ℕ) → HasLists most old → HasLists most new
StaysUnlessAsked Ticks old new = (most : ℕ) → HasLists most old → HasLists most new
StaysUnlessAsked (Asks request) old new = Unit {0}
StaysUnlessAsked Wants old new = (most : ℕ) → HasLists most old → HasLists most new

-- the innermost frame has gone below, and one that wasn't in use is the innermost; neither gives up room
pub record IsPushed (frame : Activation) (old new : Process) : Type 0 where
  pub caller : Activation
  pub top : KeepsRoom frame new.top
  pub kept : KeepsRoom old.top caller
  pub below : new.below.items ≡ old.below.items ++ caller ∷ []
  pub depth : vec_capacity old.below ≤ vec_capacity new.below
  pub spare : new.spare ≡ old.spare
  pub regions : new.regions ≡ old.regions

-- no frame is held, in use or not
pub record HoldsNoFrame (p : Process) : Type 0 where
  pub stack : p.top.stack.items ≡ []
  pub locals : p.top.locals.items ≡ []
  pub below : p.below.items ≡ []
  pub spare : p.spare.items ≡ []

-- the frames are where they were, and no frame gives up room; a process that has ended holds no frame
abbrev pub KeepsUnlessEnded : Doing → Process → Process → Type 0
KeepsUnlessEnded Running old new = KeepsPlaces old new
KeepsUnlessEnded Called old new = KeepsPlaces old new
KeepsUnlessEnded (Asking request slots) old new = KeepsPlaces old new
KeepsUnlessEnded (Raising exception) old new = KeepsPlaces old new
KeepsUnlessEnded Ended old new = HoldsNoFrame new

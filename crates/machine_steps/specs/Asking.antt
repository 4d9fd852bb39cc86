-- How a process comes to ask a request.
use Rattle.std.specs.Prelude.{◌≡◌, ℕ, ◌^◌, ◌<◌, List, ◌∷◌, length, map}
use Rattle.kernel_base.specs.declared.request.Request.{Request}
use Rattle.code_types.specs.Operands.{below_topmost}
use Rattle.code_types.specs.State.{Slot, Asking}
use Rattle.code_types.specs.Steps.{moved}
use Rattle.machine_frames.specs.Frames.{frame_of}
use Rattle.machine_steps.specs.declared.process.Process.{Process}
use Rattle.machine_steps.specs.declared.process.Doing.{Doing}
use Rattle.machine_steps.specs.declared.process.Doing.TheVariants.{Running, Called, Raising, Ended}
use Rattle.machine_steps.specs.declared.process.Doing.TheVariants.{Asking as AsksNow}
use Rattle.machine_steps.specs.declared.process.Stepped.{Stepped}
use Rattle.machine_steps.specs.declared.process.Stepped.TheVariants.{Asks}
use Rattle.machine_steps.specs.Views.{callers_of, region_of, state_of}

-- the request is asked once so many numbers are off the stack
pub record AsksNext (found : ℕ) (request : Request) (slots : List Slot) (old new : Process) (stepped : Stepped) : Type 0 where
  pub asks : stepped ≡ Asks request
  pub state : state_of new ≡ record {
    instance = old.instance;
    frames = moved (frame_of old.top) old.top.place (below_topmost found old.top.stack.items) ∷ callers_of old.below.items;
    regions = map region_of old.regions.items;
    mode = Asking request slots;
  }

-- the slots of a request that waits are fewer than 2^32
abbrev pub HasFewSlots : Doing → Type 0
HasFewSlots Running = Unit {0}
HasFewSlots Called = Unit {0}
HasFewSlots (AsksNow request slots) = length slots.items < 2 ^ 32
HasFewSlots (Raising exception) = Unit {0}
HasFewSlots Ended = Unit {0}

-- no request waits, and the process hasn't ended
abbrev pub IsUpNow : Doing → Type 0
IsUpNow Running = Unit {0}
IsUpNow Called = Unit {0}
IsUpNow (AsksNow request slots) = ⊥
IsUpNow (Raising exception) = Unit {0}
IsUpNow Ended = ⊥

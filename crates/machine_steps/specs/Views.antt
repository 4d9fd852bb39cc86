-- What a process that is held is seen as: a state of the definitions of `code_types`.
use Rattle.std.specs.Prelude.{List, [], ◌∷◌, map, reverse}
use Rattle.code_types.specs.State.{Frame, Slot, OpenRegion, Mode, State}
use Rattle.code_types.specs.State.{Running as RunningMode, Called as CalledMode, Asking as AskingMode, Raising as RaisingMode, Ended as EndedMode}
use Rattle.machine_frames.specs.declared.activation.Activation.{Activation}
use Rattle.machine_frames.specs.Frames.{frame_of}
use Rattle.machine_steps.specs.declared.process.RegionEntry.{RegionEntry}
use Rattle.machine_steps.specs.declared.process.SlotEntry.{SlotEntry}
use Rattle.machine_steps.specs.declared.process.Doing.{Doing}
use Rattle.machine_steps.specs.declared.process.Doing.TheVariants.{Running, Called, Asking, Raising, Ended}
use Rattle.machine_steps.specs.declared.process.Process.{Process}

abbrev pub region_of : RegionEntry → OpenRegion
region_of r = record { region = r.region; frame = r.frame }

abbrev pub slot_of : SlotEntry → Slot
slot_of s = record { local = s.local; count = s.count }

-- what the process is about
abbrev pub mode_of : Doing → Mode
mode_of Running = RunningMode
mode_of Called = CalledMode
mode_of (Asking request slots) = AskingMode request (map slot_of slots.items)
mode_of (Raising exception) = RaisingMode exception
mode_of Ended = EndedMode

-- the frames below the innermost one, which are held with the innermost last
abbrev pub callers_of : List Activation → List Frame
callers_of below = reverse (map frame_of below)

-- the frames, the innermost first; a process that has ended has none
abbrev pub frames_of : Doing → Activation → List Activation → List Frame
frames_of Running top below = frame_of top ∷ callers_of below
frames_of Called top below = frame_of top ∷ callers_of below
frames_of (Asking request slots) top below = frame_of top ∷ callers_of below
frames_of (Raising exception) top below = frame_of top ∷ callers_of below
frames_of Ended top below = []

-- the state of the process
abbrev pub state_of : Process → State
state_of p = record {
  instance = p.instance;
  frames = frames_of p.doing p.top p.below.items;
  regions = map region_of p.regions.items;
  mode = mode_of p.doing;
}

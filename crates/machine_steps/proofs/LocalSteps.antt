-- An instruction that stays in its frame is the step of the definitions.
use Rattle.std.proofs.Common.{◌≡◌, ℕ, ◌≤◌, List, ◌∷◌, ℤ, true, length, slice_get, Some, refl, ◌∙◌, rules, tests}
use Rattle.std.specs.Prelude.{nat_le, map}
use Rattle.kernel_base.specs.declared.ends.Exc.{Exc}
use Rattle.code_types.specs.declared.instr.Instr.{Instr}
use Rattle.code_types.specs.declared.code.Code.{Code}
use Rattle.code_types.specs.Places.{finds}
use Rattle.code_types.specs.Operands.{topmost, below_topmost}
use Rattle.code_types.specs.Actions.{Action, Pushes, Sets, GoesTo, TicksTo, Calls, Returns, Throws, Requests, Halts, action_of}
use Rattle.code_types.specs.State.{Frame, OpenRegion, State, Mode, Running, Raising}
use Rattle.code_types.specs.Steps.{Move, Goes, Makes, Stays, made, move}
use Rattle.machine_frames.specs.declared.activation.Acted.{Acted}
use Rattle.machine_frames.specs.declared.activation.Acted.TheVariants.{GoesOn, Ticks, Raises, Elsewhere}
use Rattle.machine_frames.specs.declared.activation.Activation.{Activation}
use Rattle.machine_frames.specs.Frames.{Acts, Does, frame_of}
use Rattle.machine_steps.specs.declared.process.Process.{Process}
use Rattle.machine_steps.specs.declared.process.Doing.TheVariants.{Running as RunsNow, Raising as RaisesNow}
use Rattle.machine_steps.specs.Views.{state_of, callers_of, region_of}

-- a process with these frames
abbrev pub process : ℕ → List Frame → List OpenRegion → Mode → State
process instance frames regions mode = record { instance = instance; frames = frames; regions = regions; mode = mode }

-- the move of a process whose innermost frame becomes this one
abbrev pub moved_by : Acted → ℕ → List Frame → List OpenRegion → Move
moved_by GoesOn instance frames regions = Goes (process instance frames regions Running)
moved_by Ticks instance frames regions = Makes (process instance frames regions Running)
moved_by (Raises exception) instance frames regions = Goes (process instance frames regions (Raising exception))
moved_by Elsewhere instance frames regions = Stays

made_by_acts : (instance : ℕ) (f : Frame) (below : List Frame) (regions : List OpenRegion) (rest : List ℤ) (new : Frame) (acted : Acted) (action : Action)
    → Acts rest f new acted action
    → made (process instance (f ∷ below) regions Running) f below rest action ≡ moved_by acted instance (new ∷ below) regions
made_by_acts instance f below regions rest new acted (Pushes numbers) h = rw (h.1, h.0) refl
made_by_acts instance f below regions rest new acted (Sets first numbers) h = rw (h.1, h.0) refl
made_by_acts instance f below regions rest new acted (GoesTo place) h = rw (h.1, h.0) refl
made_by_acts instance f below regions rest new acted (TicksTo place) h = rw (h.1, h.0) refl
made_by_acts instance f below regions rest new acted Calls h = absurd h
made_by_acts instance f below regions rest new acted (Returns results) h = absurd h
made_by_acts instance f below regions rest new acted (Throws exception) h = rw (h.1, h.0) refl
made_by_acts instance f below regions rest new acted (Requests request slots) h = absurd h
made_by_acts instance f below regions rest new acted Halts h = absurd h

-- the operands are there
le_true : (m n : ℕ) → m ≤ n → nat_le m n ≡ true
le_true m n h = search (rules, tests)

-- a step at an instruction that finds its operands
pub executed_at : (code : Code) (instance : ℕ) (f : Frame) (below : List Frame) (regions : List OpenRegion) (instr : Instr)
    → slice_get code.instrs f.place ≡ Some instr
    → finds code f.body instr ≤ length f.stack
    → let s = process instance (f ∷ below) regions Running in
    let count = finds code f.body instr in
    move code s ≡ made s f below (below_topmost count f.stack) (action_of s f instr (topmost count f.stack))
executed_at code instance f below regions instr here found =
    let s = process instance (f ∷ below) regions Running in
    let yes = le_true (finds code f.body instr) (length f.stack) found in
    rw (here, yes) refl

-- a step that stays in its frame
pub local_step : (code : Code) (instance : ℕ) (f new : Frame) (below : List Frame) (regions : List OpenRegion) (instr : Instr) (acted : Acted)
    → slice_get code.instrs f.place ≡ Some instr
    → finds code f.body instr ≤ length f.stack
    → ((s : State) → Acts (below_topmost (finds code f.body instr) f.stack) f new acted (action_of s f instr (topmost (finds code f.body instr) f.stack)))
    → move code (process instance (f ∷ below) regions Running) ≡ moved_by acted instance (new ∷ below) regions
local_step code instance f new below regions instr acted here found acts =
    let s = process instance (f ∷ below) regions Running in
    executed_at code instance f below regions instr here found
    ∙ made_by_acts instance f below regions (below_topmost (finds code f.body instr) f.stack) new acted (action_of s f instr (topmost (finds code f.body instr) f.stack)) (acts s)

-- a process whose instruction stays in its frame
pub local_goes : (code : Code) (m : Process) (top : Activation) (instr : Instr)
    → m.doing ≡ RunsNow
    → slice_get code.instrs m.top.place ≡ Some instr
    → finds code m.top.body instr ≤ length m.top.stack.items
    → Does (finds code m.top.body instr) instr m.top top GoesOn
    → move code (state_of m) ≡ Goes (state_of (record m { top = top }))
local_goes code m top instr running here found does =
    rw running (local_step code m.instance (frame_of m.top) (frame_of top) (callers_of m.below.items) (map region_of m.regions.items) instr GoesOn here found does)

pub local_ticks : (code : Code) (m : Process) (top : Activation) (instr : Instr)
    → m.doing ≡ RunsNow
    → slice_get code.instrs m.top.place ≡ Some instr
    → finds code m.top.body instr ≤ length m.top.stack.items
    → Does (finds code m.top.body instr) instr m.top top Ticks
    → move code (state_of m) ≡ Makes (state_of (record m { top = top }))
local_ticks code m top instr running here found does =
    rw running (local_step code m.instance (frame_of m.top) (frame_of top) (callers_of m.below.items) (map region_of m.regions.items) instr Ticks here found does)

pub local_raises : (code : Code) (m : Process) (top : Activation) (instr : Instr) (exception : Exc)
    → m.doing ≡ RunsNow
    → slice_get code.instrs m.top.place ≡ Some instr
    → finds code m.top.body instr ≤ length m.top.stack.items
    → Does (finds code m.top.body instr) instr m.top top (Raises exception)
    → move code (state_of m) ≡ Goes (state_of (record m { top = top; doing = RaisesNow exception }))
local_raises code m top instr exception running here found does =
    rw running (local_step code m.instance (frame_of m.top) (frame_of top) (callers_of m.below.items) (map region_of m.regions.items) instr (Raises exception) here found does)

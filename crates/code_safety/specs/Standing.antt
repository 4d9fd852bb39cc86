-- When a process of a code stands well: it meets what its next step asks.
use Rattle.std.specs.Prelude.{◌≡◌, ℕ, suc, ◌+◌, ◌≤◌, IsTrue, IsFalse, List, [], ◌∷◌, length, slice_get, All}
use Rattle.kernel_base.specs.declared.request.Request.{Request}
use Rattle.kernel_base.specs.declared.request.Request.TheVariants.{End}
use Rattle.kernel_base.specs.declared.answer.Answer.{Answer}
use Rattle.kernel_base.specs.declared.answer.Answer.TheVariants.{Fail}
use Rattle.code_types.specs.declared.instr.Instr.{Instr}
use Rattle.code_types.specs.declared.instr.Instr.TheVariants.{Call}
use Rattle.code_types.specs.declared.code.BodyRow.{BodyRow}
use Rattle.code_types.specs.declared.code.Code.{Code}
use Rattle.code_types.specs.Places.{params_of, pops, pushes, is_last}
use Rattle.code_types.specs.Actions.{most_frames}
use Rattle.code_types.specs.Agreement.{Agrees, StandsIn, HasHeight}
use Rattle.code_types.specs.Answers.{fits_request, pushed_by}
use Rattle.code_types.specs.State.{Frame, Slot, State, Mode, Running, Called, Asking, Raising, Ended}

-- A frame is in its body, with as many locals as the body has. The fact tells of its stack, by the instruction at its place and
-- the height there.
pub record Stands (code : Code) (heights : List ℕ) (f : Frame) (IsHigh : Instr → ℕ → Type 0) : Type 0 where
  pub row : BodyRow
  pub instr : Instr
  pub height : ℕ
  pub inside : StandsIn code f.body row f.place instr
  pub has : HasHeight heights f.place height
  pub locals : length f.locals ≡ row.locals
  pub stack : IsHigh instr height

-- the instruction is a call, and the stack is as high as its place says
pub record IsAtCall (f : Frame) (instr : Instr) (height : ℕ) : Type 0 where
  pub callee : ℕ
  pub calls : instr ≡ Call callee
  pub full : length f.stack ≡ height

-- the instruction is a call of this body, whose parameters are off the stack
pub record IsCalling (code : Code) (callee : ℕ) (f : Frame) (instr : Instr) (height : ℕ) : Type 0 where
  pub calls : instr ≡ Call callee
  pub left : length f.stack + params_of (slice_get code.bodies callee) ≡ height

-- the stack has at least the height of its place less what the instruction pops, so that a handler finds its own height
abbrev pub IsUnpopped : Code → Frame → Instr → ℕ → Type 0
IsUnpopped code f instr height = height ≤ length f.stack + pops code f.body instr

-- an answer fails, or pushes as many numbers as the instruction; so many alternatives are listed
abbrev pub Brings : Code → Instr → ℕ → Answer → Type 0
Brings code instr count (Fail exception) = Unit {0}
Brings code instr count answer = length (pushed_by count answer) ≡ pushes code instr

-- The frame waits at the instruction that asks: the operands are off the stack, control can go on, what is got has its place in
-- the locals, and each answer that fits pushes as many numbers as the instruction.
pub record Waits (code : Code) (request : Request) (slots : List Slot) (f : Frame) (instr : Instr) (height : ℕ) : Type 0 where
  pub left : length f.stack + pops code f.body instr ≡ height
  pub goes_on : IsFalse (is_last instr)
  pub lie : All (λ slot. slot.local + slot.count ≤ length f.locals) slots
  pub few : length slots ≤ pops code f.body instr
  pub brings : (answer : Answer) → IsTrue (fits_request request slots answer) → Brings code instr (length slots) answer

-- nothing is asked of the stack of a process that is about to end
abbrev pub WaitsFor : Code → Request → List Slot → Frame → Instr → ℕ → Type 0
WaitsFor code (End how) slots f instr height = Unit {0}
WaitsFor code request slots f instr height = Waits code request slots f instr height

-- how high the stack of the innermost frame is, by what the process is about
abbrev pub IsHighIn : Code → Mode → Frame → Instr → ℕ → Type 0
IsHighIn code Running f instr height = length f.stack ≡ height
IsHighIn code Called f instr height = IsAtCall f instr height
IsHighIn code (Asking request slots) f instr height = WaitsFor code request slots f instr height
IsHighIn code (Raising exception) f instr height = IsUnpopped code f instr height
IsHighIn code Ended f instr height = ⊥

-- each frame below another stands at the call of that one's body
abbrev pub StandAtCalls : Code → List ℕ → ℕ → List Frame → Type 0
StandAtCalls code heights callee [] = Unit {0}
StandAtCalls code heights callee (f ∷ below) = Stands code heights f (IsCalling code callee f) × StandAtCalls code heights f.body below

-- the innermost frame stands as the mode says, and those below it at calls; only a process that has ended has no frame
abbrev pub FramesStand : Code → List ℕ → Mode → List Frame → Type 0
FramesStand code heights mode [] = mode ≡ Ended
FramesStand code heights mode (f ∷ below) = Stands code heights f (IsHighIn code mode f) × StandAtCalls code heights f.body below

-- the number of frames, with that of a call whose tick is made
abbrev pub frames_due : Mode → ℕ → ℕ
frames_due Called count = suc count
frames_due mode count = count

-- A process stands well on a code with these heights.
pub record StandsWell (code : Code) (heights : List ℕ) (state : State) : Type 0 where
  pub frames : FramesStand code heights state.mode state.frames
  pub few : frames_due state.mode (length state.frames) ≤ most_frames

-- A process stands well on a code that agrees.
abbrev pub StandsOn : Code → State → Type 0
StandsOn code state = (agrees : Agrees code) × StandsWell code agrees.heights state

-- What a process that stands well has for its next step: what the step asks of its frames, but for the room of vectors.
use Rattle.std.specs.Prelude.{◌≡◌, ◌≢◌, ℕ, ◌+◌, ◌<◌, ◌≤◌, IsTrue, List, ◌∷◌, length, slice_get, slice_index_or, Some}
use Rattle.kernel_base.specs.declared.ends.Exc.{Exc}
use Rattle.kernel_base.specs.declared.ends.How.{How}
use Rattle.kernel_base.specs.declared.request.Request.{Request}
use Rattle.kernel_base.specs.declared.request.Request.TheVariants.{End}
use Rattle.kernel_base.specs.declared.answer.Answer.{Answer}
use Rattle.kernel_base.specs.declared.answer.Answer.TheVariants.{Got}
use Rattle.code_types.specs.declared.instr.Instr.{Instr}
use Rattle.code_types.specs.declared.instr.Instr.TheVariants.{Call}
use Rattle.code_types.specs.declared.code.Handler.{Handler}
use Rattle.code_types.specs.declared.code.BodyRow.{BodyRow}
use Rattle.code_types.specs.declared.code.Code.{Code}
use Rattle.code_types.specs.Places.{finds, pops, pushes, results_of, taker}
use Rattle.code_types.specs.Actions.{most_frames}
use Rattle.code_types.specs.Agreement.{Agrees, IsNamed}
use Rattle.code_types.specs.Answers.{fits_request, no_slot, pushed_by}
use Rattle.code_types.specs.State.{Frame, Slot, State, Running, Called, Asking, Raising}
use Rattle.code_safety.specs.Standing.{StandsWell}

-- A frame is in a body and at an instruction.
pub record IsPlaced (code : Code) (f : Frame) : Type 0 where
  pub body : f.body < length code.bodies
  pub place : f.place < length code.instrs

-- The frame has what the instruction finds and names, and the greatest height of its body has room for what it pushes.
pub record CanMake (code : Code) (f : Frame) (instr : Instr) : Type 0 where
  pub row : BodyRow
  pub is_body : slice_get code.bodies f.body ≡ Some row
  pub named : IsNamed code row instr
  pub locals : row.locals ≡ length f.locals
  pub operands : finds code f.body instr ≤ length f.stack
  pub high : length f.stack ≤ row.height
  pub room : length f.stack + pushes code instr ≤ row.height + pops code f.body instr

-- A call whose tick is made: its body is there, the parameters are on the stack and fit the locals, and there may be one frame
-- more above so many.
pub record CanEnter (code : Code) (f : Frame) (below : ℕ) : Type 0 where
  pub callee : ℕ
  pub row : BodyRow
  pub is_call : slice_get code.instrs f.place ≡ Some (Call callee)
  pub is_body : slice_get code.bodies callee ≡ Some row
  pub operands : row.params ≤ length f.stack
  pub holds : row.params ≤ row.locals
  pub few : below + 2 ≤ most_frames

-- A caller's body has room for so many results.
pub record CanTake (code : Code) (caller : Frame) (results : ℕ) : Type 0 where
  pub row : BodyRow
  pub is_body : slice_get code.bodies caller.body ≡ Some row
  pub room : length caller.stack + results ≤ row.height

-- A handler's height is on the stack, and its actions are in the code.
pub record CanLand (code : Code) (f : Frame) (handler : Handler) : Type 0 where
  pub height : handler.height ≤ length f.stack
  pub target : handler.target < length code.instrs

-- what is got lies in so many locals where its slot begins
abbrev pub HasItsPlace : List Slot → ℕ → Answer → Type 0
HasItsPlace slots locals (Got alternative send scalars by) = (slice_index_or slots alternative no_slot).local + length scalars ≤ locals
HasItsPlace slots locals answer = Unit {0}

-- The body has room for what the answer pushes, what is got has its place, and the slots are few.
pub record CanHold (code : Code) (f : Frame) (slots : List Slot) (answer : Answer) : Type 0 where
  pub row : BodyRow
  pub is_body : slice_get code.bodies f.body ≡ Some row
  pub room : length f.stack + length (pushed_by (length slots) answer) ≤ row.height
  pub got : HasItsPlace slots (length f.locals) answer
  pub few : length slots ≤ row.height

-- Each innermost frame is in a body and at an instruction.
abbrev pub PlacedLaw : Type 0
PlacedLaw = (code : Code) (agrees : Agrees code) (s : State) (f : Frame) (below : List Frame)
    → StandsWell code agrees.heights s → s.frames ≡ f ∷ below
    → IsPlaced code f

-- A process that runs can make the instruction at its place.
abbrev pub MakeLaw : Type 0
MakeLaw = (code : Code) (agrees : Agrees code) (s : State) (f : Frame) (below : List Frame) (instr : Instr)
    → StandsWell code agrees.heights s → s.frames ≡ f ∷ below → s.mode ≡ Running
    → slice_get code.instrs f.place ≡ Some instr
    → CanMake code f instr

-- A process that has made the tick of a call can enter the body.
abbrev pub EnterLaw : Type 0
EnterLaw = (code : Code) (agrees : Agrees code) (s : State) (f : Frame) (below : List Frame)
    → StandsWell code agrees.heights s → s.frames ≡ f ∷ below → s.mode ≡ Called
    → CanEnter code f (length below)

-- A caller can take the results of the body that it called, and is in a body and at an instruction itself.
abbrev pub ReturnLaw : Type 0
ReturnLaw = (code : Code) (agrees : Agrees code) (s : State) (f caller : Frame) (below : List Frame)
    → StandsWell code agrees.heights s → s.frames ≡ f ∷ caller ∷ below
    → CanTake code caller (results_of (slice_get code.bodies f.body)) × IsPlaced code caller

-- A process that raises an exception can land at the handler that takes it.
abbrev pub LandLaw : Type 0
LandLaw = (code : Code) (agrees : Agrees code) (s : State) (f : Frame) (below : List Frame) (exception : Exc) (handler : Handler)
    → StandsWell code agrees.heights s → s.frames ≡ f ∷ below → s.mode ≡ Raising exception
    → taker code.handlers f.place exception ≡ Some handler
    → CanLand code f handler

-- A process that waits can hold each answer that fits, unless it asks to end.
abbrev pub HoldLaw : Type 0
HoldLaw = (code : Code) (agrees : Agrees code) (s : State) (f : Frame) (below : List Frame) (request : Request) (slots : List Slot) (answer : Answer)
    → StandsWell code agrees.heights s → s.frames ≡ f ∷ below → s.mode ≡ Asking request slots
    → ((how : How) → request ≢ End how) → IsTrue (fits_request request slots answer)
    → CanHold code f slots answer

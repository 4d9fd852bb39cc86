-- The frames that the machine holds, and what an instruction makes of its frame.
use Rattle.std.specs.Prelude.{◌≡◌, ℕ, ◌+◌, ◌^◌, ◌<◌, ◌≤◌, List, ◌++◌, ℤ, length, vec_capacity, Bool, true, false, IsTrue}
use Rattle.kernel_base.specs.declared.ends.Exc.{Exc}
use Rattle.world_model.specs.Lists.{with_scalars}
use Rattle.code_types.specs.declared.instr.Instr.{Instr}
use Rattle.code_types.specs.Operands.{topmost, below_topmost}
use Rattle.code_types.specs.Actions.{Action, Pushes, Sets, GoesTo, TicksTo, Calls, Returns, Throws, Requests, Halts, action_of}
use Rattle.code_types.specs.State.{Frame, State}
use Rattle.code_types.specs.Steps.{moved}
use Rattle.code_types.specs.declared.instr.Instr.TheVariants.{Call, Return, Enter, Leave, This, Read, Write, Delay, Continue, Send, Signal, Take, Hear, Start, PutInt, PutText, PutLine, GetInt, Stop, Finish}
use Rattle.code_types.specs.declared.code.BodyRow.{BodyRow}
use Rattle.code_types.specs.declared.code.Code.{Code}
use Rattle.code_types.specs.Agreement.{IsNamed}
use Rattle.code_types.specs.Places.{finds, pops, pushes}
use Rattle.machine_frames.specs.declared.activation.Acted.{Acted}
use Rattle.machine_frames.specs.declared.activation.Acted.TheVariants.{GoesOn, Ticks, Raises, Elsewhere}
use Rattle.machine_frames.specs.declared.activation.Activation.{Activation}

-- the frame that is held
abbrev pub frame_of : Activation → Frame
frame_of a = record { body = a.body; place = a.place; stack = a.stack.items; locals = a.locals.items }

-- What an instruction asks of the frame that finds so many numbers and puts so many: the numbers are there, and there is room.
pub record IsReady (found put : ℕ) (a : Activation) : Type 0 where
  pub operands : found ≤ length a.stack.items
  pub room : length a.stack.items + put ≤ vec_capacity a.stack + found
  pub place : a.place + 1 < 2 ^ 64

-- no room is given up
pub record KeepsRoom (old new : Activation) : Type 0 where
  pub stack : vec_capacity old.stack ≤ vec_capacity new.stack
  pub locals : vec_capacity old.locals ≤ vec_capacity new.locals

-- What an action makes of a frame whose stack without the operands is `rest`: the frame goes on, with a tick or without, or an
-- exception is raised and it stays.
abbrev pub Acts : List ℤ → Frame → Frame → Acted → Action → Type 0
Acts rest f new acted (Pushes numbers) = (new ≡ moved f (f.place + 1) (rest ++ numbers)) × (acted ≡ GoesOn)
Acts rest f new acted (Sets first numbers) = (new ≡ record (moved f (f.place + 1) rest) { locals = with_scalars f.locals first numbers }) × (acted ≡ GoesOn)
Acts rest f new acted (GoesTo place) = (new ≡ moved f place rest) × (acted ≡ GoesOn)
Acts rest f new acted (TicksTo place) = (new ≡ moved f place rest) × (acted ≡ Ticks)
Acts rest f new acted Calls = ⊥
Acts rest f new acted (Returns results) = ⊥
Acts rest f new acted (Throws exception) = (new ≡ f) × (acted ≡ Raises exception)
Acts rest f new acted (Requests request slots) = ⊥
Acts rest f new acted Halts = ⊥

-- what an instruction that finds so many numbers makes of its frame, whatever the process
abbrev pub Does : ℕ → Instr → Activation → Activation → Acted → Type 0
Does count instr old new acted = (s : State) → Acts (below_topmost count old.stack.items) (frame_of old) (frame_of new) acted (action_of s (frame_of old) instr (topmost count old.stack.items))

-- an instruction asks more than its frame
abbrev pub is_elsewhere : Instr → Bool
is_elsewhere (Call callee) = true
is_elsewhere Return = true
is_elsewhere (Enter region) = true
is_elsewhere (Leave region) = true
is_elsewhere This = true
is_elsewhere (Read location first count) = true
is_elsewhere (Write location first count) = true
is_elsewhere (Delay n priority) = true
is_elsewhere (Continue event) = true
is_elsewhere (Send buffer count priority) = true
is_elsewhere (Signal signal count to priority) = true
is_elsewhere (Take n otherwise) = true
is_elsewhere (Hear n otherwise) = true
is_elsewhere (Start process count) = true
is_elsewhere PutInt = true
is_elsewhere (PutText n) = true
is_elsewhere PutLine = true
is_elsewhere GetInt = true
is_elsewhere Stop = true
is_elsewhere Finish = true
is_elsewhere instr = false

-- an instruction stays in its frame and does what it is to do, or it asks more and the frame stays
abbrev pub DoesOrLeaves : ℕ → Instr → Activation → Activation → Acted → Type 0
DoesOrLeaves count instr old new GoesOn = Does count instr old new GoesOn
DoesOrLeaves count instr old new Ticks = Does count instr old new Ticks
DoesOrLeaves count instr old new (Raises exception) = Does count instr old new (Raises exception)
DoesOrLeaves count instr old new Elsewhere = IsTrue (is_elsewhere instr) × (new ≡ old)

-- An instruction can be made in a frame: it finds its operands and the locals that it names, and there is room for what it puts.
pub record CanAct (code : Code) (instr : Instr) (a : Activation) : Type 0 where
  pub row : BodyRow
  pub locals : row.locals ≡ length a.locals.items
  pub named : IsNamed code row instr
  pub operands : finds code a.body instr ≤ length a.stack.items
  pub room : length a.stack.items + pushes code instr ≤ vec_capacity a.stack + pops code a.body instr
  pub place : a.place + 1 < 2 ^ 64

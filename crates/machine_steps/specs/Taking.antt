-- What an answer does to a process.
use Rattle.std.specs.Prelude.{◌≡◌, ℕ, ◌+◌, ◌^◌, ◌<◌, ◌≤◌, List, ◌∷◌, length, map, slice_index_or, vec_capacity}
use Rattle.kernel_base.specs.declared.answer.Answer.{Answer}
use Rattle.kernel_base.specs.declared.answer.Answer.TheVariants.{Value, Done, Woken, Got, Otherwise, Instance, Fail, Chose, Handed, Stored}
use Rattle.kernel_base.specs.declared.request.Request.{Request}
use Rattle.kernel_base.specs.declared.request.Request.TheVariants.{Read, Write, Enter, Leave, Delay, Continue, SendBuffer, ReceiveBuffer, SendSignal, ReceiveSignal, Start, Put, Get, End}
use Rattle.code_types.specs.Answers.{answered, no_slot, pushed_by}
use Rattle.code_types.specs.State.{Slot, State, Mode, Running, Called, Asking, Raising, Ended}
use Rattle.machine_steps.specs.declared.process.Process.{Process}
use Rattle.machine_steps.specs.declared.process.SlotEntry.{SlotEntry}
use Rattle.machine_frames.specs.Frames.{frame_of}
use Rattle.machine_steps.specs.declared.process.Doing.{Doing}
use Rattle.machine_steps.specs.declared.process.Doing.TheVariants.{Running as RunsNow, Called as CalledNow, Asking as AsksNow, Raising as RaisesNow, Ended as EndedNow}
use Rattle.machine_steps.specs.Asking.{IsUpNow}
use Rattle.machine_steps.specs.Views.{callers_of, region_of, slot_of}

-- the process once an answer has come
abbrev pub answered_in : State → Mode → Answer → State
answered_in s Running answer = s
answered_in s Called answer = s
answered_in s (Asking request slots) answer = answered s request slots answer
answered_in s (Raising exception) answer = s
answered_in s Ended answer = s

abbrev pub after_answer : State → Answer → State
after_answer s answer = answered_in s s.mode answer

-- what is got lies in the locals where its slot begins
abbrev pub IsStored : List Slot → ℕ → Answer → Type 0
IsStored slots locals (Value scalars) = Unit {0}
IsStored slots locals Done = Unit {0}
IsStored slots locals (Woken alternative by) = Unit {0}
IsStored slots locals (Got alternative send scalars by) = (slice_index_or slots alternative no_slot).local + length scalars ≤ locals
IsStored slots locals Otherwise = Unit {0}
IsStored slots locals (Instance i) = Unit {0}
IsStored slots locals (Fail exception) = Unit {0}
IsStored slots locals (Chose p) = Unit {0}
IsStored slots locals (Handed p) = Unit {0}
IsStored slots locals Stored = Unit {0}

-- a process that asks with these slots has room for what the answer brings
pub record HoldsAnswer (slots : List SlotEntry) (answer : Answer) (p : Process) : Type 0 where
  pub stack : length p.top.stack.items + length (pushed_by (length slots) answer) ≤ vec_capacity p.top.stack
  pub store : IsStored (map slot_of slots) (length p.top.locals.items) answer
  pub few : length slots < 2 ^ 32
  pub place : p.top.place + 1 < 2 ^ 64
  pub regions : length p.regions.items + 1 ≤ vec_capacity p.regions

-- the request isn't that of the end
abbrev pub IsNoEnd : Request → Type 0
IsNoEnd (Read place) = Unit {0}
IsNoEnd (Write place scalars) = Unit {0}
IsNoEnd (Enter region) = Unit {0}
IsNoEnd (Leave region) = Unit {0}
IsNoEnd (Delay events priority) = Unit {0}
IsNoEnd (Continue event) = Unit {0}
IsNoEnd (SendBuffer buffer scalars priority) = Unit {0}
IsNoEnd (ReceiveBuffer buffers otherwise) = Unit {0}
IsNoEnd (SendSignal signal scalars to priority) = Unit {0}
IsNoEnd (ReceiveSignal signals otherwise) = Unit {0}
IsNoEnd (Start process scalars) = Unit {0}
IsNoEnd (Put bytes) = Unit {0}
IsNoEnd Get = Unit {0}
IsNoEnd (End how) = ⊥

-- the state of the process, were it about this
abbrev pub process_in : Process → Mode → State
process_in p mode = record { instance = p.instance; frames = frame_of p.top ∷ callers_of p.below.items; regions = map region_of p.regions.items; mode = mode }

-- a process that asks has room for what the answer brings
abbrev pub HasAnswerRoom : Doing → Answer → Process → Type 0
HasAnswerRoom RunsNow answer p = Unit {0}
HasAnswerRoom CalledNow answer p = Unit {0}
HasAnswerRoom (AsksNow request slots) answer p = HoldsAnswer slots.items answer p
HasAnswerRoom (RaisesNow exception) answer p = Unit {0}
HasAnswerRoom EndedNow answer p = Unit {0}

-- behind an answer the process goes on, but behind that to a request to end, by which it has ended
abbrev pub GoesOnBehind : Request → Doing → Type 0
GoesOnBehind (End how) doing = doing ≡ EndedNow
GoesOnBehind request doing = IsUpNow doing

-- what an answer makes of what a process was about
abbrev pub IsAnswered : Doing → Doing → Type 0
IsAnswered RunsNow new = Unit {0}
IsAnswered CalledNow new = Unit {0}
IsAnswered (AsksNow request slots) new = GoesOnBehind request new
IsAnswered (RaisesNow exception) new = Unit {0}
IsAnswered EndedNow new = Unit {0}

-- Which answers a waiting process takes, and what they do.
use Rattle.std.specs.Prelude.{ℕ, zero, suc, ◌+◌, ◌==◌, nat_le, Bool, true, false, ◌&&◌, List, [], ◌∷◌, ◌++◌, ℤ, pos, length, slice_index_or, Some, None}
use Rattle.std.specs.List.{list_any}
use Rattle.std.specs.declared.option.Option.{Option}
use Rattle.kernel_base.specs.declared.ends.Exc.{Exc}
use Rattle.kernel_base.specs.declared.ends.Exc.TheVariants.{Rangefail, Empty, Delayfail, Spacefail, Extinct}
use Rattle.kernel_base.specs.declared.request.Alternative.{Alternative}
use Rattle.kernel_base.specs.declared.request.Request.{Request}
use Rattle.kernel_base.specs.declared.request.Request.TheVariants.{Read, Write, Enter, Leave, Delay, Continue, SendBuffer, ReceiveBuffer, SendSignal, ReceiveSignal, Start, Put, Get, End}
use Rattle.kernel_base.specs.declared.answer.Answer.{Answer}
use Rattle.kernel_base.specs.declared.answer.Answer.TheVariants.{Value, Done, Woken, Got, Otherwise, Instance, Fail, Chose, Handed, Stored}
use Rattle.world_model.specs.Lists.{number_for, with_scalars}
use Rattle.scalar_operators.specs.Numbers.{is_int}
use Rattle.code_types.specs.State.{Frame, Slot, OpenRegion, State, Running, Raising, Ended}

abbrev pub is_some_number : Option ℕ → ℕ → Bool
is_some_number None number = false
is_some_number (Some n) number = n == number

-- the number is that of the first alternative of something that is listed
abbrev pub is_listed : List Alternative → ℕ → Bool
is_listed alternatives number = list_any (λ a. is_some_number (number_for alternatives a.thing) number) alternatives

abbrev pub is_done : Answer → Bool
is_done Done = true
is_done answer = false

abbrev pub gives_read : ℕ → Answer → Bool
gives_read count (Value scalars) = length scalars == count
gives_read count answer = false

abbrev pub gives_delay : List Alternative → Answer → Bool
gives_delay events (Fail Delayfail) = true
gives_delay events (Woken alternative by) = is_listed events alternative && nat_le 1 by
gives_delay events answer = false

abbrev pub gives_continue : Answer → Bool
gives_continue (Chose None) = true
gives_continue (Chose (Some p)) = nat_le 1 p
gives_continue answer = false

abbrev pub gives_send_buffer : Answer → Bool
gives_send_buffer (Handed p) = nat_le 1 p
gives_send_buffer Stored = true
gives_send_buffer answer = false

abbrev pub gives_receive : List Alternative → Bool → Answer → Bool
gives_receive things otherwise (Got alternative send scalars by) = is_listed things alternative && (nat_le 1 send && nat_le 1 by)
gives_receive things otherwise Otherwise = otherwise
gives_receive things otherwise answer = false

abbrev pub gives_send_signal : Option ℕ → Answer → Bool
gives_send_signal (Some zero) (Fail Empty) = true
gives_send_signal (Some (suc i)) (Fail Extinct) = true
gives_send_signal (Some (suc i)) (Handed p) = p == suc i
gives_send_signal (Some (suc i)) Stored = true
gives_send_signal None (Handed p) = nat_le 1 p
gives_send_signal None Stored = true
gives_send_signal to answer = false

abbrev pub gives_start : Answer → Bool
gives_start (Fail Spacefail) = true
gives_start (Instance i) = nat_le 2 i
gives_start answer = false

abbrev pub gives_get : Answer → Bool
gives_get (Value (number ∷ [])) = is_int number
gives_get (Fail Empty) = true
gives_get (Fail Rangefail) = true
gives_get answer = false

-- Whether the answer can come for the request, as a test.
abbrev pub gives : Request → Answer → Bool
gives (Read place) answer = gives_read place.count answer
gives (Write place scalars) answer = is_done answer
gives (Enter region) answer = is_done answer
gives (Leave region) answer = is_done answer
gives (Delay events priority) answer = gives_delay events answer
gives (Continue event) answer = gives_continue answer
gives (SendBuffer buffer scalars priority) answer = gives_send_buffer answer
gives (ReceiveBuffer buffers otherwise) answer = gives_receive buffers otherwise answer
gives (SendSignal signal scalars to priority) answer = gives_send_signal to answer
gives (ReceiveSignal signals otherwise) answer = gives_receive signals otherwise answer
gives (Start process scalars) answer = gives_start answer
gives (Put bytes) answer = is_done answer
gives Get answer = gives_get answer
gives (End how) answer = is_done answer

abbrev pub no_slot : Slot
no_slot = record { local = 0; count = 0 }

-- as many scalars come as the slot of their alternative takes
abbrev pub fills_slot : List Slot → Answer → Bool
fills_slot slots (Got alternative send scalars by) = length scalars == (slice_index_or slots alternative no_slot).count
fills_slot slots answer = true

-- The answer can come for the request, and has as many scalars as the waiting instruction takes.
abbrev pub fits_request : Request → List Slot → Answer → Bool
fits_request request slots answer = gives request answer && fills_slot slots answer

-- all but the last
abbrev pub without_last : List OpenRegion → List OpenRegion
without_last [] = []
without_last (r ∷ []) = []
without_last (r ∷ q ∷ rs) = r ∷ without_last (q ∷ rs)

-- the regions that are open once a request is done, which the frame of this number asked
abbrev pub regions_after : Request → ℕ → List OpenRegion → List OpenRegion
regions_after (Enter region) frame regions = regions ++ record { region = region; frame = frame } ∷ []
regions_after (Leave region) frame regions = without_last regions
regions_after request frame regions = regions

-- the numbers that an answer pushes, where the request lists so many alternatives
abbrev pub pushed_by : ℕ → Answer → List ℤ
pushed_by count (Value scalars) = scalars
pushed_by count (Woken alternative by) = pos alternative ∷ pos by ∷ []
pushed_by count (Got alternative send scalars by) = pos alternative ∷ pos by ∷ []
pushed_by count Otherwise = pos count ∷ pos 0 ∷ []
pushed_by count (Instance i) = pos i ∷ []
pushed_by count answer = []

-- the locals once an answer has come: what is got goes into the slot of its alternative
abbrev pub locals_after : List Slot → Answer → List ℤ → List ℤ
locals_after slots (Got alternative send scalars by) locals = with_scalars locals (slice_index_or slots alternative no_slot).local scalars
locals_after slots answer locals = locals

abbrev pub frame_after : List Slot → Answer → Frame → Frame
frame_after slots answer frame = record frame {
  place = frame.place + 1;
  stack = frame.stack ++ pushed_by (length slots) answer;
  locals = locals_after slots answer frame.locals;
}

-- control goes on behind the instruction that asked
abbrev pub goes_on : State → Request → List Slot → Answer → List Frame → State
goes_on s request slots answer [] = s
goes_on s request slots answer (frame ∷ below) = record s {
  frames = frame_after slots answer frame ∷ below;
  regions = regions_after request (length (frame ∷ below)) s.regions;
  mode = Running;
}

-- an exception is raised at the instruction that asked
abbrev pub raised : State → Exc → State
raised s exception = record s { mode = Raising exception }

-- the process has ended, and has no frames
abbrev pub ended : State → State
ended s = record s { frames = []; regions = []; mode = Ended }

-- The state after an answer that fits the request.
abbrev pub answered : State → Request → List Slot → Answer → State
answered s (End how) slots answer = ended s
answered s request slots (Fail exception) = raised s exception
answered s request slots answer = goes_on s request slots answer s.frames

-- The units of an event, by which a run's budget is counted.
use Rattle.std.specs.Prelude.{ℕ, ◌+◌, ◌/◌, List, length, sum_by}
use Rattle.kernel_base.specs.declared.request.Request.{Request}
use Rattle.kernel_base.specs.declared.request.Request.TheVariants.{Read, Write, Enter, Leave, Delay, Continue, SendBuffer, ReceiveBuffer, SendSignal, ReceiveSignal, Start, Put, Get, End}
use Rattle.kernel_base.specs.declared.answer.Answer.{Answer}
use Rattle.kernel_base.specs.declared.answer.Answer.TheVariants.{Value, Done, Woken, Got, Otherwise, Instance, Fail, Chose, Handed, Stored}
use Rattle.kernel_base.specs.declared.event.Event.{Event}
use Rattle.kernel_base.specs.declared.event.Event.TheVariants.{Did, Waits, Goes, Runs}

-- the scalars in a request, the alternatives that it lists, and the whole eighths of the bytes that it puts
abbrev pub units_of_request : Request → ℕ
units_of_request (Read place) = 0
units_of_request (Write place scalars) = length scalars
units_of_request (Enter region) = 0
units_of_request (Leave region) = 0
units_of_request (Delay events priority) = length events
units_of_request (Continue event) = 0
units_of_request (SendBuffer buffer scalars priority) = length scalars
units_of_request (ReceiveBuffer buffers otherwise) = length buffers
units_of_request (SendSignal signal scalars to priority) = length scalars
units_of_request (ReceiveSignal signals otherwise) = length signals
units_of_request (Start process scalars) = length scalars
units_of_request (Put bytes) = length bytes / 8
units_of_request Get = 0
units_of_request (End how) = 0

-- the scalars in an answer
abbrev pub units_of_answer : Answer → ℕ
units_of_answer (Value scalars) = length scalars
units_of_answer Done = 0
units_of_answer (Woken alternative by) = 0
units_of_answer (Got alternative send scalars by) = length scalars
units_of_answer Otherwise = 0
units_of_answer (Instance instance) = 0
units_of_answer (Fail exception) = 0
units_of_answer (Chose chosen) = 0
units_of_answer (Handed instance) = 0
units_of_answer Stored = 0

-- 1, the ticks, and what its request and its answer add
abbrev pub units_of : Event → ℕ
units_of (Did who ticks request answer refill) = 1 + ticks + units_of_request request + units_of_answer answer
units_of (Waits who ticks request) = 1 + ticks + units_of_request request
units_of (Goes who answer) = 1 + units_of_answer answer
units_of (Runs who ticks) = 1 + ticks

-- the units of a journal
abbrev pub units_of_all : List Event → ℕ
units_of_all = sum_by units_of

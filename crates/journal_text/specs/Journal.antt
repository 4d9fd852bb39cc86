-- The text of a journal: a line for each event, whose fields stand one blank apart.
use Rattle.std.specs.Prelude.{ℕ, ◌+◌, ◌/◌, ◌%◌, nat_lt, if◌then◌else◌, Bool, true, false, List, [], ◌∷◌, ◌++◌, ℤ, length, codes, Some, None}
use Rattle.std.specs.Fmt.{decimal, signed_decimal}
use Rattle.std.specs.List.{flat_map}
use Rattle.std.specs.declared.option.Option.{Option}
use Rattle.kernel_base.specs.declared.ends.Exc.{Exc}
use Rattle.kernel_base.specs.declared.ends.How.{How}
use Rattle.kernel_base.specs.declared.ends.How.TheVariants.{Normal, Stopped, Raised}
use Rattle.kernel_base.specs.declared.request.Place.{Place}
use Rattle.kernel_base.specs.declared.request.Alternative.{Alternative}
use Rattle.kernel_base.specs.declared.request.Request.{Request}
use Rattle.kernel_base.specs.declared.request.Request.TheVariants.{Read, Write, Enter, Leave, Delay, Continue, SendBuffer, ReceiveBuffer, SendSignal, ReceiveSignal, Start, Put, Get, End}
use Rattle.kernel_base.specs.declared.answer.Answer.{Answer}
use Rattle.kernel_base.specs.declared.answer.Answer.TheVariants.{Value, Done, Woken, Got, Otherwise, Instance, Fail, Chose, Handed, Stored}
use Rattle.kernel_base.specs.declared.event.Event.{Event}
use Rattle.kernel_base.specs.declared.event.Event.TheVariants.{Did, Waits, Goes, Runs}
use Rattle.code_types.specs.Exceptions.{exception_number}

-- each field behind a blank
abbrev pub number_text : ℕ → List ℕ
number_text number = codes " " ++ decimal number

abbrev pub scalar_text : ℤ → List ℕ
scalar_text scalar = codes " " ++ signed_decimal scalar

-- how many they are, and each of them
abbrev pub scalars_text : List ℤ → List ℕ
scalars_text scalars = number_text (length scalars) ++ flat_map scalar_text scalars

abbrev pub alternative_text : Alternative → List ℕ
alternative_text a = number_text a.thing ++ number_text a.number

abbrev pub alternatives_text : List Alternative → List ℕ
alternatives_text alternatives = number_text (length alternatives) ++ flat_map alternative_text alternatives

-- a number, or `-` for none
abbrev pub optional_text : Option ℕ → List ℕ
optional_text None = codes " -"
optional_text (Some number) = number_text number

abbrev pub flag_text : Bool → List ℕ
flag_text false = codes " 0"
flag_text true = codes " 1"

-- 0 to 9, and a to f
abbrev pub hex_digit : ℕ → ℕ
hex_digit value = if nat_lt value 10 then 48 + value else 87 + value

abbrev pub byte_text : ℕ → List ℕ
byte_text byte = hex_digit (byte / 16) ∷ hex_digit (byte % 16) ∷ []

-- two hexadecimal digits for each byte, or `-` for none
abbrev pub bytes_text : List ℕ → List ℕ
bytes_text [] = codes " -"
bytes_text (byte ∷ bytes) = codes " " ++ flat_map byte_text (byte ∷ bytes)

abbrev pub exception_text : Exc → List ℕ
exception_text exception = number_text (exception_number exception)

abbrev pub how_text : How → List ℕ
how_text Normal = codes " normal"
how_text Stopped = codes " stopped"
how_text (Raised exception) = codes " raised" ++ exception_text exception

abbrev pub place_text : Place → List ℕ
place_text place = number_text place.location ++ number_text place.first ++ number_text place.count

abbrev pub request_name : Request → List ℕ
request_name (Read place) = codes " read"
request_name (Write place scalars) = codes " write"
request_name (Enter region) = codes " enter"
request_name (Leave region) = codes " leave"
request_name (Delay events priority) = codes " delay"
request_name (Continue event) = codes " continue"
request_name (SendBuffer buffer scalars priority) = codes " sendb"
request_name (ReceiveBuffer buffers otherwise) = codes " recvb"
request_name (SendSignal signal scalars to priority) = codes " sends"
request_name (ReceiveSignal signals otherwise) = codes " recvs"
request_name (Start process scalars) = codes " start"
request_name (Put bytes) = codes " put"
request_name Get = codes " get"
request_name (End how) = codes " end"

abbrev pub operands_text : Request → List ℕ
operands_text (Read place) = place_text place
operands_text (Write place scalars) = place_text place ++ scalars_text scalars
operands_text (Enter region) = number_text region
operands_text (Leave region) = number_text region
operands_text (Delay events priority) = alternatives_text events ++ number_text priority
operands_text (Continue event) = number_text event
operands_text (SendBuffer buffer scalars priority) = number_text buffer ++ scalars_text scalars ++ number_text priority
operands_text (ReceiveBuffer buffers otherwise) = alternatives_text buffers ++ flag_text otherwise
operands_text (SendSignal signal scalars to priority) = number_text signal ++ scalars_text scalars ++ optional_text to ++ number_text priority
operands_text (ReceiveSignal signals otherwise) = alternatives_text signals ++ flag_text otherwise
operands_text (Start process scalars) = number_text process ++ scalars_text scalars
operands_text (Put bytes) = bytes_text bytes
operands_text Get = []
operands_text (End how) = how_text how

abbrev pub request_text : Request → List ℕ
request_text request = request_name request ++ operands_text request

abbrev pub answer_name : Answer → List ℕ
answer_name (Value scalars) = codes " value"
answer_name Done = codes " done"
answer_name (Woken alternative by) = codes " woken"
answer_name (Got alternative send scalars by) = codes " got"
answer_name Otherwise = codes " otherwise"
answer_name (Instance instance) = codes " instance"
answer_name (Fail exception) = codes " fail"
answer_name (Chose chosen) = codes " chose"
answer_name (Handed instance) = codes " handed"
answer_name Stored = codes " stored"

-- what an answer tells
abbrev pub told_text : Answer → List ℕ
told_text (Value scalars) = scalars_text scalars
told_text Done = []
told_text (Woken alternative by) = number_text alternative ++ number_text by
told_text (Got alternative send scalars by) = number_text alternative ++ number_text send ++ scalars_text scalars ++ number_text by
told_text Otherwise = []
told_text (Instance instance) = number_text instance
told_text (Fail exception) = exception_text exception
told_text (Chose chosen) = optional_text chosen
told_text (Handed instance) = number_text instance
told_text Stored = []

abbrev pub answer_text : Answer → List ℕ
answer_text answer = answer_name answer ++ told_text answer

abbrev pub event_name : Event → List ℕ
event_name (Did who ticks request answer refill) = codes "did"
event_name (Waits who ticks request) = codes "waits"
event_name (Goes who answer) = codes "goes"
event_name (Runs who ticks) = codes "runs"

abbrev pub details_text : Event → List ℕ
details_text (Did who ticks request answer refill) = number_text who ++ number_text ticks ++ request_text request ++ answer_text answer ++ optional_text refill
details_text (Waits who ticks request) = number_text who ++ number_text ticks ++ request_text request
details_text (Goes who answer) = number_text who ++ answer_text answer
details_text (Runs who ticks) = number_text who ++ number_text ticks

-- what tells an event, without the line feed
abbrev pub event_text : Event → List ℕ
event_text event = event_name event ++ details_text event

abbrev pub event_line : Event → List ℕ
event_line event = event_text event ++ codes "\n"

abbrev pub first_line : List ℕ
first_line = codes "chill journal 1\n"

abbrev pub last_line : List ℕ
last_line = codes "end\n"

-- the first line, a line for each event, and the last line
abbrev pub journal_text : List Event → List ℕ
journal_text events = first_line ++ flat_map event_line events ++ last_line

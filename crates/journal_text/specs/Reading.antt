-- How the event of a line is guessed: of each event's line it is that event. What else it makes of other lines is left
-- open, since what was guessed is written again and compared.
use Rattle.std.specs.Prelude.{◌≡◌, ℕ, zero, suc, ◌+◌, ◌-◌, ◌*◌, ◌==◌, nat_le, ◌&&◌, not, if◌then◌else◌, Bool, true, false, List, [], ◌∷◌, ℤ, pos, neg_ℤ, take, drop, codes, Some, None, Result, Ok, Err}
use Rattle.std.specs.Str.{bytes_eq}
use Rattle.std.specs.List.{prefix_len}
use Rattle.std.specs.declared.option.Option.{Option}
use Rattle.hex.specs.declared.error.FromHexError.{FromHexError}
use Rattle.hex.specs.Hex.{decode_of}
use Rattle.kernel_base.specs.declared.ends.Exc.{Exc}
use Rattle.kernel_base.specs.declared.ends.How.{How}
use Rattle.kernel_base.specs.declared.ends.How.TheVariants.{Normal, Stopped, Raised}
use Rattle.kernel_base.specs.declared.request.Place.{Place}
use Rattle.kernel_base.specs.declared.request.Alternative.{Alternative}
use Rattle.kernel_base.specs.declared.request.Request.{Request}
use Rattle.kernel_base.specs.declared.request.Request.TheVariants as requests
use Rattle.kernel_base.specs.declared.answer.Answer.{Answer}
use Rattle.kernel_base.specs.declared.answer.Answer.TheVariants as answers
use Rattle.kernel_base.specs.declared.event.Event.{Event}
use Rattle.kernel_base.specs.declared.event.Event.TheVariants as events
use Rattle.world_model.specs.Input.{is_separator, is_digit}
use Rattle.code_types.specs.Exceptions as codes_of
use Rattle.journal_text.specs.declared.unread.Unread.{Unread}
use Rattle.journal_text.specs.declared.unread.Unread.TheVariants as faults
use Rattle.journal_text.specs.declared.kinds.RequestKind.{RequestKind}
use Rattle.journal_text.specs.declared.kinds.RequestKind.TheVariants as asked
use Rattle.journal_text.specs.declared.kinds.AnswerKind.{AnswerKind}
use Rattle.journal_text.specs.declared.kinds.AnswerKind.TheVariants as given
use Rattle.journal_text.specs.declared.kinds.EventKind.{EventKind}
use Rattle.journal_text.specs.declared.kinds.EventKind.TheVariants as kinds

-- what stands at the front of bytes, if anything does, and the bytes behind it
abbrev pub Front : Type 0 → Type 0
Front A = Option (A × List ℕ)

infixl 10 ◌>>=◌
abbrev pub ◌>>=◌ : {A B : Type 0} → Option A → (A → Option B) → Option B
None >>= f = None
(Some x) >>= f = f x

-- what a function answers, seen by `view`, is what is read, unless memory runs out
abbrev pub Fails : {Y : Type 0} → Unread → Option Y → Type 0
Fails faults.Memory read = Unit {0}
Fails faults.NoEvent read = read ≡ None

abbrev pub Gives : {X Y : Type 0} → (X → Y) → Result X Unread → Option Y → Type 0
Gives view (Ok x) read = read ≡ Some (view x)
Gives view (Err fault) read = Fails fault read

-- the bytes before the first separator, and the rest
abbrev pub word_and_rest : List ℕ → List ℕ × List ℕ
word_and_rest bytes = let len = prefix_len (λ b. not (is_separator b)) bytes in (take len bytes, drop len bytes)

-- the word behind a blank
unfoldable pub word_at : List ℕ → Front (List ℕ)
word_at [] = None
word_at (byte ∷ bytes) = if byte == 32 then Some (word_and_rest bytes) else None

-- a number that was read, with one more digit, if it is not above a bound
abbrev pub next_value : ℕ → ℕ → ℕ → Option ℕ
next_value most read byte = if is_digit byte && nat_le (10 * read + (byte - 48)) most then Some (10 * read + (byte - 48)) else None

abbrev pub digits_from : ℕ → ℕ → List ℕ → Option ℕ
digits_from most read [] = Some read
digits_from most read (byte ∷ bytes) = next_value most read byte >>= λ next. digits_from most next bytes

-- the number of a word, if it is not above a bound
unfoldable pub value_of : ℕ → List ℕ → Option ℕ
value_of most word = digits_from most 0 word

abbrev pub narrow_of : ℕ → Option ℕ
narrow_of number = if nat_le number 4294967295 then Some number else None

unfoldable pub number_of : List ℕ → Option ℕ
number_of word = value_of 4294967295 word >>= narrow_of

abbrev pub negative_of : ℕ → Option ℤ
negative_of size = if nat_le 1 size && nat_le size 9223372036854775808 then Some (neg_ℤ (pos size)) else None

abbrev pub positive_of : ℕ → Option ℤ
positive_of size = if nat_le size 9223372036854775807 then Some (pos size) else None

unfoldable pub scalar_of : List ℕ → Option ℤ
scalar_of [] = None
scalar_of (byte ∷ bytes) =
    if byte == 45 then (value_of 9223372036854775808 bytes >>= negative_of) else
    (value_of 9223372036854775807 (byte ∷ bytes) >>= positive_of)

-- a word that is read as something
abbrev pub field_at : {A : Type 0} → (List ℕ → Option A) → List ℕ → Front A
field_at read bytes = word_at bytes >>= λ word. read word.0 >>= λ x. Some (x, word.1)

unfoldable pub number_at : List ℕ → Front ℕ
number_at = field_at number_of

unfoldable pub scalar_at : List ℕ → Front ℤ
scalar_at = field_at scalar_of

unfoldable pub flag_of : List ℕ → Option Bool
flag_of word = if bytes_eq word (codes "0") then Some false else if bytes_eq word (codes "1") then Some true else None

unfoldable pub flag_at : List ℕ → Front Bool
flag_at = field_at flag_of

unfoldable pub optional_of : List ℕ → Option (Option ℕ)
optional_of word = if bytes_eq word (codes "-") then Some None else (number_of word >>= λ n. Some (Some n))

unfoldable pub optional_at : List ℕ → Front (Option ℕ)
optional_at = field_at optional_of

abbrev pub exception_with : ℕ → Option Exc
exception_with number = if nat_le number 4294967302 then Some (codes_of.exception_of number) else None

unfoldable pub exception_of : List ℕ → Option Exc
exception_of word = value_of 4294967302 word >>= exception_with

unfoldable pub exception_at : List ℕ → Front Exc
exception_at = field_at exception_of

-- the bytes that pairs of hexadecimal digits tell
abbrev pub ok_of : Result (List ℕ) FromHexError → Option (List ℕ)
ok_of (Ok bytes) = Some bytes
ok_of (Err fault) = None

unfoldable pub hex_of : List ℕ → Option (List ℕ)
hex_of word = ok_of (decode_of word)

abbrev pub bytes_of : List ℕ → Option (List ℕ)
bytes_of word = if bytes_eq word (codes "-") then Some [] else hex_of word

unfoldable pub bytes_at : List ℕ → Front (List ℕ)
bytes_at = field_at bytes_of

-- so many fields of one sort, one behind the other
unfoldable pub many_at : {A : Type 0} → (List ℕ → Front A) → ℕ → List ℕ → Front (List A)
many_at read zero bytes = Some ([], bytes)
many_at read (suc count) bytes = read bytes >>= λ first. many_at read count first.1 >>= λ others. Some (first.0 ∷ others.0, others.1)

-- a count, and so many fields
abbrev pub list_at : {A : Type 0} → (List ℕ → Front A) → List ℕ → Front (List A)
list_at read bytes = number_at bytes >>= λ count. many_at read count.0 count.1

unfoldable pub scalars_at : List ℕ → Front (List ℤ)
scalars_at = list_at scalar_at

unfoldable pub alternative_at : List ℕ → Front Alternative
alternative_at bytes = number_at bytes >>= λ thing. number_at thing.1 >>= λ number. Some (record { thing = thing.0; number = number.0 }, number.1)

unfoldable pub alternatives_at : List ℕ → Front (List Alternative)
alternatives_at = list_at alternative_at

unfoldable pub place_at : List ℕ → Front Place
place_at bytes = number_at bytes >>= λ location. number_at location.1 >>= λ first. number_at first.1 >>= λ count. Some (record { location = location.0; first = first.0; count = count.0 }, count.1)

abbrev pub how_by : List ℕ → List ℕ → Front How
how_by word rest =
    if bytes_eq word (codes "normal") then Some (Normal, rest) else
    if bytes_eq word (codes "stopped") then Some (Stopped, rest) else
    if bytes_eq word (codes "raised") then (exception_at rest >>= λ exception. Some (Raised exception.0, exception.1)) else None

unfoldable pub how_at : List ℕ → Front How
how_at bytes = word_at bytes >>= λ word. how_by word.0 word.1

unfoldable pub request_kind : List ℕ → Option RequestKind
request_kind word =
    if bytes_eq word (codes "read") then Some asked.Read else
    if bytes_eq word (codes "write") then Some asked.Write else
    if bytes_eq word (codes "enter") then Some asked.Enter else
    if bytes_eq word (codes "leave") then Some asked.Leave else
    if bytes_eq word (codes "delay") then Some asked.Delay else
    if bytes_eq word (codes "continue") then Some asked.Continue else
    if bytes_eq word (codes "sendb") then Some asked.SendBuffer else
    if bytes_eq word (codes "recvb") then Some asked.ReceiveBuffer else
    if bytes_eq word (codes "sends") then Some asked.SendSignal else
    if bytes_eq word (codes "recvs") then Some asked.ReceiveSignal else
    if bytes_eq word (codes "start") then Some asked.Start else
    if bytes_eq word (codes "put") then Some asked.Put else
    if bytes_eq word (codes "get") then Some asked.Get else
    if bytes_eq word (codes "end") then Some asked.End else None

unfoldable pub operands_at : RequestKind → List ℕ → Front Request
operands_at asked.Read bytes = place_at bytes >>= λ place. Some (requests.Read place.0, place.1)
operands_at asked.Write bytes = place_at bytes >>= λ place. scalars_at place.1 >>= λ scalars. Some (requests.Write place.0 scalars.0, scalars.1)
operands_at asked.Enter bytes = number_at bytes >>= λ region. Some (requests.Enter region.0, region.1)
operands_at asked.Leave bytes = number_at bytes >>= λ region. Some (requests.Leave region.0, region.1)
operands_at asked.Delay bytes = alternatives_at bytes >>= λ events. number_at events.1 >>= λ priority. Some (requests.Delay events.0 priority.0, priority.1)
operands_at asked.Continue bytes = number_at bytes >>= λ event. Some (requests.Continue event.0, event.1)
operands_at asked.SendBuffer bytes = number_at bytes >>= λ buffer. scalars_at buffer.1 >>= λ scalars. number_at scalars.1 >>= λ priority. Some (requests.SendBuffer buffer.0 scalars.0 priority.0, priority.1)
operands_at asked.ReceiveBuffer bytes = alternatives_at bytes >>= λ buffers. flag_at buffers.1 >>= λ otherwise. Some (requests.ReceiveBuffer buffers.0 otherwise.0, otherwise.1)
operands_at asked.SendSignal bytes = number_at bytes >>= λ signal. scalars_at signal.1 >>= λ scalars. optional_at scalars.1 >>= λ to. number_at to.1 >>= λ priority. Some (requests.SendSignal signal.0 scalars.0 to.0 priority.0, priority.1)
operands_at asked.ReceiveSignal bytes = alternatives_at bytes >>= λ signals. flag_at signals.1 >>= λ otherwise. Some (requests.ReceiveSignal signals.0 otherwise.0, otherwise.1)
operands_at asked.Start bytes = number_at bytes >>= λ process. scalars_at process.1 >>= λ scalars. Some (requests.Start process.0 scalars.0, scalars.1)
operands_at asked.Put bytes = bytes_at bytes >>= λ put. Some (requests.Put put.0, put.1)
operands_at asked.Get bytes = Some (requests.Get, bytes)
operands_at asked.End bytes = how_at bytes >>= λ how. Some (requests.End how.0, how.1)

unfoldable pub request_at : List ℕ → Front Request
request_at bytes = word_at bytes >>= λ word. request_kind word.0 >>= λ kind. operands_at kind word.1

unfoldable pub answer_kind : List ℕ → Option AnswerKind
answer_kind word =
    if bytes_eq word (codes "value") then Some given.Value else
    if bytes_eq word (codes "done") then Some given.Done else
    if bytes_eq word (codes "woken") then Some given.Woken else
    if bytes_eq word (codes "got") then Some given.Got else
    if bytes_eq word (codes "otherwise") then Some given.Otherwise else
    if bytes_eq word (codes "instance") then Some given.Instance else
    if bytes_eq word (codes "fail") then Some given.Fail else
    if bytes_eq word (codes "chose") then Some given.Chose else
    if bytes_eq word (codes "handed") then Some given.Handed else
    if bytes_eq word (codes "stored") then Some given.Stored else None

unfoldable pub told_at : AnswerKind → List ℕ → Front Answer
told_at given.Value bytes = scalars_at bytes >>= λ scalars. Some (answers.Value scalars.0, scalars.1)
told_at given.Done bytes = Some (answers.Done, bytes)
told_at given.Woken bytes = number_at bytes >>= λ alternative. number_at alternative.1 >>= λ by. Some (answers.Woken alternative.0 by.0, by.1)
told_at given.Got bytes = number_at bytes >>= λ alternative. number_at alternative.1 >>= λ send. scalars_at send.1 >>= λ scalars. number_at scalars.1 >>= λ by. Some (answers.Got alternative.0 send.0 scalars.0 by.0, by.1)
told_at given.Otherwise bytes = Some (answers.Otherwise, bytes)
told_at given.Instance bytes = number_at bytes >>= λ instance. Some (answers.Instance instance.0, instance.1)
told_at given.Fail bytes = exception_at bytes >>= λ exception. Some (answers.Fail exception.0, exception.1)
told_at given.Chose bytes = optional_at bytes >>= λ chosen. Some (answers.Chose chosen.0, chosen.1)
told_at given.Handed bytes = number_at bytes >>= λ instance. Some (answers.Handed instance.0, instance.1)
told_at given.Stored bytes = Some (answers.Stored, bytes)

unfoldable pub answer_at : List ℕ → Front Answer
answer_at bytes = word_at bytes >>= λ word. answer_kind word.0 >>= λ kind. told_at kind word.1

unfoldable pub event_kind : List ℕ → Option EventKind
event_kind word =
    if bytes_eq word (codes "did") then Some kinds.Did else
    if bytes_eq word (codes "waits") then Some kinds.Waits else
    if bytes_eq word (codes "goes") then Some kinds.Goes else
    if bytes_eq word (codes "runs") then Some kinds.Runs else None

unfoldable pub details_at : EventKind → List ℕ → Front Event
details_at kinds.Did bytes = number_at bytes >>= λ who. number_at who.1 >>= λ ticks. request_at ticks.1 >>= λ request. answer_at request.1 >>= λ answer. optional_at answer.1 >>= λ refill. Some (events.Did who.0 ticks.0 request.0 answer.0 refill.0, refill.1)
details_at kinds.Waits bytes = number_at bytes >>= λ who. number_at who.1 >>= λ ticks. request_at ticks.1 >>= λ request. Some (events.Waits who.0 ticks.0 request.0, request.1)
details_at kinds.Goes bytes = number_at bytes >>= λ who. answer_at who.1 >>= λ answer. Some (events.Goes who.0 answer.0, answer.1)
details_at kinds.Runs bytes = number_at bytes >>= λ who. number_at who.1 >>= λ ticks. Some (events.Runs who.0 ticks.0, ticks.1)

-- the event whose line stands at the front, and what was not looked at
unfoldable pub event_at : List ℕ → Front Event
event_at bytes = event_kind (word_and_rest bytes).0 >>= λ kind. details_at kind (word_and_rest bytes).1

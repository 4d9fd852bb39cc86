-- What a contract sees of the buffers, and what sending and receiving do.
use Rattle.std.specs.Prelude.{◌≡◌, ℕ, zero, suc, ◌+◌, ◌<◌, ◌≤◌, Bool, List, [], ◌∷◌, ◌++◌, length, slice_index_or, Some, None, IsTrue, IsFalse, IsSome}
use Rattle.std.specs.List.{find}
use Rattle.std.specs.declared.option.Option.{Option}
use Rattle.kernel_base.specs.declared.request.Alternative.{Alternative}
use Rattle.kernel_base.specs.declared.request.Request.{Request}
use Rattle.kernel_base.specs.declared.request.Request.TheVariants.{SendBuffer, ReceiveBuffer}
use Rattle.kernel_base.specs.declared.answer.Answer.{Answer}
use Rattle.kernel_base.specs.declared.answer.Answer.TheVariants as answers
use Rattle.kernel_base.specs.Facts.{NameThings}
use Rattle.world_model.specs.declared.world.StoredValue.{StoredValue}
use Rattle.world_model.specs.Lists.{number_for}
use Rattle.world_model.specs.Allowed.{is_below}
use Rattle.kernel_lists.specs.Best.{precedes_in}
use Rattle.kernel_lists.specs.Once.{entry_of, others, AreOnce}
use Rattle.buffers_signals.specs.declared.messages.Held.{Held}
use Rattle.buffers_signals.specs.declared.messages.Receiver.{Receiver}
use Rattle.buffers_signals.specs.declared.messages.Sent.{Sent}
use Rattle.buffers_signals.specs.declared.messages.Sent.TheVariants as sends
use Rattle.buffers_signals.specs.declared.messages.Received.{Received}
use Rattle.buffers_signals.specs.declared.messages.Received.TheVariants as receipts
use Rattle.value_queues.specs.Queues.{rank_of, values_in, with_placed, stored_but, times_stored}
use Rattle.buffers_signals.specs.Arrivals.{SeenReceivers, SeenSenders}
use Rattle.buffers_signals.specs.Lists.{sender_of, receiver_of, IsIn, times_held, lists}

-- the length of each buffer; the values that lie in each, in the order in which they are received; those whose senders
-- wait, and the receivers that wait, in the order in which they came; the last send number; and for how many changes there
-- is room
pub record SeenBuffers : Type 0 where
  pub lengths : List (Option ℕ)
  pub stored : List (List StoredValue)
  pub senders : List Held
  pub receivers : List Receiver
  pub last : ℕ
  pub spare : ℕ

-- neither a send nor a receive of the process waits
pub record WaitsOnNothing (b : SeenBuffers) (who : ℕ) : Type 0 where
  pub sends : entry_of sender_of b.senders who ≡ None
  pub receives : entry_of receiver_of b.receivers who ≡ None

-- a send to a buffer that is there
abbrev pub IsSend : SeenBuffers → Request → Type 0
IsSend b (SendBuffer buffer scalars priority) = buffer < length b.lengths
IsSend b request = ⊥

-- a receive from buffers that are there
abbrev pub IsReceive : SeenBuffers → Request → Type 0
IsReceive b (ReceiveBuffer buffers otherwise) = NameThings (length b.lengths) buffers
IsReceive b request = ⊥

-- the receiver that came first of those that wait for the buffer
abbrev pub receiver_for : SeenBuffers → ℕ → Option Receiver
receiver_for b buffer = find (lists buffer) b.receivers

-- the buffer takes one more value
abbrev pub takes_more : SeenBuffers → ℕ → Bool
takes_more b buffer = is_below (slice_index_or b.lengths buffer None) (length (values_in b.stored buffer))

-- the value goes to the receiver that came first, which doesn't wait any more
pub record Hands (old new : SeenBuffers) (buffer : ℕ) (value : StoredValue) (to : ℕ) (answer : Answer) : Type 0 where
  pub receiver : Receiver
  pub waits : receiver_for old buffer ≡ Some receiver
  pub who : to ≡ receiver.who
  pub alternative : ℕ
  pub listed : number_for receiver.things buffer ≡ Some alternative
  pub is : answer ≡ answers.Got alternative value.send value.scalars value.sender
  pub receivers : new.receivers ≡ others receiver_of old.receivers to
  pub stored : new.stored ≡ old.stored
  pub senders : new.senders ≡ old.senders

-- nobody waits for the buffer, which takes the value
pub record Stores (old new : SeenBuffers) (buffer : ℕ) (value : StoredValue) : Type 0 where
  pub nobody : receiver_for old buffer ≡ None
  pub room : IsTrue (takes_more old buffer)
  pub there : buffer < length old.stored
  pub stored : new.stored ≡ with_placed old.stored buffer value
  pub senders : new.senders ≡ old.senders
  pub receivers : new.receivers ≡ old.receivers

-- nobody waits for the buffer, which is full, and the sender waits
pub record DelaysSender (old new : SeenBuffers) (buffer : ℕ) (value : StoredValue) : Type 0 where
  pub nobody : receiver_for old buffer ≡ None
  pub full : IsFalse (takes_more old buffer)
  pub senders : new.senders ≡ old.senders ++ record { buffer = buffer; value = value } ∷ []
  pub stored : new.stored ≡ old.stored
  pub receivers : new.receivers ≡ old.receivers

abbrev pub SendsValue : SeenBuffers → SeenBuffers → ℕ → StoredValue → Sent → Type 0
SendsValue old new buffer value (sends.Handed to answer) = Hands old new buffer value to answer
SendsValue old new buffer value sends.Stored = Stores old new buffer value
SendsValue old new buffer value sends.Delayed = DelaysSender old new buffer value

-- what comes of a send
abbrev pub Sends : SeenBuffers → SeenBuffers → ℕ → ℕ → Request → Sent → Type 0
Sends old new who send (SendBuffer buffer scalars priority) sent = SendsValue old new buffer (record { send = send; sender = who; scalars = scalars; priority = priority }) sent
Sends old new who send request sent = ⊥

-- a value that may be received: of a buffer of length 0 one whose sender waits
abbrev pub IsCandidateOf : Option ℕ → SeenBuffers → Held → Type 0
IsCandidateOf (Some zero) b held = IsIn b.senders held
IsCandidateOf length b held = IsIn (values_in b.stored held.buffer) held.value

abbrev pub IsCandidate : SeenBuffers → Held → Type 0
IsCandidate b held = IsCandidateOf (slice_index_or b.lengths held.buffer None) b held

-- nothing may be received from the listed buffers
abbrev pub NoCandidate : SeenBuffers → List Alternative → Type 0
NoCandidate b buffers = (held : Held) → IsCandidate b held → number_for buffers held.buffer ≡ None

-- the values that lie in buffers, and those whose senders wait
pub record Values : Type 0 where
  pub stored : List (List StoredValue)
  pub senders : List Held

-- nobody waits to send to the buffer
abbrev pub NobodySends : List Held → ℕ → Type 0
NobodySends senders buffer = (held : Held) → IsIn senders held → held.buffer ≡ buffer → ⊥

-- of those that wait to send to the buffer, one of highest priority that came first stores its value and is chosen
pub record IsRefilled (old new : Values) (buffer sender : ℕ) : Type 0 where
  pub offer : Held
  pub waits : IsIn old.senders offer
  pub buffer_is : offer.buffer ≡ buffer
  pub sender_is : offer.value.sender ≡ sender
  pub best : (other : Held) → IsIn old.senders other → other.buffer ≡ buffer → IsFalse (precedes_in (rank_of other.value) (rank_of offer.value))
  pub there : buffer < length old.stored
  pub stored : new.stored ≡ with_placed old.stored buffer offer.value
  pub senders : new.senders ≡ others sender_of old.senders sender

abbrev pub RefillsBy : Values → Values → ℕ → Option ℕ → Type 0
RefillsBy old new buffer None = NobodySends old.senders buffer × (new ≡ old)
RefillsBy old new buffer (Some sender) = IsRefilled old new buffer sender

-- The sender that is chosen once a value of `by` is taken from a buffer of this length. `old` is what is left without it.
abbrev pub Refills : Option ℕ → Values → Values → ℕ → ℕ → Option ℕ → Type 0
Refills None old new buffer by refill = (refill ≡ None) × (new ≡ old)
Refills (Some zero) old new buffer by refill = (refill ≡ Some by) × (new ≡ record old { senders = others sender_of old.senders by })
Refills (Some (suc n)) old new buffer by refill = RefillsBy old new buffer refill

abbrev pub values_of : SeenBuffers → Values
values_of b = record { stored = b.stored; senders = b.senders }

-- without the stored value of this send number
abbrev pub values_but : ℕ → SeenBuffers → Values
values_but send b = record { stored = stored_but send b.stored; senders = b.senders }

-- how often a send number stands among these values
abbrev pub times : ℕ → Values → ℕ
times send v = times_stored send v.stored + times_held send v.senders

-- No two values have one send number, and none has a number behind the last.
pub record AreDistinct (v : Values) (last : ℕ) : Type 0 where
  pub once : (send : ℕ) → times send v ≤ 1
  pub drawn : (send : ℕ) → last < send → times send v ≡ 0

-- What the buffers keep: no process waits twice to send, and none twice to receive; and each buffer has its list of values.
pub record AreWell (lengths : List (Option ℕ)) (stored : List (List StoredValue)) (senders : List Held) (receivers : List Receiver) (last : ℕ) : Type 0 where
  pub senders_once : AreOnce sender_of senders
  pub receivers_once : AreOnce receiver_of receivers
  pub each : length stored ≡ length lengths
  pub distinct : AreDistinct (record { stored = stored; senders = senders }) last

-- the same of what is kept in queues, of which each buffer has two
pub record AreKept (lengths : List (Option ℕ)) (stored : List (List StoredValue)) (senders : SeenSenders) (receivers : SeenReceivers) (last : ℕ) : Type 0 where
  pub well : AreWell lengths stored senders.senders receivers.receivers last
  pub sending : senders.places ≡ length lengths
  pub receiving : receivers.places ≡ length lengths

-- the value may be received from one of the listed buffers, and no other goes before it
pub record IsChoice (b : SeenBuffers) (buffers : List Alternative) (held : Held) : Type 0 where
  pub candidate : IsCandidate b held
  pub alternative : ℕ
  pub listed : number_for buffers held.buffer ≡ Some alternative
  pub best : (other : Held) → IsCandidate b other → IsSome (number_for buffers other.buffer) → IsFalse (precedes_in (rank_of other.value) (rank_of held.value))

-- a value of highest priority is taken, among equals the one that was sent first
pub record Takes (old new : SeenBuffers) (buffers : List Alternative) (answer : Answer) (refill : Option ℕ) : Type 0 where
  pub taken : Held
  pub choice : IsChoice old buffers taken
  pub is : answer ≡ answers.Got choice.alternative taken.value.send taken.value.scalars taken.value.sender
  pub refills : Refills (slice_index_or old.lengths taken.buffer None) (values_but taken.value.send old) (values_of new) taken.buffer taken.value.sender refill
  pub receivers : new.receivers ≡ old.receivers

-- nothing is there, and ELSE is written
pub record TakesNothing (old new : SeenBuffers) (buffers : List Alternative) (otherwise : Bool) : Type 0 where
  pub nothing : NoCandidate old buffers
  pub written : IsTrue otherwise
  pub stored : new.stored ≡ old.stored
  pub senders : new.senders ≡ old.senders
  pub receivers : new.receivers ≡ old.receivers

-- nothing is there, and the receiver waits
pub record DelaysReceiver (old new : SeenBuffers) (who process : ℕ) (buffers : List Alternative) (otherwise : Bool) : Type 0 where
  pub nothing : NoCandidate old buffers
  pub not_written : IsFalse otherwise
  pub receivers : new.receivers ≡ old.receivers ++ record { who = who; process = process; things = buffers } ∷ []
  pub stored : new.stored ≡ old.stored
  pub senders : new.senders ≡ old.senders

abbrev pub ReceivesFrom : SeenBuffers → SeenBuffers → ℕ → ℕ → List Alternative → Bool → Received → Type 0
ReceivesFrom old new who process buffers otherwise (receipts.Got answer refill) = Takes old new buffers answer refill
ReceivesFrom old new who process buffers otherwise receipts.Otherwise = TakesNothing old new buffers otherwise
ReceivesFrom old new who process buffers otherwise receipts.Delayed = DelaysReceiver old new who process buffers otherwise

-- what comes of a receive
abbrev pub Receives : SeenBuffers → SeenBuffers → ℕ → ℕ → Request → Received → Type 0
Receives old new who process (ReceiveBuffer buffers otherwise) received = ReceivesFrom old new who process buffers otherwise received
Receives old new who process request received = ⊥

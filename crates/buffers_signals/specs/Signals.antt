-- What a contract sees of the signals, and what sending and receiving do.
use Rattle.std.specs.Prelude.{◌≡◌, ℕ, ◌<◌, ◌≤◌, ◌==◌, ◌&&◌, Bool, List, [], ◌∷◌, ◌++◌, length, slice_index_or, if◌then◌else◌, Some, None, IsTrue, IsFalse, IsSome}
use Rattle.std.specs.List.{find}
use Rattle.std.specs.Option.{option_and_then}
use Rattle.std.specs.declared.option.Option.{Option}
use Rattle.kernel_base.specs.declared.request.Alternative.{Alternative}
use Rattle.kernel_base.specs.declared.request.Request.{Request}
use Rattle.kernel_base.specs.declared.request.Request.TheVariants.{SendSignal, ReceiveSignal}
use Rattle.kernel_base.specs.declared.answer.Answer.{Answer}
use Rattle.kernel_base.specs.declared.answer.Answer.TheVariants as answers
use Rattle.kernel_base.specs.Facts.{NameThings}
use Rattle.world_model.specs.declared.world.PendingSignal.{PendingSignal}
use Rattle.world_model.specs.Lists.{number_for}
use Rattle.world_model.specs.Waiting.{is_process}
use Rattle.world_model.specs.World.{signals_but}
use Rattle.kernel_lists.specs.Best.{precedes_in}
use Rattle.kernel_lists.specs.Once.{AreOnce, entry_of, others}
use Rattle.wait_queues.specs.declared.waiters.Waiter.{Waiter}
use Rattle.buffers_signals.specs.declared.messages.Receiver.{Receiver}
use Rattle.buffers_signals.specs.declared.messages.Sent.{Sent}
use Rattle.buffers_signals.specs.declared.messages.Sent.TheVariants as sends
use Rattle.buffers_signals.specs.declared.messages.Received.{Received}
use Rattle.buffers_signals.specs.declared.messages.Received.TheVariants as receipts
use Rattle.signal_queues.specs.Pending.{SeenPending}
use Rattle.value_queues.specs.Queues.{rank_of}
use Rattle.buffers_signals.specs.Lists.{receiver_of, IsIn, lists}
use Rattle.buffers_signals.specs.Arrivals.{SeenReceivers, process_in}

-- for each signal the process that may receive it, if its definition names one; the pending signals, and the receivers that
-- wait, in the order in which they came; the last send number; and for how many changes there is room
pub record SeenSignals : Type 0 where
  pub wanted : List (Option ℕ)
  pub pending : List PendingSignal
  pub receivers : List Receiver
  pub last : ℕ
  pub spare : ℕ

-- a send of a signal that is there
abbrev pub IsSend : SeenSignals → Request → Type 0
IsSend s (SendSignal signal scalars to priority) = signal < length s.wanted
IsSend s request = ⊥

-- a receive of signals that are there
abbrev pub IsReceive : SeenSignals → Request → Type 0
IsReceive s (ReceiveSignal signals otherwise) = NameThings (length s.wanted) signals
IsReceive s request = ⊥

-- who may receive a signal: the instance that it was sent to, else any of the process that its definition names, else any
abbrev pub may_receive : List (Option ℕ) → ℕ → Option ℕ → ℕ → ℕ → Bool
may_receive wanted signal (Some to) who process = who == to
may_receive wanted signal None who process = is_process (slice_index_or wanted signal None) process

-- it waits for the signal and may receive it
abbrev pub is_receiver : List (Option ℕ) → ℕ → Option ℕ → Receiver → Bool
is_receiver wanted signal to receiver = may_receive wanted signal to receiver.who receiver.process && lists signal receiver

-- the same of one that is read off its place in the queue, where the signal is sent to nobody in particular
abbrev pub takes_any : List (Option ℕ) → ℕ → List Receiver → Waiter → Bool
takes_any wanted signal receivers w = may_receive wanted signal None w.who (process_in receivers w.who)

-- the instance itself, if it waits for the signal
abbrev pub waits_itself : List Receiver → ℕ → ℕ → Option Receiver
waits_itself receivers signal to = option_and_then (λ r. if lists signal r then Some r else None) (entry_of receiver_of receivers to)

-- the receiver that came first of those that wait for the signal and may receive it
abbrev pub receiver_for : SeenSignals → ℕ → Option ℕ → Option Receiver
receiver_for s signal to = find (is_receiver s.wanted signal to) s.receivers

-- the signal goes to the receiver that came first, which doesn't wait any more
pub record Hands (old new : SeenSignals) (signal : PendingSignal) (to : ℕ) (answer : Answer) : Type 0 where
  pub receiver : Receiver
  pub waits : receiver_for old signal.signal signal.to ≡ Some receiver
  pub who : to ≡ receiver.who
  pub alternative : ℕ
  pub listed : number_for receiver.things signal.signal ≡ Some alternative
  pub is : answer ≡ answers.Got alternative signal.value.send signal.value.scalars signal.value.sender
  pub receivers : new.receivers ≡ others receiver_of old.receivers to
  pub pending : new.pending ≡ old.pending

-- nobody waits for the signal that may receive it, and it is pending
pub record Pends (old new : SeenSignals) (signal : PendingSignal) : Type 0 where
  pub nobody : receiver_for old signal.signal signal.to ≡ None
  pub pending : new.pending ≡ old.pending ++ signal ∷ []
  pub receivers : new.receivers ≡ old.receivers

abbrev pub SendsTo : SeenSignals → SeenSignals → PendingSignal → Sent → Type 0
SendsTo old new signal (sends.Handed to answer) = Hands old new signal to answer
SendsTo old new signal sends.Stored = Pends old new signal
SendsTo old new signal sends.Delayed = ⊥

-- what comes of a send
abbrev pub Sends : SeenSignals → SeenSignals → ℕ → ℕ → Request → Sent → Type 0
Sends old new who send (SendSignal signal scalars to priority) sent = SendsTo old new (record { signal = signal; to = to; value = record { send = send; sender = who; scalars = scalars; priority = priority } }) sent
Sends old new who send request sent = ⊥

-- a pending signal that is listed and that the process may receive
pub record MayTake (wanted : List (Option ℕ)) (pending : List PendingSignal) (who process : ℕ) (signals : List Alternative) (signal : PendingSignal) : Type 0 where
  pub pends : IsIn pending signal
  pub listed : IsSome (number_for signals signal.signal)
  pub may : IsTrue (may_receive wanted signal.signal signal.to who process)

-- no listed signal pends that the process may receive
abbrev pub NonePends : List (Option ℕ) → List PendingSignal → ℕ → ℕ → List Alternative → Type 0
NonePends wanted pending who process signals = (signal : PendingSignal) → MayTake wanted pending who process signals signal → ⊥

abbrev pub IsFor : SeenSignals → ℕ → ℕ → List Alternative → PendingSignal → Type 0
IsFor s who process signals signal = MayTake s.wanted s.pending who process signals signal

abbrev pub NoneFor : SeenSignals → ℕ → ℕ → List Alternative → Type 0
NoneFor s who process signals = NonePends s.wanted s.pending who process signals

-- the signal may be received, and no other goes before it
pub record IsChoice (s : SeenSignals) (who process : ℕ) (signals : List Alternative) (signal : PendingSignal) : Type 0 where
  pub pends : IsFor s who process signals signal
  pub alternative : ℕ
  pub listed : number_for signals signal.signal ≡ Some alternative
  pub best : (other : PendingSignal) → IsFor s who process signals other → IsFalse (precedes_in (rank_of other.value) (rank_of signal.value))

-- a signal of highest priority is taken, among equals the one that was sent first
pub record Takes (old new : SeenSignals) (who process : ℕ) (signals : List Alternative) (answer : Answer) (refill : Option ℕ) : Type 0 where
  pub taken : PendingSignal
  pub choice : IsChoice old who process signals taken
  pub is : answer ≡ answers.Got choice.alternative taken.value.send taken.value.scalars taken.value.sender
  pub no_refill : refill ≡ None
  pub pending : new.pending ≡ signals_but taken.value.send old.pending
  pub receivers : new.receivers ≡ old.receivers

-- nothing is there, and ELSE is written
pub record TakesNothing (old new : SeenSignals) (who process : ℕ) (signals : List Alternative) (otherwise : Bool) : Type 0 where
  pub nothing : NoneFor old who process signals
  pub written : IsTrue otherwise
  pub pending : new.pending ≡ old.pending
  pub receivers : new.receivers ≡ old.receivers

-- nothing is there, and the receiver waits
pub record DelaysReceiver (old new : SeenSignals) (who process : ℕ) (signals : List Alternative) (otherwise : Bool) : Type 0 where
  pub nothing : NoneFor old who process signals
  pub not_written : IsFalse otherwise
  pub receivers : new.receivers ≡ old.receivers ++ record { who = who; process = process; things = signals } ∷ []
  pub pending : new.pending ≡ old.pending

abbrev pub ReceivesFrom : SeenSignals → SeenSignals → ℕ → ℕ → List Alternative → Bool → Received → Type 0
ReceivesFrom old new who process signals otherwise (receipts.Got answer refill) = Takes old new who process signals answer refill
ReceivesFrom old new who process signals otherwise receipts.Otherwise = TakesNothing old new who process signals otherwise
ReceivesFrom old new who process signals otherwise receipts.Delayed = DelaysReceiver old new who process signals otherwise

-- what comes of a receive
abbrev pub Receives : SeenSignals → SeenSignals → ℕ → ℕ → Request → Received → Type 0
Receives old new who process (ReceiveSignal signals otherwise) received = ReceivesFrom old new who process signals otherwise received
Receives old new who process request received = ⊥

-- What the signals keep: no process waits twice, each signal has its two queues, and none pends behind the last number.
pub record AreKept (wanted : List (Option ℕ)) (pending : SeenPending) (receivers : SeenReceivers) (last : ℕ) : Type 0 where
  pub once : AreOnce receiver_of receivers.receivers
  pub receiving : receivers.places ≡ length wanted
  pub pends : length pending.queues ≡ length wanted
  pub drawn : pending.last ≤ last

-- Which events are allowed in a world. Where a choice is free, each way to choose is allowed.
use Rattle.std.specs.Prelude.{◌≡◌, ◌≢◌, ◌⊎◌, ℕ, zero, suc, ◌<◌, ◌≤◌, Bool, true, nat_lt, List, [], ◌∷◌, ℤ, length, slice_get, slice_index_or, Some, None, IsTrue, IsFalse}
use Rattle.std.specs.declared.option.Option.{Option}
use Rattle.kernel_base.specs.declared.ends.Exc.{Exc}
use Rattle.kernel_base.specs.declared.ends.Exc.TheVariants.{Delayfail, Spacefail}
use Rattle.kernel_base.specs.declared.facts.Facts.{Facts}
use Rattle.kernel_base.specs.declared.request.Alternative.{Alternative}
use Rattle.kernel_base.specs.declared.request.Request.{Request}
use Rattle.kernel_base.specs.declared.request.Request.TheVariants.{Read, Write, Enter, Leave, Delay, Continue, SendBuffer, ReceiveBuffer, SendSignal, ReceiveSignal, Start, Put, Get, End}
use Rattle.kernel_base.specs.declared.answer.Answer.{Answer}
use Rattle.kernel_base.specs.declared.answer.Answer.TheVariants.{Value, Done, Got, Otherwise, Instance, Fail, Chose, Handed, Stored}
use Rattle.kernel_base.specs.declared.event.Event.{Event}
use Rattle.kernel_base.specs.declared.event.Event.TheVariants.{Did, Waits, Goes, Runs}
use Rattle.kernel_base.specs.Facts.{FitsRequest}
use Rattle.world_model.specs.declared.world.Phase.TheVariants.{Chosen}
use Rattle.world_model.specs.declared.world.StoredValue.{StoredValue}
use Rattle.world_model.specs.declared.world.PendingSignal.{PendingSignal}
use Rattle.world_model.specs.declared.world.World.{World}
use Rattle.world_model.specs.Lists.{number_for, scalars_at}
use Rattle.world_model.specs.Input.{get_answer}
use Rattle.world_model.specs.declared.waiting.Waiter.{Waiter}
use Rattle.world_model.specs.Waiting.{phase_of, IsActive, sleeper, buffer_receiver, signal_receiver, may_receive, offer, is_full, count_of_live}
use Rattle.world_model.specs.World.{opening, stored_in, buffer_length, refusal, after}
use Rattle.world_model.specs.Ranges.{IsInRange}

-- the region is there, and free
abbrev pub IsFree : World → ℕ → Type 0
IsFree w region = slice_get w.occupants region ≡ Some None

-- `who` occupies the region
abbrev pub Occupies : World → ℕ → ℕ → Type 0
Occupies w who region = slice_get w.occupants region ≡ Some (Some who)

-- another than `who` occupies the region
abbrev pub IsTaken : World → ℕ → ℕ → Type 0
IsTaken w who region = (other : ℕ) × (Occupies w other region) × (other ≢ who)

-- nobody is delayed on the event
abbrev pub NobodySleeps : World → ℕ → Type 0
NobodySleeps w event = (p : ℕ) → sleeper w event p ≡ None

-- p is delayed on the event, and nobody there has a higher priority
pub record IsHighestSleeper (w : World) (event p : ℕ) : Type 0 where
  pub waiter : Waiter
  pub sleeps : sleeper w event p ≡ Some waiter
  pub highest : (q : ℕ) (other : Waiter) → sleeper w event q ≡ Some other → other.priority ≤ waiter.priority

abbrev pub Continues : World → ℕ → Answer → Type 0
Continues w event (Chose None) = NobodySleeps w event
Continues w event (Chose (Some p)) = IsHighestSleeper w event p
Continues w event answer = ⊥

abbrev pub NobodyReceives : World → ℕ → Type 0
NobodyReceives w buffer = (p : ℕ) → buffer_receiver w buffer p ≡ None

-- below a length, where there is one
abbrev pub is_below : Option ℕ → ℕ → Bool
is_below None count = true
is_below (Some most) count = nat_lt count most

-- the buffer takes one more value
abbrev pub has_room : Facts → World → ℕ → Bool
has_room facts w buffer = is_below (buffer_length facts buffer) (length (stored_in w buffer))

abbrev pub SendsToBuffer : Facts → World → ℕ → Answer → Type 0
SendsToBuffer facts w buffer (Handed p) = (waiter : Waiter) × (buffer_receiver w buffer p ≡ Some waiter)
SendsToBuffer facts w buffer Stored = NobodyReceives w buffer × IsTrue (has_room facts w buffer)
SendsToBuffer facts w buffer answer = ⊥

-- the value lies in the buffer
abbrev pub IsStored : World → ℕ → StoredValue → Type 0
IsStored w buffer value = (k : ℕ) × (slice_get (stored_in w buffer) k ≡ Some value)

-- the value is one of a sender that waits to send to the buffer
pub record IsOffered (w : World) (buffer : ℕ) (value : StoredValue) : Type 0 where
  pub back : Option ℕ
  pub waits : offer w value.sender ≡ Some (record { buffer = buffer; value = value; back = back })

-- a value that may be received from the buffer: of a buffer of length 0 those of the senders that wait
abbrev pub IsCandidateOf : Option ℕ → World → ℕ → StoredValue → Type 0
IsCandidateOf (Some zero) w buffer value = IsOffered w buffer value
IsCandidateOf length w buffer value = IsStored w buffer value

abbrev pub IsCandidate : Facts → World → ℕ → StoredValue → Type 0
IsCandidate facts w buffer value = IsCandidateOf (buffer_length facts buffer) w buffer value

-- nobody waits to send to the buffer
abbrev pub NobodySends : World → ℕ → Type 0
NobodySends w buffer = (value : StoredValue) → IsOffered w buffer value → ⊥

-- the refill where senders may wait on a buffer that has room for values
abbrev pub IsRefillBy : World → ℕ → Option ℕ → Type 0
IsRefillBy w buffer None = NobodySends w buffer
IsRefillBy w buffer (Some sender) = (value : StoredValue) × (value.sender ≡ sender) × (IsOffered w buffer value) × ((other : StoredValue) → IsOffered w buffer other → other.priority ≤ value.priority)

-- the sender that is chosen once a value of `by` is taken from a buffer of this length
abbrev pub IsRefill : Option ℕ → World → ℕ → ℕ → Option ℕ → Type 0
IsRefill None w buffer by refill = refill ≡ None
IsRefill (Some zero) w buffer by refill = refill ≡ Some by
IsRefill (Some (suc n)) w buffer by refill = IsRefillBy w buffer refill

-- a value of highest priority is taken from one of the listed buffers
pub record TakesValue (facts : Facts) (w : World) (buffers : List Alternative) (alternative : ℕ) (value : StoredValue) (refill : Option ℕ) : Type 0 where
  pub buffer : ℕ
  pub listed : number_for buffers buffer ≡ Some alternative
  pub candidate : IsCandidate facts w buffer value
  pub highest : (b n : ℕ) (other : StoredValue) → number_for buffers b ≡ Some n → IsCandidate facts w b other → other.priority ≤ value.priority
  pub refills : IsRefill (buffer_length facts buffer) w buffer value.sender refill

-- no listed buffer has a value to take
abbrev pub NothingToTake : Facts → World → List Alternative → Type 0
NothingToTake facts w buffers = (buffer n : ℕ) (value : StoredValue) → number_for buffers buffer ≡ Some n → IsCandidate facts w buffer value → ⊥

abbrev pub ReceivesFromBuffer : Facts → World → List Alternative → Bool → Answer → Option ℕ → Type 0
ReceivesFromBuffer facts w buffers otherwise (Got alternative send scalars by) refill = (priority : ℕ) × TakesValue facts w buffers alternative (record { send = send; sender = by; scalars = scalars; priority = priority }) refill
ReceivesFromBuffer facts w buffers otherwise Otherwise refill = (refill ≡ None) × IsTrue otherwise × NothingToTake facts w buffers
ReceivesFromBuffer facts w buffers otherwise answer refill = ⊥

abbrev pub NobodyMayReceive : Facts → World → ℕ → Option ℕ → Type 0
NobodyMayReceive facts w signal to = (p : ℕ) → signal_receiver facts w signal to p ≡ None

abbrev pub SendsSignalTo : Facts → World → ℕ → Option ℕ → Option Exc → Answer → Type 0
SendsSignalTo facts w signal to (Some exception) answer = answer ≡ Fail exception
SendsSignalTo facts w signal to None (Handed p) = (waiter : Waiter) × (signal_receiver facts w signal to p ≡ Some waiter)
SendsSignalTo facts w signal to None Stored = NobodyMayReceive facts w signal to
SendsSignalTo facts w signal to None answer = ⊥

-- a pending signal that is listed and that `who` may receive
pub record IsPendingFor (facts : Facts) (w : World) (who : ℕ) (signals : List Alternative) (alternative : ℕ) (signal : PendingSignal) : Type 0 where
  pub place : ℕ
  pub pends : slice_get w.pending place ≡ Some signal
  pub listed : number_for signals signal.signal ≡ Some alternative
  pub may : IsTrue (may_receive facts w signal.signal signal.to who)

-- a signal of highest priority is taken
pub record TakesSignal (facts : Facts) (w : World) (who : ℕ) (signals : List Alternative) (alternative send : ℕ) (scalars : List ℤ) (by : ℕ) : Type 0 where
  pub signal : PendingSignal
  pub pends : IsPendingFor facts w who signals alternative signal
  pub is : signal.value ≡ record { send = send; sender = by; scalars = scalars; priority = signal.value.priority }
  pub highest : (n : ℕ) (other : PendingSignal) → IsPendingFor facts w who signals n other → other.value.priority ≤ signal.value.priority

abbrev pub NoSignalPends : Facts → World → ℕ → List Alternative → Type 0
NoSignalPends facts w who signals = (n : ℕ) (signal : PendingSignal) → IsPendingFor facts w who signals n signal → ⊥

abbrev pub ReceivesSignal : Facts → World → ℕ → List Alternative → Bool → Answer → Type 0
ReceivesSignal facts w who signals otherwise (Got alternative send scalars by) = TakesSignal facts w who signals alternative send scalars by
ReceivesSignal facts w who signals otherwise Otherwise = IsTrue otherwise × NoSignalPends facts w who signals
ReceivesSignal facts w who signals otherwise answer = ⊥

-- as many as may live at once
abbrev pub most_live : ℕ
most_live = 1000

abbrev pub Starts : World → Answer → Type 0
Starts w (Instance i) = (count_of_live w < most_live) × (i ≡ length w.phases)
Starts w (Fail Spacefail) = most_live ≤ count_of_live w
Starts w answer = ⊥

-- The answers that a request may have at once, where no sender is chosen with it.
abbrev pub AnswersAlone : Facts → World → ℕ → Request → Answer → Type 0
AnswersAlone facts w who (Read place) answer = answer ≡ Value (scalars_at (slice_index_or w.store place.location []) place.first place.count)
AnswersAlone facts w who (Write place scalars) answer = answer ≡ Done
AnswersAlone facts w who (Enter region) answer = (answer ≡ Done) × (IsFree w region ⊎ Occupies w who region)
AnswersAlone facts w who (Leave region) answer = answer ≡ Done
AnswersAlone facts w who (Delay events priority) answer = (answer ≡ Fail Delayfail) × IsTrue (is_full facts w events)
AnswersAlone facts w who (Continue event) answer = Continues w event answer
AnswersAlone facts w who (SendBuffer buffer scalars priority) answer = SendsToBuffer facts w buffer answer
AnswersAlone facts w who (ReceiveBuffer buffers otherwise) answer = ⊥
AnswersAlone facts w who (SendSignal signal scalars to priority) answer = SendsSignalTo facts w signal to (refusal w to) answer
AnswersAlone facts w who (ReceiveSignal signals otherwise) answer = ReceivesSignal facts w who signals otherwise answer
AnswersAlone facts w who (Start process scalars) answer = Starts w answer
AnswersAlone facts w who (Put bytes) answer = answer ≡ Done
AnswersAlone facts w who Get answer = answer ≡ get_answer w.input
AnswersAlone facts w who (End how) answer = answer ≡ Done

-- the answers that a request may have at once, with the sender that is chosen
abbrev pub Answers : Facts → World → ℕ → Request → Answer → Option ℕ → Type 0
Answers facts w who (ReceiveBuffer buffers otherwise) answer refill = ReceivesFromBuffer facts w buffers otherwise answer refill
Answers facts w who request answer refill = (refill ≡ None) × AnswersAlone facts w who request answer

-- the requests that come to wait
abbrev pub MustWait : Facts → World → ℕ → Request → Type 0
MustWait facts w who (Enter region) = IsTaken w who region
MustWait facts w who (Delay events priority) = IsFalse (is_full facts w events)
MustWait facts w who (SendBuffer buffer scalars priority) = NobodyReceives w buffer × IsFalse (has_room facts w buffer)
MustWait facts w who (ReceiveBuffer buffers otherwise) = IsFalse otherwise × NothingToTake facts w buffers
MustWait facts w who (ReceiveSignal signals otherwise) = IsFalse otherwise × NoSignalPends facts w who signals
MustWait facts w who request = ⊥

-- no region, or a free one
abbrev pub MayLockBack : World → Option ℕ → Type 0
MayLockBack w None = Unit {0}
MayLockBack w (Some region) = IsFree w region

-- who was chosen, with this answer, and may go on
pub record MayGo (w : World) (who : ℕ) (answer : Answer) : Type 0 where
  pub back : Option ℕ
  pub chosen : phase_of w who ≡ Some (Chosen answer back)
  pub free : MayLockBack w back

-- an active process may ask a request that fits
pub record MayAsk (facts : Facts) (w : World) (who : ℕ) (request : Request) : Type 0 where
  pub active : IsActive w who
  pub fits : FitsRequest facts request

abbrev pub IsPossible : Facts → World → Event → Type 0
IsPossible facts w (Did who ticks request answer refill) = MayAsk facts w who request × Answers facts w who request answer refill
IsPossible facts w (Waits who ticks request) = MayAsk facts w who request × MustWait facts w who request
IsPossible facts w (Goes who answer) = MayGo w who answer
IsPossible facts w (Runs who ticks) = IsActive w who × (1 ≤ ticks)

-- An event that is allowed in a world: each number in it has the range of its type, and it is one that may come.
pub record IsAllowed (facts : Facts) (w : World) (event : Event) : Type 0 where
  pub in_range : IsInRange event
  pub possible : IsPossible facts w event

-- each event is allowed in the world that those before it leave, from a world on
abbrev pub IsRunFrom : Facts → World → List Event → Type 0
IsRunFrom facts w [] = Unit {0}
IsRunFrom facts w (event ∷ events) = IsAllowed facts w event × IsRunFrom facts (after facts w event) events

-- a list of events that is allowed from the opening
abbrev pub IsRun : Facts → List Event → Type 0
IsRun facts events = IsRunFrom facts (opening facts) events

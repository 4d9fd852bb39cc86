-- The laws of a journal.
use Rattle.std.specs.Prelude.{◌≡◌, ◌+◌, ◌≢◌, ◌⊎◌, ℕ, suc, ◌≤◌, List, [], ◌∷◌, ◌++◌, ℤ, Some, None, IsSome, slice_get}
use Rattle.std.specs.declared.option.Option.{Option}
use Rattle.kernel_base.specs.declared.facts.Facts.{Facts}
use Rattle.kernel_base.specs.declared.request.Alternative.{Alternative}
use Rattle.kernel_base.specs.declared.request.Request.{Request}
use Rattle.kernel_base.specs.declared.request.Request.TheVariants.{Enter, Continue, SendBuffer, ReceiveBuffer, SendSignal, ReceiveSignal}
use Rattle.kernel_base.specs.declared.answer.Answer.{Answer}
use Rattle.kernel_base.specs.declared.answer.Answer.TheVariants.{Got, Handed, Stored, Chose}
use Rattle.kernel_base.specs.declared.event.Event.{Event}
use Rattle.kernel_base.specs.declared.event.Event.TheVariants.{Did, Waits, Goes, Runs}
use Rattle.world_model.specs.declared.world.World.{World}
use Rattle.world_model.specs.declared.world.StoredValue.{StoredValue}
use Rattle.world_model.specs.declared.world.PendingSignal.{PendingSignal}
use Rattle.world_model.specs.Lists.{last_of, number_for, without}
use Rattle.world_model.specs.Waiting.{IsActive}
use Rattle.world_model.specs.World.{world_of, after, after_all, held_by, buffer_length}
use Rattle.world_model.specs.Allowed.{IsRun, IsAllowed, MayGo, Occupies, IsHighestSleeper, IsOffered, IsCandidate, IsPendingFor}
use Rattle.world_model.specs.Over.{over_of}
use Rattle.world_model.specs.Gives.{Gives}
use Rattle.world_model.specs.Journal.{answers_of, requests_of}
use Rattle.kernel_base.specs.Facts.{IsSound}

-- Of a journal that is allowed each prefix is one, and each event is allowed in the world that those before it leave.
pub record PrefixLaw : Type 0 where
  pub prefix : (facts : Facts) (before behind : List Event) → IsRun facts (before ++ behind) → IsRun facts before
  pub next : (facts : Facts) (before : List Event) (event : Event) (behind : List Event) → IsRun facts (before ++ event ∷ behind) → IsAllowed facts (world_of facts before) event
  pub more : (facts : Facts) (before : List Event) (event : Event) → IsRun facts before → IsAllowed facts (world_of facts before) event → IsRun facts (before ++ event ∷ [])

-- Where nobody who was chosen can go on, either somebody is active or the run is over.
abbrev pub OverLaw : Type 0
OverLaw = (facts : Facts) (events : List Event) → ((who : ℕ) (answer : Answer) → MayGo (world_of facts events) who answer → ⊥) → ((who : ℕ) × IsActive (world_of facts events) who) ⊎ IsSome (over_of facts events)

-- the value that is got is one of a listed buffer, and none of them had a higher priority
pub record GotHighestValue (facts : Facts) (w : World) (buffers : List Alternative) (send by : ℕ) (scalars : List ℤ) : Type 0 where
  pub buffer : ℕ
  pub alternative : ℕ
  pub value : StoredValue
  pub is_send : value.send ≡ send
  pub is_sender : value.sender ≡ by
  pub are_scalars : value.scalars ≡ scalars
  pub listed : number_for buffers buffer ≡ Some alternative
  pub candidate : IsCandidate facts w buffer value
  pub highest : (b n : ℕ) (other : StoredValue) → number_for buffers b ≡ Some n → IsCandidate facts w b other → other.priority ≤ value.priority

-- the sender that refills a buffer of a length above 0 had the highest priority of those that wait to send to it
pub record RefilledByHighest (facts : Facts) (w : World) (sender : ℕ) : Type 0 where
  pub buffer : ℕ
  pub value : StoredValue
  pub is_sender : value.sender ≡ sender
  pub offered : IsOffered w buffer value
  pub highest : (n : ℕ) → buffer_length facts buffer ≡ Some (suc n) → (other : StoredValue) → IsOffered w buffer other → other.priority ≤ value.priority

-- the signal that is got is a pending one that may be received, and none of them had a higher priority
pub record GotHighestSignal (facts : Facts) (w : World) (who : ℕ) (signals : List Alternative) (send by : ℕ) (scalars : List ℤ) : Type 0 where
  pub alternative : ℕ
  pub signal : PendingSignal
  pub is_send : signal.value.send ≡ send
  pub is_sender : signal.value.sender ≡ by
  pub are_scalars : signal.value.scalars ≡ scalars
  pub pends : IsPendingFor facts w who signals alternative signal
  pub highest : (n : ℕ) (other : PendingSignal) → IsPendingFor facts w who signals n other → other.value.priority ≤ signal.value.priority

abbrev pub IsRefilledByHighest : Facts → World → Option ℕ → Type 0
IsRefilledByHighest facts w None = Unit {0}
IsRefilledByHighest facts w (Some sender) = RefilledByHighest facts w sender

-- what an event chose by priority in a world had the highest
abbrev pub ChoseHighest : Facts → World → Event → Type 0
ChoseHighest facts w (Did who ticks (Continue event) (Chose (Some p)) refill) = IsHighestSleeper w event p
ChoseHighest facts w (Did who ticks (ReceiveBuffer buffers otherwise) (Got alternative send scalars by) refill) = GotHighestValue facts w buffers send by scalars × IsRefilledByHighest facts w refill
ChoseHighest facts w (Did who ticks (ReceiveSignal signals otherwise) (Got alternative send scalars by) refill) = GotHighestSignal facts w who signals send by scalars
ChoseHighest facts w event = Unit {0}

-- At each event of a journal what was chosen by priority had the highest.
abbrev pub PriorityLaw : Type 0
PriorityLaw = (facts : Facts) (before : List Event) (event : Event) (behind : List Event) → IsRun facts (before ++ event ∷ behind) → ChoseHighest facts (world_of facts before) event

-- the event makes `who` the region's occupant
pub record Locks (facts : Facts) (w : World) (event : Event) (who region : ℕ) : Type 0 where
  pub not_before : Occupies w who region → ⊥
  pub behind : Occupies (after facts w event) who region

-- the event frees the region of `who`, its occupant
pub record Frees (facts : Facts) (w : World) (event : Event) (who region : ℕ) : Type 0 where
  pub before : Occupies w who region
  pub not_behind : Occupies (after facts w event) who region → ⊥

-- some event among these, from this world on, frees the region of `who`
pub record SomeFrees (facts : Facts) (w : World) (events : List Event) (who region : ℕ) : Type 0 where
  pub front : List Event
  pub event : Event
  pub rest : List Event
  pub parts : events ≡ front ++ event ∷ rest
  pub frees : Frees facts (after_all facts w front) event who region

-- Between two events that lock one region for different processes stands an event that frees it of the first.
abbrev pub OneOccupantLaw : Type 0
OneOccupantLaw = (facts : Facts) (before : List Event) (first : Event) (between : List Event) (second : Event) (who other region : ℕ)
    → IsRun facts (before ++ first ∷ (between ++ second ∷ []))
    → Locks facts (world_of facts before) first who region
    → Locks facts (after_all facts (after facts (world_of facts before) first) between) second other region
    → other ≢ who
    → SomeFrees facts (after facts (world_of facts before) first) between who region

abbrev pub IsEnter : Request → Type 0
IsEnter (Enter region) = Unit {0}
IsEnter request = ⊥

-- an event of `who` itself that is no going on
abbrev pub IsDoneBy : ℕ → Event → Type 0
IsDoneBy i (Did who ticks request answer refill) = who ≡ i
IsDoneBy i (Waits who ticks request) = who ≡ i
IsDoneBy i (Goes who answer) = ⊥
IsDoneBy i (Runs who ticks) = who ≡ i

-- at some event among these, from this world on, `who` goes on and locks the region
pub record SomeLocksAgain (facts : Facts) (w : World) (events : List Event) (who region : ℕ) : Type 0 where
  pub front : List Event
  pub answer : Answer
  pub rest : List Event
  pub parts : events ≡ front ++ Goes who answer ∷ rest
  pub locks : Locks facts (after_all facts w front) (Goes who answer) who region

-- The region is freed, and before anything else that `who` does it goes on and locks that region again.
pub record FreesUntilLocked (facts : Facts) (w : World) (who ticks : ℕ) (request : Request) (behind : List Event) (region : ℕ) : Type 0 where
  pub frees : Frees facts w (Waits who ticks request) who region
  pub leaves : held_by (after facts w (Waits who ticks request)) who ≡ without region (held_by w who)
  pub again : (front : List Event) (event : Event) (rest : List Event) → behind ≡ front ++ event ∷ rest → IsDoneBy who event → SomeLocksAgain facts (after facts w (Waits who ticks request)) front who region

-- A wait for anything but a region frees the region that the process locked last, if it holds one.
abbrev pub FreedRegionLaw : Type 0
FreedRegionLaw = (facts : Facts) (before : List Event) (who ticks : ℕ) (request : Request) (behind : List Event) (region : ℕ)
    → IsRun facts (before ++ Waits who ticks request ∷ behind)
    → (IsEnter request → ⊥)
    → last_of (held_by (world_of facts before) who) ≡ Some region
    → FreesUntilLocked facts (world_of facts before) who ticks request behind region

-- an instance had this request in its place, and the answer can come for it
pub record IsAnsweredBy (requests : List Request) (k : ℕ) (answer : Answer) : Type 0 where
  pub request : Request
  pub asked : slice_get requests k ≡ Some request
  pub gives : Gives request answer

-- In a journal from sound facts each answer of an instance is one that can come for the request that it answers.
abbrev pub GivenAnswersLaw : Type 0
GivenAnswersLaw = (facts : Facts) (events : List Event) (i k : ℕ) (answer : Answer)
    → IsSound facts
    → IsRun facts events
    → slice_get (answers_of i events) k ≡ Some answer
    → IsAnsweredBy (requests_of i events) k answer

-- a value that was sent: its send number, who sent it, and its scalars
pub record Message : Type 0 where
  pub number : ℕ
  pub sender : ℕ
  pub scalars : List ℤ

abbrev pub message_got : Answer → Option Message
message_got (Got alternative send scalars by) = Some (record { number = send; sender = by; scalars = scalars })
message_got answer = None

-- the value that an event hands to its receiver
abbrev pub got_in : Event → Option Message
got_in (Did who ticks request answer refill) = message_got answer
got_in (Waits who ticks request) = None
got_in (Goes who answer) = message_got answer
got_in (Runs who ticks) = None

-- a signal is sent where it is handed over or stored, and not where it is refused
abbrev pub if_sent : Answer → Message → Option Message
if_sent (Handed p) message = Some message
if_sent Stored message = Some message
if_sent answer message = None

abbrev pub next_message : World → ℕ → List ℤ → Message
next_message w who scalars = record { number = w.sends + 1; sender = who; scalars = scalars }

abbrev pub sent_at_once : World → ℕ → Request → Answer → Option Message
sent_at_once w who (SendBuffer buffer scalars priority) answer = Some (next_message w who scalars)
sent_at_once w who (SendSignal signal scalars to priority) answer = if_sent answer (next_message w who scalars)
sent_at_once w who request answer = None

abbrev pub sent_later : World → ℕ → Request → Option Message
sent_later w who (SendBuffer buffer scalars priority) = Some (next_message w who scalars)
sent_later w who request = None

-- the value that an event sends, under the next send number
abbrev pub sent_in : World → Event → Option Message
sent_in w (Did who ticks request answer refill) = sent_at_once w who request answer
sent_in w (Waits who ticks request) = sent_later w who request
sent_in w (Goes who answer) = None
sent_in w (Runs who ticks) = None

-- some event of these sent the value
pub record WasSent (facts : Facts) (events : List Event) (message : Message) : Type 0 where
  pub front : List Event
  pub event : Event
  pub rest : List Event
  pub parts : events ≡ front ++ event ∷ rest
  pub sends : sent_in (world_of facts front) event ≡ Some message

-- Each value that is got was sent by an earlier event, and no send number is got twice.
pub record EachValueOnceLaw : Type 0 where
  pub sent : (facts : Facts) (before : List Event) (event : Event) (behind : List Event) (message : Message)
      → IsRun facts (before ++ event ∷ behind) → got_in event ≡ Some message → WasSent facts before message
  pub once : (facts : Facts) (before : List Event) (first : Event) (between : List Event) (second : Event) (behind : List Event) (a b : Message)
      → IsRun facts (before ++ first ∷ (between ++ second ∷ behind)) → got_in first ≡ Some a → got_in second ≡ Some b → a.number ≢ b.number

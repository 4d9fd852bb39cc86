-- Those that wait, in the order in which they came, and those that wait at each place, in the order of choice.
use Rattle.std.specs.Prelude.{◌≡◌, ℕ, ◌<◌, ◌==◌, nat_lt, List, [], ◌∷◌, slice_get, if◌then◌else◌, Some, None, IsSome}
use Rattle.std.specs.Map.{values_of}
use Rattle.std.specs.Option.{option_map, option_map_or}
use Rattle.std.specs.declared.option.Option.{Option}
use Rattle.world_model.specs.Lists.{number_for}
use Rattle.kernel_lists.specs.declared.best.Rank.{Rank}
use Rattle.kernel_lists.specs.Once.{AreOnce, entry_of, others}
use Rattle.wait_queues.specs.declared.waiters.Waiter.{Waiter}
use Rattle.buffers_signals.specs.declared.messages.Held.{Held}
use Rattle.buffers_signals.specs.declared.messages.Receiver.{Receiver}
use Rattle.buffers_signals.specs.Lists.{sender_of, receiver_of}

-- with one more, in front of the first of those that came later that has no higher priority
abbrev pub ahead : Waiter → List Waiter → List Waiter
ahead w [] = w ∷ []
ahead w (x ∷ xs) = if nat_lt w.priority x.priority then x ∷ ahead w xs else w ∷ x ∷ xs

-- with one more, if it has a number here
abbrev pub ahead_by : ℕ → ℕ → Option ℕ → List Waiter → List Waiter
ahead_by who priority None ws = ws
ahead_by who priority (Some number) ws = ahead (record { who = who; number = number; priority = priority }) ws

-- What is read off an item: who waits, by which priority, and under which number at a place.
module _ {X : Type 0} (key priority : X → ℕ) (number : ℕ → X → Option ℕ) where
  -- those that wait at a place, of items that came in this order: by falling priority, and among equals by arrival
  abbrev pub queue_at : ℕ → List X → List Waiter
  queue_at place [] = []
  queue_at place (x ∷ xs) = ahead_by (key x) (priority x) (number place x) (queue_at place xs)

  -- how an item waits at a place
  abbrev pub waits_at : ℕ → X → Option Waiter
  waits_at place x = option_map (λ n. record { who = key x; number = n; priority = priority x }) (number place x)

-- each item stands under who waits by it
abbrev pub AreKeyed : {X : Type 0} → (X → ℕ) → List (ℕ × X) → Type 0
AreKeyed key [] = Unit {0}
AreKeyed key (e ∷ es) = (e.0 ≡ key e.1) × AreKeyed key es

-- At each place those wait that are listed, in the order of choice.
pub record AreListed {X : Type 0} (key priority : X → ℕ) (number : ℕ → X → Option ℕ) (entries : List (ℕ × X)) (waiting : List (List Waiter)) : Type 0 where
  pub keyed : AreKeyed key entries
  pub once : AreOnce key (values_of entries)
  pub queues : (place : ℕ) (ws : List Waiter) → slice_get waiting place ≡ Some ws → ws ≡ queue_at key priority number place (values_of entries)

-- receivers have no priority
abbrev pub no_priority : Receiver → ℕ
no_priority receiver = 0

-- the alternative through which a receiver goes on
abbrev pub receives_at : ℕ → Receiver → Option ℕ
receives_at place receiver = number_for receiver.things place

abbrev pub receivers_at : ℕ → List Receiver → List Waiter
receivers_at place receivers = queue_at receiver_of no_priority receives_at place receivers

abbrev pub priority_of : Held → ℕ
priority_of held = held.value.priority

-- the send number of a value for this buffer
abbrev pub sends_at : ℕ → Held → Option ℕ
sends_at buffer held = if held.buffer == buffer then Some held.value.send else None

abbrev pub senders_at : ℕ → List Held → List Waiter
senders_at buffer senders = queue_at sender_of priority_of sends_at buffer senders

-- the receivers that wait, in the order in which they came; how many places there are; and for how many there is room
pub record SeenReceivers : Type 0 where
  pub receivers : List Receiver
  pub places : ℕ
  pub room : ℕ

-- the same of those that wait to send
pub record SeenSenders : Type 0 where
  pub senders : List Held
  pub places : ℕ
  pub room : ℕ

-- each was sent behind all that came before it
abbrev pub AreRising : List Held → Type 0
AreRising [] = Unit {0}
AreRising (held ∷ senders) = ((k : ℕ) (later : Held) → slice_get senders k ≡ Some later → held.value.send < later.value.send) × AreRising senders

-- each was sent before this number
abbrev pub AreBefore : ℕ → List Held → Type 0
AreBefore send senders = (k : ℕ) (held : Held) → slice_get senders k ≡ Some held → held.value.send < send

-- who waits first at a place
abbrev pub first_who : List Waiter → Option ℕ
first_who ws = option_map (λ w. w.who) (slice_get ws 0)

-- how a value stands whose sender waits so
abbrev pub rank_in : Waiter → Rank
rank_in w = record { priority = w.priority; arrival = w.number }

-- the process of a receiver
abbrev pub process_in : List Receiver → ℕ → ℕ
process_in receivers who = option_map_or (λ r. r.process) (entry_of receiver_of receivers who) 0

-- the receiver waits at the place
pub record WaitsAt (receivers : List Receiver) (who place : ℕ) : Type 0 where
  pub receiver : Receiver
  pub waits : entry_of receiver_of receivers who ≡ Some receiver
  pub listed : IsSome (number_for receiver.things place)

-- the receiver is taken out, which goes on by the alternative of this number
pub record TakesOut (old new : List Receiver) (who place number : ℕ) : Type 0 where
  pub receiver : Receiver
  pub was : entry_of receiver_of old who ≡ Some receiver
  pub listed : number_for receiver.things place ≡ Some number
  pub rest : new ≡ others receiver_of old who

-- The pending signals, those of each signal in the order in which they are received.
use Rattle.std.specs.Prelude.{◌≡◌, ℕ, zero, suc, ◌+◌, ◌≤◌, ◌==◌, Bool, List, [], ◌∷◌, ◌++◌, map, slice_get, slice_index_or, Some}
use Rattle.std.specs.List.{filter, insert}
use Rattle.std.specs.VecDeque.{deque_len, deque_capacity}
use Rattle.std.specs.declared.collections.VecDeque.{VecDeque}
use Rattle.std.specs.declared.alloc.Global.{Global}
use Rattle.world_model.specs.declared.world.PendingSignal.{PendingSignal}
use Rattle.world_model.specs.declared.world.StoredValue.{StoredValue}
use Rattle.kernel_lists.specs.Once.{AreOnce}
use Rattle.value_queues.specs.Queues.{AreInOrder}

abbrev pub value_of : PendingSignal → StoredValue
value_of signal = signal.value

abbrev pub send_of : PendingSignal → ℕ
send_of signal = signal.value.send

abbrev pub is_sent : ℕ → PendingSignal → Bool
is_sent send signal = signal.value.send == send

-- it stands in the list
abbrev pub IsThere : List PendingSignal → PendingSignal → Type 0
IsThere signals signal = (place : ℕ) × (slice_get signals place ≡ Some signal)

-- those that are pending of a signal
abbrev pub queue_of : List (List PendingSignal) → ℕ → List PendingSignal
queue_of queues signal = slice_index_or queues signal []

-- those of all signals
abbrev pub joined : List (List PendingSignal) → List PendingSignal
joined [] = []
joined (queue ∷ queues) = queue ++ joined queues

-- those with a send number below this one, in the order of these numbers
abbrev pub sent_below : ℕ → List PendingSignal → List PendingSignal
sent_below zero signals = []
sent_below (suc send) signals = sent_below send signals ++ filter (is_sent send) signals

-- the queue of each signal, the last send number, and for how many more of each there is room
pub record SeenPending : Type 0 where
  pub queues : List (List PendingSignal)
  pub last : ℕ
  pub room : ℕ

-- all that are pending, in the order in which they were sent
abbrev pub pending_in : SeenPending → List PendingSignal
pending_in p = sent_below (suc p.last) (joined p.queues)

-- one more, at some place
abbrev pub Puts : PendingSignal → List PendingSignal → List PendingSignal → Type 0
Puts signal old new = (place : ℕ) × (new ≡ insert old place signal)

abbrev pub Queue : Type 0
Queue = VecDeque PendingSignal Global

-- the queue of a signal: there is room for so many more, they are in order, and each is of this signal
pub record IsKept (room signal : ℕ) (queue : Queue) : Type 0 where
  pub fits : deque_len queue + room ≤ deque_capacity queue
  pub order : AreInOrder (map value_of queue.items)
  pub own : (x : PendingSignal) → IsThere queue.items x → x.signal ≡ signal

abbrev pub AreKept : ℕ → List Queue → Type 0
AreKept room queues = (signal : ℕ) (queue : Queue) → slice_get queues signal ≡ Some queue → IsKept room signal queue

-- no two have one send number, and none is behind the last
pub record AreSent (last : ℕ) (queues : List (List PendingSignal)) : Type 0 where
  pub once : AreOnce send_of (joined queues)
  pub drawn : (x : PendingSignal) → IsThere (joined queues) x → x.value.send ≤ last

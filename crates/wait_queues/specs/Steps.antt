-- What single steps of joining and leaving do, with the room that they leave.
use Rattle.std.specs.Prelude.{◌≡◌, ℕ, ◌+◌, ◌<◌, ◌≤◌, Bool, List, length, slice_get, Some, None, is_some, true}
use Rattle.std.specs.declared.option.Option.{Option}
use Rattle.kernel_base.specs.declared.request.Alternative.{Alternative}
use Rattle.world_model.specs.Lists.{number_for}
use Rattle.kernel_lists.specs.Once.{entry_of}
use Rattle.wait_queues.specs.declared.waiters.Waiter.{Waiter}
use Rattle.wait_queues.specs.Waiting.{SeenWaiters, joined, left, placed, waiter_of}

-- waits at no place
abbrev pub IsUnseen : List SeenWaiters → ℕ → Type 0
IsUnseen queues who = (k : ℕ) (q : SeenWaiters) → slice_get queues k ≡ Some q → entry_of waiter_of q.waiters who ≡ None

-- if the place is there, it has room, and the process doesn't wait there
abbrev pub MayJoin : ℕ → ℕ → List SeenWaiters → Type 0
MayJoin place who queues = (q : SeenWaiters) → slice_get queues place ≡ Some q → (0 < q.room) × (entry_of waiter_of q.waiters who ≡ None)

-- those that wait at a place once another joined them
pub record HasPlaced (w : Waiter) (q : SeenWaiters) (new : List SeenWaiters) (place : ℕ) : Type 0 where
  pub seen : SeenWaiters
  pub at : slice_get new place ≡ Some seen
  pub waiters : seen.waiters ≡ placed w q.waiters
  pub room : q.room ≤ seen.room + 1

-- one joins those at a place, if it is there
pub record JoinsAt (place : ℕ) (w : Waiter) (old new : List SeenWaiters) : Type 0 where
  pub each : length new ≡ length old
  pub here : (q : SeenWaiters) → slice_get old place ≡ Some q → HasPlaced w q new place
  pub elsewhere : (k : ℕ) → (k ≡ place → ⊥) → slice_get new k ≡ slice_get old k

-- the room that one takes where it has a number
abbrev pub room_of : Option ℕ → ℕ
room_of None = 0
room_of (Some number) = 1

-- those that wait at a place once another joined them, if it has a number there
pub record HasJoined (who priority : ℕ) (number : Option ℕ) (q : SeenWaiters) (new : List SeenWaiters) (place : ℕ) : Type 0 where
  pub seen : SeenWaiters
  pub at : slice_get new place ≡ Some seen
  pub waiters : seen.waiters ≡ joined who priority number q.waiters
  pub room : q.room ≤ seen.room + room_of number

-- one joins those at the listed places
pub record JoinsSeen (who priority : ℕ) (places : List Alternative) (old new : List SeenWaiters) : Type 0 where
  pub each : length new ≡ length old
  pub at : (k : ℕ) (q : SeenWaiters) → slice_get old k ≡ Some q → HasJoined who priority (number_for places k) q new k

-- those that wait at a place once one left, if it is listed there
pub record HasLeft (who : ℕ) (listed : Bool) (q : SeenWaiters) (new : List SeenWaiters) (place : ℕ) : Type 0 where
  pub seen : SeenWaiters
  pub at : slice_get new place ≡ Some seen
  pub waiters : seen.waiters ≡ left who listed q.waiters
  pub room : q.room ≤ seen.room

-- one leaves a place, if it is there
pub record LeavesAt (place who : ℕ) (old new : List SeenWaiters) : Type 0 where
  pub each : length new ≡ length old
  pub here : (q : SeenWaiters) → slice_get old place ≡ Some q → HasLeft who true q new place
  pub elsewhere : (k : ℕ) → (k ≡ place → ⊥) → slice_get new k ≡ slice_get old k

-- one leaves the listed places
pub record LeavesSeen (who : ℕ) (places : List Alternative) (old new : List SeenWaiters) : Type 0 where
  pub each : length new ≡ length old
  pub at : (k : ℕ) (q : SeenWaiters) → slice_get old k ≡ Some q → HasLeft who (is_some (number_for places k)) q new k

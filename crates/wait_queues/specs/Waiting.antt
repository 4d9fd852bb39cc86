-- Those that wait at places, at each place in the order in which they are chosen.
use Rattle.std.specs.Prelude.{◌≡◌, ℕ, ◌+◌, ◌<◌, ◌≤◌, ◌==◌, nat_lt, Bool, true, false, List, [], ◌∷◌, length, slice_get, slice_index_or, if◌then◌else◌, Some, None, is_some, nat_eq}
use Rattle.std.specs.Map.{lookup}
use Rattle.std.specs.Option.{option_and_then}
use Rattle.std.specs.declared.option.Option.{Option}
use Rattle.kernel_base.specs.declared.request.Alternative.{Alternative}
use Rattle.world_model.specs.Lists.{number_for}
use Rattle.kernel_lists.specs.Once.{AreOnce, entry_of, others}
use Rattle.wait_queues.specs.declared.waiters.Waiter.{Waiter}

abbrev pub waiter_of : Waiter → ℕ
waiter_of w = w.who

abbrev pub is_of : ℕ → Waiter → Bool
is_of who w = w.who == who

-- nobody has a higher priority than one that stands in front of it
abbrev pub AreInOrder : List Waiter → Type 0
AreInOrder [] = Unit {0}
AreInOrder (w ∷ ws) = ((k : ℕ) (other : Waiter) → slice_get ws k ≡ Some other → other.priority ≤ w.priority) × AreInOrder ws

-- with one more, directly behind those of its own or a higher priority
abbrev pub placed : Waiter → List Waiter → List Waiter
placed w [] = w ∷ []
placed w (x ∷ xs) = if nat_lt x.priority w.priority then w ∷ x ∷ xs else x ∷ placed w xs

-- from this place on all have a lower priority, and the one in front of it has not
pub record IsPlaceFor (priority : ℕ) (ws : List Waiter) (place : ℕ) : Type 0 where
  pub within : place ≤ length ws
  pub behind : (k : ℕ) (other : Waiter) → place ≤ k → slice_get ws k ≡ Some other → other.priority < priority
  pub front : (k : ℕ) (other : Waiter) → k + 1 ≡ place → slice_get ws k ≡ Some other → priority ≤ other.priority

-- those that wait at one place, and for how many more there is room
pub record SeenWaiters : Type 0 where
  pub waiters : List Waiter
  pub room : ℕ

abbrev pub those_of : SeenWaiters → List Waiter
those_of q = q.waiters

-- each has room for so many more
abbrev pub HaveRoom : ℕ → List SeenWaiters → Type 0
HaveRoom room queues = (k : ℕ) (q : SeenWaiters) → slice_get queues k ≡ Some q → room ≤ q.room

-- those that wait at each place, and for how many more there is room at each
pub record SeenQueues : Type 0 where
  pub waiting : List (List Waiter)
  pub room : ℕ

-- those that wait at a place; nobody where it isn't there
abbrev pub waiting_at : List (List Waiter) → ℕ → List Waiter
waiting_at waiting place = slice_index_or waiting place []

-- at each place they stand by falling priority, and each once
abbrev pub AreOrdered : List (List Waiter) → Type 0
AreOrdered waiting = (place : ℕ) (ws : List Waiter) → slice_get waiting place ≡ Some ws → AreInOrder ws × AreOnce waiter_of ws

-- waits at no place
abbrev pub IsNowhere : List (List Waiter) → ℕ → Type 0
IsNowhere waiting who = (place : ℕ) (ws : List Waiter) → slice_get waiting place ≡ Some ws → entry_of waiter_of ws who ≡ None

-- with one more, if it has a number here
abbrev pub joined : ℕ → ℕ → Option ℕ → List Waiter → List Waiter
joined who priority None ws = ws
joined who priority (Some number) ws = placed (record { who = who; number = number; priority = priority }) ws

-- one comes to wait at the listed places
pub record Joins (who priority : ℕ) (places : List Alternative) (old new : List (List Waiter)) : Type 0 where
  pub each : length new ≡ length old
  pub at : (place : ℕ) (ws : List Waiter) → slice_get old place ≡ Some ws → slice_get new place ≡ Some (joined who priority (number_for places place) ws)

-- without one, where it is listed
abbrev pub left : ℕ → Bool → List Waiter → List Waiter
left who true ws = others waiter_of ws who
left who false ws = ws

-- one leaves the listed places
pub record Leaves (who : ℕ) (places : List Alternative) (old new : List (List Waiter)) : Type 0 where
  pub each : length new ≡ length old
  pub at : (place : ℕ) (ws : List Waiter) → slice_get old place ≡ Some ws → slice_get new place ≡ Some (left who (is_some (number_for places place)) ws)

-- At each place exactly those wait of whom `waits` tells it, by what is listed of them.
abbrev pub AreTied : {X : Type 0} → (ℕ → ℕ → X → Option Waiter) → List (ℕ × X) → List (List Waiter) → Type 0
AreTied waits listed waiting = (place : ℕ) (ws : List Waiter) → slice_get waiting place ≡ Some ws → (who : ℕ) → entry_of waiter_of ws who ≡ option_and_then (waits place who) (lookup (nat_eq who) listed)

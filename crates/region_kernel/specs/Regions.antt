-- What a contract sees of the regions.
use Rattle.std.specs.Prelude.{◌≡◌, ℕ, ◌+◌, ◌≤◌, ◌==◌, ◌&&◌, not, Bool, true, List, [], ◌∷◌, ◌++◌, length, slice_get, slice_set, slice_index_or, if◌then◌else◌, Some, None, vec_len, vec_capacity}
use Rattle.std.specs.List.{filter, filter_map}
use Rattle.std.specs.declared.alloc.Global.{Global}
use Rattle.std.specs.declared.vec.Vec.{Vec}
use Rattle.std.specs.declared.option.Option.{Option}
use Rattle.kernel_lists.specs.Once.{AreOnce, entry_of, others}
use Rattle.region_kernel.specs.declared.regions.Lock.{Lock}

-- who occupies each region; the regions that are locked, each by whom, in the order of locking; who waits to lock each
-- one, the longest waiting first; and for how many changes there is room
pub record SeenRegions : Type 0 where
  pub occupants : List (Option ℕ)
  pub locks : List Lock
  pub queues : List (List ℕ)
  pub spare : ℕ

-- those that wait to lock a region
abbrev pub queue_of : List (List ℕ) → ℕ → List ℕ
queue_of queues region = slice_index_or queues region []

-- one queue is this from now on, and the others stay
pub record Changes (region : ℕ) (queue : List ℕ) (old new : List (List ℕ)) : Type 0 where
  pub each : length new ≡ length old
  pub here : queue_of new region ≡ queue
  pub elsewhere : (r : ℕ) → (r ≡ region → ⊥) → queue_of new r ≡ queue_of old r

-- a process that waits
abbrev pub itself : ℕ → ℕ
itself who = who

-- a queue of processes
abbrev pub Queue : Type 0
Queue = Vec ℕ Global

abbrev pub items_of : Queue → List ℕ
items_of q = q.items

-- each queue has room for so many more
abbrev pub AreFit : ℕ → List Queue → Type 0
AreFit room queues = (k : ℕ) (q : Queue) → slice_get queues k ≡ Some q → vec_len q + room ≤ vec_capacity q

-- no process waits for two regions
abbrev pub AreAlone : List (List ℕ) → Type 0
AreAlone queues = (region other who : ℕ) → entry_of itself (queue_of queues region) who ≡ Some who → entry_of itself (queue_of queues other) who ≡ Some who → region ≡ other

-- the process waits for no region
abbrev pub WaitsNowhere : List (List ℕ) → ℕ → Type 0
WaitsNowhere queues who = (region : ℕ) → entry_of itself (queue_of queues region) who ≡ None

-- each region has its queue, in which each stands once, and none stands in two
pub record AreQueued (occupants : List (Option ℕ)) (queues : List (List ℕ)) : Type 0 where
  pub each : length queues ≡ length occupants
  pub once : (region : ℕ) (queue : List ℕ) → slice_get queues region ≡ Some queue → AreOnce itself queue
  pub alone : AreAlone queues

-- who occupies the region
abbrev pub occupant_of : SeenRegions → ℕ → Option ℕ
occupant_of r region = slice_index_or r.occupants region None

-- the region, if the process locked it
abbrev pub region_for : ℕ → Lock → Option ℕ
region_for who lock = if lock.who == who then Some lock.region else None

-- the regions that a process holds, in the order of locking
abbrev pub held_by : List Lock → ℕ → List ℕ
held_by locks who = filter_map (region_for who) locks

-- whether the process occupies the region once it has asked for it
abbrev pub may_lock : Option ℕ → ℕ → Bool
may_lock None who = true
may_lock (Some other) who = other == who

-- a free region is locked
abbrev pub occupants_locked : List (Option ℕ) → ℕ → ℕ → Option ℕ → List (Option ℕ)
occupants_locked occupants region who None = slice_set occupants region (Some who)
occupants_locked occupants region who (Some other) = occupants

abbrev pub locks_locked : List Lock → ℕ → ℕ → Option ℕ → List Lock
locks_locked locks region who None = locks ++ record { region = region; who = who } ∷ []
locks_locked locks region who (Some other) = locks

-- somebody occupies the region
abbrev pub IsOccupied : SeenRegions → ℕ → Type 0
IsOccupied r region = (who : ℕ) × (slice_get r.occupants region ≡ Some (Some who))

abbrev pub is_lock : ℕ → ℕ → Lock → Bool
is_lock region who lock = lock.region == region && lock.who == who

-- all locks but the one of the region by its occupant
abbrev pub locks_but : List Lock → ℕ → Option ℕ → List Lock
locks_but locks region None = locks
locks_but locks region (Some who) = filter (λ lock. not (is_lock region who lock)) locks

-- with a lock by the one that goes on
abbrev pub with_lock : List Lock → ℕ → Option ℕ → List Lock
with_lock locks region None = locks
with_lock locks region (Some who) = locks ++ record { region = region; who = who } ∷ []

-- the process that waits longest to lock the region
abbrev pub first_waiting : List (List ℕ) → ℕ → Option ℕ
first_waiting queues region = slice_get (queue_of queues region) 0

-- without the one that goes on
abbrev pub queue_but : List ℕ → Option ℕ → List ℕ
queue_but queue None = queue
queue_but queue (Some who) = others itself queue who

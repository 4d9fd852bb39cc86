-- Where the logs of instances stand, and how far each was followed.
use Rattle.std.specs.Prelude.{◌≡◌, ◌⊎◌, ℕ, suc, ◌+◌, ◌≤◌, List, [], ◌∷◌, Bool, true, false, ◌==◌, if◌then◌else◌, Some, None, option_map, All, length, slice_get, slice_set, slice_index_or}
use Rattle.std.specs.List.{list_all}
use Rattle.std.specs.declared.option.Option.{Option}
use Rattle.kernel_base.specs.declared.event.Event.{Event}
use Rattle.worker_pool.specs.declared.log.Log.{Log}
use Rattle.worker_pool.specs.Gather.{are_apart, has_log, who_of, HasItsEvents, birth_of, IsBornAs}
use Rattle.world_model.specs.Journal.{Birth, births_by}
use Rattle.worker_pool.specs.declared.log_births.Start.{Start}

-- the place of the first log of an instance
abbrev pub log_place : List Log → ℕ → Option ℕ
log_place [] who = None
log_place (log ∷ logs) who = if log.instance == who then Some 0 else option_map suc (log_place logs who)

-- No instance has two logs, and this tells the place of each instance's.
pub record HasPlaces (logs : List Log) (find : ℕ → Option ℕ) : Type 0 where
  pub once : are_apart logs ≡ true
  pub place : (who : ℕ) → find who ≡ log_place logs who

-- The next event of the instance's log is this one, and is passed.
pub record TakesNext (logs : List Log) (old new : List ℕ) (event : Event) : Type 0 where
  pub place : ℕ
  pub log : Log
  pub at : slice_get logs place ≡ Some log
  pub own : log.instance ≡ who_of event
  pub next : slice_get log.events (slice_index_or old place 0) ≡ Some event
  pub passed : new ≡ slice_set old place (slice_index_or old place 0 + 1)

-- The next event of the instance's log is another, or there is none.
pub record Differs (logs : List Log) (nexts : List ℕ) (event : Event) : Type 0 where
  pub place : ℕ
  pub log : Log
  pub at : slice_get logs place ≡ Some log
  pub own : log.instance ≡ who_of event
  pub other : slice_get log.events (slice_index_or nexts place 0) ≡ Some event → ⊥

-- The instance has no log, or one that has another event next.
abbrev pub Denies : List Log → List ℕ → Event → Type 0
Denies logs nexts event = (has_log logs (who_of event) ≡ false) ⊎ Differs logs nexts event

-- each log was followed to its end
abbrev pub ArePassed : List Log → List ℕ → Type 0
ArePassed logs nexts = (k : ℕ) (log : Log) → slice_get logs k ≡ Some log → length log.events ≤ slice_index_or nexts k 0

-- Each log has the events of its instance, and each event is of an instance with a log.
pub record HaveEvents (journal : List Event) (logs : List Log) : Type 0 where
  pub own : All (HasItsEvents journal) logs
  pub each : list_all (λ event. has_log logs (who_of event)) journal ≡ true

-- how an instance is started
abbrev pub birth_with : Start → Birth
birth_with start = record { process = start.process; arguments = start.scalars.now }

-- An event starts this instance and no other, or none.
abbrev pub Begets : Event → Option Start → Type 0
Begets event None = (i : ℕ) → births_by i event ≡ []
Begets event (Some start) = (i : ℕ) → births_by i event ≡ (if start.instance == i then birth_with start ∷ [] else [])

-- Behind an event each log of an instance that it starts is started, which it wasn't before or the event starts it as the log
-- says; all others are as before.
pub record Admits (logs : List Log) (old new : List Bool) (event : Event) : Type 0 where
  pub started : (k : ℕ) (log : Log) (birth : Birth) → slice_get logs k ≡ Some log → (log.instance ≡ 1 → ⊥) → births_by log.instance event ≡ birth ∷ [] → (slice_index_or new k false ≡ true) × (slice_index_or old k false ≡ false → birth_of log ≡ birth)
  pub others : (k : ℕ) (log : Log) → slice_get logs k ≡ Some log → (log.instance ≡ 1 → ⊥) → births_by log.instance event ≡ [] → slice_index_or new k false ≡ slice_index_or old k false
  pub one : (k : ℕ) (log : Log) → slice_get logs k ≡ Some log → (log.instance ≡ 1 → ⊥) → (births_by log.instance event ≡ []) ⊎ ((birth : Birth) × (births_by log.instance event ≡ birth ∷ []))

-- The event starts an instance, which wasn't started before, otherwise than its log says.
pub record Rejects (logs : List Log) (started : List Bool) (event : Event) : Type 0 where
  pub place : ℕ
  pub log : Log
  pub at : slice_get logs place ≡ Some log
  pub inner : log.instance ≡ 1 → ⊥
  pub before : slice_index_or started place false ≡ false
  pub birth : Birth
  pub now : births_by log.instance event ≡ birth ∷ []
  pub other : birth_of log ≡ birth → ⊥

-- each log was started, or is of the outermost process
abbrev pub AreStarted : List Log → List Bool → Type 0
AreStarted logs started = (k : ℕ) (log : Log) → slice_get logs k ≡ Some log → ((log.instance ≡ 1) × (birth_of log ≡ record { process = 0; arguments = [] })) ⊎ ((log.instance ≡ 1 → ⊥) × (slice_index_or started k false ≡ true))

abbrev pub HaveBirths : List Event → List Log → Type 0
HaveBirths journal logs = All (IsBornAs journal) logs

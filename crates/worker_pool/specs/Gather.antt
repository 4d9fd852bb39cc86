-- The logs of the workers beside the journal.
use Rattle.std.specs.Prelude.{◌≡◌, ℕ, List, [], ◌∷◌, Bool, true, not, ◌&&◌, ◌==◌, if◌then◌else◌, All, IsSome, Some, map}
use Rattle.std.specs.List.{list_any, list_all}
use Rattle.kernel_base.specs.declared.facts.Facts.{Facts}
use Rattle.kernel_base.specs.declared.event.Event.{Event}
use Rattle.kernel_base.specs.declared.event.Event.TheVariants.{Did, Waits, Goes, Runs}
use Rattle.world_model.specs.Journal.{Birth, born_of}
use Rattle.world_model.specs.Over.{over_of}
use Rattle.serial_run.specs.declared.runner.Runner.{Runner}
use Rattle.worker_pool.specs.declared.log.Log.{Log}
use Rattle.worker_pool.specs.declared.pool.Pool.{Pool}

-- whose event it is
abbrev pub who_of : Event → ℕ
who_of (Did who ticks request answer refill) = who
who_of (Waits who ticks request) = who
who_of (Goes who answer) = who
who_of (Runs who ticks) = who

-- the events of one instance, in order
abbrev pub events_of : ℕ → List Event → List Event
events_of who [] = []
events_of who (event ∷ events) = if who_of event == who then event ∷ events_of who events else events_of who events

-- the log has the events of its instance
abbrev pub HasItsEvents : List Event → Log → Type 0
HasItsEvents journal log = log.events ≡ events_of log.instance journal

abbrev pub birth_of : Log → Birth
birth_of log = record { process = log.process; arguments = log.scalars }

-- its instance was born with the log's process and arguments
abbrev pub IsBornAs : List Event → Log → Type 0
IsBornAs journal log = born_of log.instance journal ≡ Some (birth_of log)

abbrev pub IsOfJournal : List Event → Log → Type 0
IsOfJournal journal log = HasItsEvents journal log × IsBornAs journal log

abbrev pub has_log : List Log → ℕ → Bool
has_log logs who = list_any (λ log. log.instance == who) logs

-- no instance has two logs
abbrev pub are_apart : List Log → Bool
are_apart [] = true
are_apart (log ∷ logs) = not (has_log logs log.instance) && are_apart logs

-- Each log has the events of its instance, which was born as the log says; no instance has two logs, and each with an event has
-- one.
pub record Agrees (journal : List Event) (logs : List Log) : Type 0 where
  pub own : All (IsOfJournal journal) logs
  pub once : are_apart logs ≡ true
  pub each : list_all (λ event. has_log logs (who_of event)) journal ≡ true

-- The kernel was made from these facts, the run is over, and the logs agree with its journal.
pub record Gathers (facts : Facts) (pool : Pool) : Type 0 where
  pub same : pool.kernel.facts ≡ facts
  pub over : IsSome (over_of pool.kernel.facts pool.kernel.events)
  pub agrees : Agrees pool.kernel.events pool.workers

-- the machine of a log
abbrev pub runner_of : Log → Runner
runner_of log = record { instance = log.instance; machine = log.machine }

abbrev pub machines_of : List Log → List Runner
machines_of logs = map runner_of logs

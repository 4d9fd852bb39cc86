-- The logs that a worker keeps.
use Rattle.std.specs.Prelude.{All}
use Rattle.code_types.specs.declared.code.Code.{Code}
use Rattle.machine_steps.specs.Views.{state_of}
use Rattle.code_machine.specs.Running.{IsUp}
use Rattle.worker_pool.specs.declared.log.Log.{Log}
use Rattle.worker_pool.specs.declared.worker.Worker.{Worker}
use Rattle.worker_pool.specs.declared.desk.Outcome.{Outcome}
use Rattle.worker_pool.specs.declared.desk.Outcome.TheVariants.{Noted, Over, Stranger}
use Rattle.worker_pool.specs.Logs.{IsCurrent, IsLog, MayNote}

-- a process can go
pub record IsReady (code : Code) (log : Log) : Type 0 where
  pub current : IsCurrent code log
  pub up : IsUp (state_of log.machine).mode

-- the logs of a worker
pub record HasLogs (code : Code) (worker : Worker) : Type 0 where
  pub ready : All (IsReady code) worker.ready.items
  pub waiting : All (IsCurrent code) worker.waiting.items
  pub done : All (IsLog code) worker.done.items

-- what a burst came to may be noted in the log, or the log stays as it is
abbrev pub MayTake : Code → Log → Outcome → Type 0
MayTake code log (Noted event) = MayNote code log event
MayTake code log Over = IsLog code log
MayTake code log Stranger = IsLog code log

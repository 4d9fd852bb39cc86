-- What the workers of a run leave.
use Rattle.std.specs.Prelude.{All}
use Rattle.code_types.specs.declared.code.Code.{Code}
use Rattle.serial_run.specs.Coming.{WasOpen}
use Rattle.worker_pool.specs.declared.pool.Pool.{Pool}
use Rattle.worker_pool.specs.Logs.{IsLog}

-- Each log is one of this code, and the run wasn't over before any event but a going on.
pub record IsPool (code : Code) (pool : Pool) : Type 0 where
  pub logs : All (IsLog code) pool.workers
  pub was_open : WasOpen pool.kernel.facts pool.kernel.events

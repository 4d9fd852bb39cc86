use Rattle.std.proofs.Common.{subst, sym, All}
use Rattle.worker_pool.specs.Logs.{IsLog}
use Rattle.worker_pool.proofs.pool.run_pool.Goals as goal

pub returns : goal.returns
returns g c = record { logs = subst (All (IsLog c.args.guarded.now)) (sym c.from_vec.ensures) c.in_ok-logs.ensures; was_open = c.into_kernel.ensures }

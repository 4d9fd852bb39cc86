use Rattle.std.proofs.Common.{◌≡◌, All}
use Rattle.worker_pool.specs.Logs.{IsLog}
use Rattle.worker_pool.proofs.pool.fn.run_workers.scope.Given as goal

-- what was gathered are logs of this code, and each thread has promised that of its own
abbrev pub invariant-loop-worker : goal.invariant-loop-worker
invariant-loop-worker g l = All (IsLog l.guarded.now) l.all.items × All (λ child. child.promise.0.now ≡ l.guarded.now) l.children.items

use Rattle.std.proofs.Common.{◌≡◌, All, vec_len}
use Rattle.worker_pool.specs.Logs.{IsLog}
use Rattle.worker_pool.proofs.pool.join_all.Given as goal

-- what was gathered are logs of this code, and the threads that are left have promised that of theirs
abbrev pub invariant-rest : goal.invariant-rest
invariant-rest g l = All (IsLog l.guarded) l.all.items × All (λ child. child.promise.0.now ≡ l.guarded) l.children.items

abbrev pub decreases-rest : goal.decreases-rest
decreases-rest g l = vec_len l.children

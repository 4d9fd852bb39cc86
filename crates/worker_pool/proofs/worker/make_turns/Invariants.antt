use Rattle.worker_pool.specs.Keeping.{HasLogs}
use Rattle.worker_pool.proofs.worker.make_turns.Given as goal

-- the logs are of the code between two turns
abbrev pub invariant-turns : goal.invariant-turns
invariant-turns g l = (goal.iterator-turns g).can_next l.iterator' × (goal.iterator-turns g).is_finite l.iterator' × HasLogs l.guarded l.worker

use Rattle.code_types.specs.declared.code.Code.{Code}
use Rattle.worker_pool.specs.Keeping.{HasLogs}
use Rattle.worker_pool.proofs.worker.take_last.Given as goal

-- the logs stay of each code of which they were
abbrev pub invariant-answers : goal.invariant-answers
invariant-answers g l = (goal.iterator-answers g).can_next l.iterator' × (goal.iterator-answers g).is_finite l.iterator' × ((code : Code) → HasLogs code l.fn.worker → HasLogs code l.worker)

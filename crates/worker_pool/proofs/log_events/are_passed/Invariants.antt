use Rattle.std.proofs.Common.{◌≡◌, ℕ, ◌<◌, ◌≤◌, Some, length, slice_get}
use Rattle.std.specs.Prelude.{slice_index_or}
use Rattle.worker_pool.specs.declared.log.Log.{Log}
use Rattle.worker_pool.proofs.log_events.are_passed.Given as goal

-- the first logs were followed to their ends
abbrev pub invariant-loop-place : goal.invariant-loop-place
invariant-loop-place l = (k : ℕ) (log : Log) → k < l.place → slice_get l.logs k ≡ Some log → length log.events ≤ slice_index_or l.nexts k 0

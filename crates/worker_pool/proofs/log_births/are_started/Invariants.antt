use Rattle.std.proofs.Common.{◌≡◌, ◌⊎◌, ℕ, ◌<◌, [], Some, true, false, slice_get}
use Rattle.std.specs.Prelude.{slice_index_or}
use Rattle.worker_pool.specs.declared.log.Log.{Log}
use Rattle.worker_pool.specs.Gather.{birth_of}
use Rattle.worker_pool.proofs.log_births.are_started.Given as goal

-- the first logs were started, or are of the outermost process
abbrev pub invariant-loop-place : goal.invariant-loop-place
invariant-loop-place l = (k : ℕ) (log : Log) → k < l.place → slice_get l.logs k ≡ Some log → ((log.instance ≡ 1) × (birth_of log ≡ record { process = 0; arguments = [] })) ⊎ ((log.instance ≡ 1 → ⊥) × (slice_index_or l.started k false ≡ true))

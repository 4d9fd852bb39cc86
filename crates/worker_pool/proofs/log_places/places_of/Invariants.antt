use Rattle.std.proofs.Common.{◌≡◌, ℕ, true, nat_eq, take}
use Rattle.std.specs.HashMap.{get}
use Rattle.worker_pool.specs.Gather.{are_apart}
use Rattle.worker_pool.specs.LogPlaces.{log_place}
use Rattle.worker_pool.proofs.log_places.places_of.Given as goal

-- the places of the first logs
abbrev pub invariant-loop-place : goal.invariant-loop-place
invariant-loop-place l = record {
  once : are_apart (take l.place l.logs) ≡ true;
  place : (who : ℕ) → get nat_eq l.places who ≡ log_place (take l.place l.logs) who;
}

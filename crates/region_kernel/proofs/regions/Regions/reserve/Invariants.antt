use Rattle.std.proofs.Common.{◌≡◌, ℕ, ◌<◌, map, slice_get, Some}
use Rattle.region_kernel.specs.Regions.{AreFit, Queue, items_of}
use Rattle.region_kernel.proofs.Queues.{IsFit}
use Rattle.region_kernel.proofs.regions.Regions.reserve.Given as goal

abbrev pub invariant-loop-region : goal.invariant-loop-region
invariant-loop-region l = record {
  queues : map items_of l.self-inside.queues.items ≡ map items_of l.initial.self-inside.queues.items;
  fit : AreFit l.self-inside.room l.self-inside.queues.items;
  more : (k : ℕ) (q : Queue) → k < l.region → slice_get l.self-inside.queues.items k ≡ Some q → IsFit l.n q;
  same : l.self-inside.room ≡ l.initial.self-inside.room;
  occupants : l.self-inside.occupants ≡ l.initial.self-inside.occupants;
  locks : l.self-inside.locks ≡ l.initial.self-inside.locks;
}

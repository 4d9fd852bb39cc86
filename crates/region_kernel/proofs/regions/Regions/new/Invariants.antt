use Rattle.std.proofs.Common.{◌≡◌, [], None, map, replicate}
use Rattle.region_kernel.specs.Regions.{AreFit, items_of}
use Rattle.region_kernel.proofs.regions.Regions.new.Given as goal

abbrev pub invariant-loop : goal.invariant-loop
invariant-loop l = (l.occupants.items ≡ replicate l.counter None) × (map items_of l.queues.items ≡ replicate l.counter []) × AreFit 0 l.queues.items

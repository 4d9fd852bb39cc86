use Rattle.region_kernel.proofs.Queues.{all_empty}
use Rattle.region_kernel.proofs.regions.Regions.new.Goals as goal

pub invariant_of-result : goal.invariant_of-result
invariant_of-result c = (c.loop.invariant.2, rw (c.loop.invariant.0, c.loop.invariant.1) (all_empty c.loop.counter))

use Rattle.std.proofs.Common.{ℕ, subst}
use Rattle.kernel_lists.specs.Once.{AreOnce}
use Rattle.region_kernel.specs.Regions.{AreAlone, SeenRegions, itself, queue_of}
use Rattle.region_kernel.proofs.Queues.{once_at}
use Rattle.region_kernel.proofs.regions.Regions.each_once.Goals as goal

pub returns-clause-once : goal.returns-clause-once
returns-clause-once c = subst (λ (r : SeenRegions). (region : ℕ) → AreOnce itself (queue_of r.queues region)) c.self.view_is (λ region. once_at c.self.inside.occupants.items _ region c.self.invariant.1)

pub returns-clause-alone : goal.returns-clause-alone
returns-clause-alone c = subst (λ (r : SeenRegions). AreAlone r.queues) c.self.view_is c.self.invariant.1.alone

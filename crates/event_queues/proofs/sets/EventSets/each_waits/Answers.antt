use Rattle.std.proofs.Common.{subst}
use Rattle.wait_queues.specs.Waiting.{AreOrdered}
use Rattle.event_queues.specs.Delayed.{Sets}
use Rattle.event_queues.proofs.sets.EventSets.each_waits.Goals as goal

pub returns-clause-order : goal.returns-clause-order
returns-clause-order c = subst (λ (s : Sets). AreOrdered s.waiting) c.self.view_is c.in_order.ensures

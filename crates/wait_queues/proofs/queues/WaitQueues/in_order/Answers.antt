use Rattle.std.proofs.Common.{subst}
use Rattle.wait_queues.specs.Waiting.{AreOrdered, SeenQueues}
use Rattle.wait_queues.proofs.queues.WaitQueues.in_order.Goals as goal

pub returns : goal.returns
returns c = subst (λ (s : SeenQueues). AreOrdered s.waiting) c.self.view_is c.self.invariant.1

use Rattle.std.proofs.Common.{ℕ, subst}
use Rattle.value_queues.specs.Queues.{SeenQueues, AreInOrder, values_in}
use Rattle.value_queues.proofs.Ordered.{ordered_at}
use Rattle.value_queues.proofs.queues.ValueQueues.in_order.Goals as goal

pub returns : goal.returns
returns c = subst (λ (s : SeenQueues). (buffer : ℕ) → AreInOrder (values_in s.values buffer)) c.self.view_is (ordered_at c.self.inside.room c.self.inside.queues.items c.self.invariant)

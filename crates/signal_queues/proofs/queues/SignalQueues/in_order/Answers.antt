use Rattle.std.proofs.Common.{◌≡◌, ℕ, map, subst}
use Rattle.world_model.specs.declared.world.PendingSignal.{PendingSignal}
use Rattle.value_queues.specs.Queues.{AreInOrder}
use Rattle.signal_queues.specs.Pending.{IsThere, SeenPending, pending_in, queue_of, value_of}
use Rattle.signal_queues.proofs.Kept.{each_of, ordered_at, own_of}
use Rattle.signal_queues.proofs.queues.SignalQueues.in_order.Goals as goal

pub returns-clause-order : goal.returns-clause-order
returns-clause-order c = subst (λ (s : SeenPending). (signal : ℕ) → AreInOrder (map value_of (queue_of s.queues signal))) c.self.view_is (ordered_at c.self.inside.room c.self.inside.queues.items c.self.invariant.0)

pub returns-clause-own : goal.returns-clause-own
returns-clause-own c = subst (λ (s : SeenPending). (signal : ℕ) (x : PendingSignal) → IsThere (queue_of s.queues signal) x → (x.signal ≡ signal) × IsThere (pending_in s) x) c.self.view_is (own_of c.self.inside.room c.self.inside.last c.self.inside.queues.items c.self.invariant.0 c.self.invariant.1)

pub returns-clause-each : goal.returns-clause-each
returns-clause-each c = subst (λ (s : SeenPending). (x : PendingSignal) → IsThere (pending_in s) x → IsThere (queue_of s.queues x.signal) x) c.self.view_is (each_of c.self.inside.room c.self.inside.last c.self.inside.queues.items c.self.invariant.0)

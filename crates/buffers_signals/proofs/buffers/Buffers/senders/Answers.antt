use Rattle.std.proofs.Common.{List, ap, subst, sym, ◌∙◌}
use Rattle.std.specs.Option.{option_and_then}
use Rattle.kernel_lists.specs.Once.{entry_of}
use Rattle.wait_queues.specs.declared.waiters.Waiter.{Waiter}
use Rattle.wait_queues.specs.Waiting.{AreInOrder, waiter_of}
use Rattle.buffers_signals.specs.Arrivals.{priority_of, sends_at, waits_at}
use Rattle.buffers_signals.specs.Buffers.{SeenBuffers}
use Rattle.buffers_signals.specs.Lists.{sender_of}
use Rattle.buffers_signals.proofs.Arrivals.{queue_entry, queue_order}
use Rattle.buffers_signals.proofs.buffers.Buffers.senders.Goals as goal

pub returns-clause-exactly : goal.returns-clause-exactly
returns-clause-exactly c = λ who.
    ap (λ (ws : List Waiter). entry_of waiter_of ws who) c.at.ensures ∙ queue_entry sender_of priority_of sends_at c.args.buffer c.self.inside.senders.senders who c.self.invariant.well.senders_once
    ∙ ap (λ (v : SeenBuffers). option_and_then (waits_at sender_of priority_of sends_at c.args.buffer) (entry_of sender_of v.senders who)) c.self.view_is

pub returns-clause-order : goal.returns-clause-order
returns-clause-order c = subst (λ (ws : List Waiter). AreInOrder ws) (sym c.at.ensures) (queue_order sender_of priority_of sends_at c.args.buffer c.self.inside.senders.senders)

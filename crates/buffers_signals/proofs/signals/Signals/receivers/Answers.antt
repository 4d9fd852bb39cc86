use Rattle.std.proofs.Common.{List, ap, ◌∙◌}
use Rattle.std.specs.Option.{option_and_then}
use Rattle.kernel_lists.specs.Once.{entry_of}
use Rattle.wait_queues.specs.declared.waiters.Waiter.{Waiter}
use Rattle.wait_queues.specs.Waiting.{waiter_of}
use Rattle.buffers_signals.specs.Arrivals.{no_priority, receives_at, waits_at}
use Rattle.buffers_signals.specs.Signals.{SeenSignals}
use Rattle.buffers_signals.specs.Lists.{receiver_of}
use Rattle.buffers_signals.proofs.Arrivals.{queue_entry}
use Rattle.buffers_signals.proofs.signals.Signals.receivers.Goals as goal

pub returns-clause-exactly : goal.returns-clause-exactly
returns-clause-exactly c = λ who.
    ap (λ (ws : List Waiter). entry_of waiter_of ws who) c.at.ensures ∙ queue_entry receiver_of no_priority receives_at c.args.signal c.self.inside.receivers.receivers who c.self.invariant.once
    ∙ ap (λ (v : SeenSignals). option_and_then (waits_at receiver_of no_priority receives_at c.args.signal) (entry_of receiver_of v.receivers who)) c.self.view_is

use Rattle.std.proofs.Common.{ap, ◌∙◌}
use Rattle.kernel_lists.specs.Once.{entry_of}
use Rattle.buffers_signals.specs.Arrivals.{SeenReceivers}
use Rattle.buffers_signals.specs.Lists.{receiver_of}
use Rattle.buffers_signals.proofs.Arrivals.{keyed_lookup}
use Rattle.buffers_signals.proofs.waiting.Receivers.get.Goals as goal

pub returns : goal.returns
returns c = c.get.ensures.value ∙ keyed_lookup receiver_of c.self.inside.by_who.entries c.args.who c.self.invariant.keyed ∙ ap (λ (v : SeenReceivers). entry_of receiver_of v.receivers c.args.who) c.self.view_is

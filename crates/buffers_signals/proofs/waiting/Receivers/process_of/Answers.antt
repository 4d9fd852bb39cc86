use Rattle.std.proofs.Common.{◌≡◌, Option, Some, None, ap, sym, ◌∙◌}
use Rattle.std.specs.Prelude.{option_copied}
use Rattle.std.specs.Option.{option_map_or}
use Rattle.kernel_lists.specs.Once.{entry_of}
use Rattle.buffers_signals.specs.declared.messages.Receiver.{Receiver}
use Rattle.buffers_signals.specs.Arrivals.{SeenReceivers}
use Rattle.buffers_signals.specs.Lists.{receiver_of}
use Rattle.buffers_signals.proofs.Arrivals.{keyed_lookup}
use Rattle.buffers_signals.proofs.waiting.Receivers.process_of.Goals as goal

pub returns-in-Some : goal.returns-in-Some
returns-in-Some c =
    let found : entry_of receiver_of c.args.self.now.receivers c.args.who ≡ Some c.in-Some.receiver.now =
    sym (ap (λ (v : SeenReceivers). entry_of receiver_of v.receivers c.args.who) c.self.view_is) ∙ sym (keyed_lookup receiver_of c.self.inside.by_who.entries c.args.who c.self.invariant.keyed) ∙ sym c.get.ensures.value ∙ ap (λ o. option_copied o) c.in-Some.is in
    sym (ap (λ (o : Option Receiver). option_map_or (λ r. r.process) o 0) found)

pub returns-in-None : goal.returns-in-None
returns-in-None c =
    let found : entry_of receiver_of c.args.self.now.receivers c.args.who ≡ None =
    sym (ap (λ (v : SeenReceivers). entry_of receiver_of v.receivers c.args.who) c.self.view_is) ∙ sym (keyed_lookup receiver_of c.self.inside.by_who.entries c.args.who c.self.invariant.keyed) ∙ sym c.get.ensures.value ∙ ap (λ o. option_copied o) c.in-None.is in
    sym (ap (λ (o : Option Receiver). option_map_or (λ r. r.process) o 0) found)

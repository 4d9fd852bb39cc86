use Rattle.std.proofs.Common.{◌≡◌, List, Option, Some, ap, sym, ◌∙◌, refl, subst}
use Rattle.std.specs.Prelude.{is_some}
use Rattle.std.specs.Map.{values_of}
use Rattle.std.proofs.lemmas.Option.{same_Some}
use Rattle.kernel_base.specs.declared.request.Alternative.{Alternative}
use Rattle.world_model.specs.Lists.{number_for}
use Rattle.kernel_lists.specs.Once.{entry_of, others}
use Rattle.wait_queues.specs.Waiting.{Leaves}
use Rattle.buffers_signals.specs.declared.messages.Receiver.{Receiver}
use Rattle.buffers_signals.specs.Arrivals.{SeenReceivers, no_priority, receives_at}
use Rattle.buffers_signals.specs.Lists.{receiver_of}
use Rattle.buffers_signals.proofs.Arrivals.{keyed_lookup, listed_take, values_removed}
use Rattle.buffers_signals.proofs.waiting.Receivers.take.Goals as goal

pub unwrap-receiver-requires : goal.unwrap-receiver-requires
unwrap-receiver-requires c =
    let found = ap (λ (v : SeenReceivers). entry_of receiver_of v.receivers c.args.who) c.self.view_is ∙ c.requires.waits in
    ap (λ (o : Option Receiver). is_some o) (c.shift_remove.ensures.value ∙ keyed_lookup receiver_of c.self.inside.by_who.entries c.args.who c.self.invariant.keyed ∙ found)

pub unwrap-requires : goal.unwrap-requires
unwrap-requires c =
    let found = ap (λ (v : SeenReceivers). entry_of receiver_of v.receivers c.args.who) c.self.view_is ∙ c.requires.waits in
    let same : c.unwrap-receiver.result ≡ c.requires.receiver = same_Some c.unwrap-receiver.result c.requires.receiver (sym c.unwrap-receiver.ensures ∙ c.shift_remove.ensures.value ∙ keyed_lookup receiver_of c.self.inside.by_who.entries c.args.who c.self.invariant.keyed ∙ found) in
    ap is_some c.number_for.ensures ∙ ap (λ (xs : List Alternative). is_some (number_for xs c.args.place)) c.as_slice-2.ensures ∙ ap (λ (r : Receiver). is_some (number_for r.things c.args.place)) same ∙ c.requires.listed

pub invariant_of-self : goal.invariant_of-self
invariant_of-self c =
    let found : entry_of receiver_of (values_of c.self.inside.by_who.entries) c.args.who ≡ Some c.unwrap-receiver.result = sym (keyed_lookup receiver_of c.self.inside.by_who.entries c.args.who c.self.invariant.keyed) ∙ sym c.shift_remove.ensures.value ∙ c.unwrap-receiver.ensures in
    let leaves : Leaves c.args.who c.unwrap-receiver.result.things c.self.inside.queues.waiting c.leave.new.self.waiting = subst (λ (xs : List Alternative). Leaves c.args.who xs c.self.inside.queues.waiting c.leave.new.self.waiting) c.as_slice.ensures c.leave.ensures.waiting in
    listed_take receiver_of no_priority receives_at c.self.inside.by_who.entries c.shift_remove.new.self.entries c.self.inside.queues.waiting c.leave.new.self.waiting c.args.who c.unwrap-receiver.result c.unwrap-receiver.result.things c.self.invariant found (λ place. refl) c.shift_remove.ensures.entries leaves

pub returns-clause-taken : goal.returns-clause-taken
returns-clause-taken c =
    let found : entry_of receiver_of (values_of c.self.inside.by_who.entries) c.args.who ≡ Some c.unwrap-receiver.result = sym (keyed_lookup receiver_of c.self.inside.by_who.entries c.args.who c.self.invariant.keyed) ∙ sym c.shift_remove.ensures.value ∙ c.unwrap-receiver.ensures in
    record {
      receiver = c.unwrap-receiver.result;
      was = sym (ap (λ (v : SeenReceivers). entry_of receiver_of v.receivers c.args.who) c.self.view_is) ∙ found;
      listed = ap (λ (xs : List Alternative). number_for xs c.args.place) (sym c.as_slice-2.ensures) ∙ sym c.number_for.ensures ∙ c.unwrap.ensures;
      rest = ap (λ es. values_of es) c.shift_remove.ensures.entries ∙ values_removed receiver_of c.self.inside.by_who.entries c.args.who c.self.invariant.keyed c.self.invariant.once ∙ ap (λ (v : SeenReceivers). others receiver_of v.receivers c.args.who) c.self.view_is;
    }

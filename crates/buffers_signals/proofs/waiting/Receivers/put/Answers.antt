use Rattle.std.proofs.Common.{◌≡◌, List, [], ◌∷◌, ◌++◌, None, ap, ◌∙◌, refl, subst}
use Rattle.std.specs.Prelude.{nat_eq}
use Rattle.std.specs.Map.{lookup, values_of}
use Rattle.indexmap.proofs.CallerLemmas.{insert_entry-new}
use Rattle.kernel_base.specs.declared.request.Alternative.{Alternative}
use Rattle.kernel_lists.specs.Once.{entry_of}
use Rattle.wait_queues.specs.Waiting.{Joins}
use Rattle.buffers_signals.specs.Arrivals.{SeenReceivers, no_priority, receives_at}
use Rattle.buffers_signals.specs.Lists.{receiver_of}
use Rattle.buffers_signals.proofs.Arrivals.{keyed_lookup, listed_put, nowhere, values_push}
use Rattle.buffers_signals.proofs.waiting.Receivers.put.Goals as goal

pub join-requires-clause-nowhere : goal.join-requires-clause-nowhere
join-requires-clause-nowhere c =
    let none = ap (λ (v : SeenReceivers). entry_of receiver_of v.receivers c.args.receiver.who) c.self.view_is ∙ c.requires.once in
    nowhere receiver_of no_priority receives_at c.self.inside.by_who.entries c.self.inside.queues.waiting c.args.receiver.who c.self.invariant none

pub invariant_of-self : goal.invariant_of-self
invariant_of-self c =
    let entries = c.self.inside.by_who.entries in
    let none : entry_of receiver_of (values_of c.self.inside.by_who.entries) c.args.receiver.who ≡ None = ap (λ (v : SeenReceivers). entry_of receiver_of v.receivers c.args.receiver.who) c.self.view_is ∙ c.requires.once in
    let absent : lookup (nat_eq c.args.receiver.who) c.self.inside.by_who.entries ≡ None = keyed_lookup receiver_of c.self.inside.by_who.entries c.args.receiver.who c.self.invariant.keyed ∙ none in
    let more : c.insert.new.self.entries ≡ c.self.inside.by_who.entries ++ (c.args.receiver.who, c.args.receiver) ∷ [] = rw c.unwrap-none.ensures at c.insert.ensures.entries ∙ insert_entry-new nat_eq c.self.inside.by_who c.args.receiver.who c.args.receiver absent in
    let joins : Joins c.args.receiver.who 0 c.args.receiver.things c.self.inside.queues.waiting c.join.new.self.waiting = subst (λ (xs : List Alternative). Joins c.args.receiver.who 0 xs c.self.inside.queues.waiting c.join.new.self.waiting) c.as_slice.ensures c.join.ensures.waiting in
    listed_put receiver_of no_priority receives_at entries c.insert.new.self.entries c.self.inside.queues.waiting c.join.new.self.waiting c.args.receiver c.args.receiver.things c.self.invariant none (λ place. refl) more joins

pub returns-clause-receivers : goal.returns-clause-receivers
returns-clause-receivers c =
    let none : entry_of receiver_of (values_of c.self.inside.by_who.entries) c.args.receiver.who ≡ None = ap (λ (v : SeenReceivers). entry_of receiver_of v.receivers c.args.receiver.who) c.self.view_is ∙ c.requires.once in
    let absent : lookup (nat_eq c.args.receiver.who) c.self.inside.by_who.entries ≡ None = keyed_lookup receiver_of c.self.inside.by_who.entries c.args.receiver.who c.self.invariant.keyed ∙ none in
    let more : c.insert.new.self.entries ≡ c.self.inside.by_who.entries ++ (c.args.receiver.who, c.args.receiver) ∷ [] = rw c.unwrap-none.ensures at c.insert.ensures.entries ∙ insert_entry-new nat_eq c.self.inside.by_who c.args.receiver.who c.args.receiver absent in
    ap (λ es. values_of es) more ∙ values_push receiver_of c.self.inside.by_who.entries c.args.receiver.who c.args.receiver ∙ ap (λ (v : SeenReceivers). v.receivers ++ c.args.receiver ∷ []) c.self.view_is

use Rattle.std.proofs.Common.{◌≡◌, List, [], ◌∷◌, ◌++◌, None, ap, sym, ◌∙◌, refl, subst}
use Rattle.std.specs.Prelude.{nat_eq}
use Rattle.std.specs.Map.{lookup, values_of}
use Rattle.indexmap.proofs.CallerLemmas.{insert_entry-new}
use Rattle.kernel_lists.specs.Once.{entry_of}
use Rattle.buffers_signals.specs.declared.messages.Held.{Held}
use Rattle.buffers_signals.specs.Arrivals.{AreBefore, AreRising, SeenSenders, priority_of, sends_at}
use Rattle.buffers_signals.specs.Lists.{sender_of}
use Rattle.buffers_signals.proofs.Arrivals.{keyed_lookup, listed_put, nowhere, values_push}
use Rattle.buffers_signals.proofs.Firsts.{rising_push}
use Rattle.buffers_signals.proofs.waiting.Senders.put.Goals as goal

pub join-requires-clause-nowhere : goal.join-requires-clause-nowhere
join-requires-clause-nowhere c =
    let none = ap (λ (v : SeenSenders). entry_of sender_of v.senders c.args.held.value.sender) c.self.view_is ∙ c.requires.once in
    nowhere sender_of priority_of sends_at c.self.inside.by_who.entries c.self.inside.queues.waiting c.args.held.value.sender c.self.invariant.0 none

pub invariant_of-self : goal.invariant_of-self
invariant_of-self c =
    let entries = c.self.inside.by_who.entries in
    let none : entry_of sender_of (values_of c.self.inside.by_who.entries) c.args.held.value.sender ≡ None = ap (λ (v : SeenSenders). entry_of sender_of v.senders c.args.held.value.sender) c.self.view_is ∙ c.requires.once in
    let absent : lookup (nat_eq c.args.held.value.sender) c.self.inside.by_who.entries ≡ None = keyed_lookup sender_of c.self.inside.by_who.entries c.args.held.value.sender c.self.invariant.0.keyed ∙ none in
    let more : c.insert.new.self.entries ≡ c.self.inside.by_who.entries ++ (c.args.held.value.sender, c.args.held) ∷ [] = rw c.unwrap-none.ensures at c.insert.ensures.entries ∙ insert_entry-new nat_eq c.self.inside.by_who c.args.held.value.sender c.args.held absent in
    let values : values_of c.insert.new.self.entries ≡ values_of c.self.inside.by_who.entries ++ c.args.held ∷ [] = ap (λ es. values_of es) more ∙ values_push sender_of c.self.inside.by_who.entries c.args.held.value.sender c.args.held in
    let before : AreBefore c.args.held.value.send (values_of c.self.inside.by_who.entries) = subst (λ (v : SeenSenders). AreBefore c.args.held.value.send v.senders) (sym c.self.view_is) c.requires.rising in (
      listed_put sender_of priority_of sends_at entries c.insert.new.self.entries c.self.inside.queues.waiting c.join.new.self.waiting c.args.held (record { thing = c.args.held.buffer; number = c.args.held.value.send } ∷ []) c.self.invariant.0 none (λ place. refl) more c.join.ensures.waiting,
      subst (λ (hs : List Held). AreRising hs) (sym values) (rising_push (values_of entries) c.args.held c.self.invariant.1 before),
    )

pub returns-clause-senders : goal.returns-clause-senders
returns-clause-senders c =
    let none : entry_of sender_of (values_of c.self.inside.by_who.entries) c.args.held.value.sender ≡ None = ap (λ (v : SeenSenders). entry_of sender_of v.senders c.args.held.value.sender) c.self.view_is ∙ c.requires.once in
    let absent : lookup (nat_eq c.args.held.value.sender) c.self.inside.by_who.entries ≡ None = keyed_lookup sender_of c.self.inside.by_who.entries c.args.held.value.sender c.self.invariant.0.keyed ∙ none in
    let more : c.insert.new.self.entries ≡ c.self.inside.by_who.entries ++ (c.args.held.value.sender, c.args.held) ∷ [] = rw c.unwrap-none.ensures at c.insert.ensures.entries ∙ insert_entry-new nat_eq c.self.inside.by_who c.args.held.value.sender c.args.held absent in
    ap (λ es. values_of es) more ∙ values_push sender_of c.self.inside.by_who.entries c.args.held.value.sender c.args.held ∙ ap (λ (v : SeenSenders). v.senders ++ c.args.held ∷ []) c.self.view_is

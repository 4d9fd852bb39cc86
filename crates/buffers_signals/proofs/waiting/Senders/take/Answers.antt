use Rattle.std.proofs.Common.{◌≡◌, List, [], ◌∷◌, Option, Some, ap, sym, ◌∙◌, refl, subst}
use Rattle.std.specs.Prelude.{is_some}
use Rattle.std.specs.Map.{values_of}
use Rattle.kernel_lists.specs.Once.{entry_of, others}
use Rattle.buffers_signals.specs.declared.messages.Held.{Held}
use Rattle.buffers_signals.specs.Arrivals.{AreRising, SeenSenders, priority_of, sends_at}
use Rattle.buffers_signals.specs.Lists.{sender_of}
use Rattle.buffers_signals.proofs.Arrivals.{keyed_lookup, listed_take, values_removed}
use Rattle.buffers_signals.proofs.Firsts.{rising_others}
use Rattle.buffers_signals.proofs.waiting.Senders.take.Goals as goal

pub unwrap-held-requires : goal.unwrap-held-requires
unwrap-held-requires c =
    ap (λ (o : Option Held). is_some o) (c.shift_remove.ensures.value ∙ keyed_lookup sender_of c.self.inside.by_who.entries c.args.who c.self.invariant.0.keyed ∙ ap (λ (v : SeenSenders). entry_of sender_of v.senders c.args.who) c.self.view_is) ∙ c.requires

pub invariant_of-self : goal.invariant_of-self
invariant_of-self c =
    let held = c.unwrap-held.result in
    let found : entry_of sender_of (values_of c.self.inside.by_who.entries) c.args.who ≡ Some c.unwrap-held.result = sym (keyed_lookup sender_of c.self.inside.by_who.entries c.args.who c.self.invariant.0.keyed) ∙ sym c.shift_remove.ensures.value ∙ c.unwrap-held.ensures in
    let values : values_of c.shift_remove.new.self.entries ≡ others sender_of (values_of c.self.inside.by_who.entries) c.args.who = ap (λ es. values_of es) c.shift_remove.ensures.entries ∙ values_removed sender_of c.self.inside.by_who.entries c.args.who c.self.invariant.0.keyed c.self.invariant.0.once in (
      listed_take sender_of priority_of sends_at c.self.inside.by_who.entries c.shift_remove.new.self.entries c.self.inside.queues.waiting c.leave.new.self.waiting c.args.who held (record { thing = held.buffer; number = held.value.send } ∷ []) c.self.invariant.0 found (λ place. refl) c.shift_remove.ensures.entries c.leave.ensures.waiting,
      subst (λ (hs : List Held). AreRising hs) (sym values) (rising_others (values_of c.self.inside.by_who.entries) c.args.who c.self.invariant.1),
    )

pub returns-clause-taken : goal.returns-clause-taken
returns-clause-taken c = sym (ap (λ (v : SeenSenders). entry_of sender_of v.senders c.args.who) c.self.view_is) ∙ sym (keyed_lookup sender_of c.self.inside.by_who.entries c.args.who c.self.invariant.0.keyed) ∙ sym c.shift_remove.ensures.value ∙ c.unwrap-held.ensures

pub returns-clause-rest : goal.returns-clause-rest
returns-clause-rest c = ap (λ es. values_of es) c.shift_remove.ensures.entries ∙ values_removed sender_of c.self.inside.by_who.entries c.args.who c.self.invariant.0.keyed c.self.invariant.0.once ∙ ap (λ (v : SeenSenders). others sender_of v.senders c.args.who) c.self.view_is

use Rattle.std.proofs.Common.{arith, ◌≡◌, ℕ, List, Option, Some, None, length, slice_get, ap, sym, ◌∙◌}
use Rattle.std.specs.Prelude.{◌==◌, is_some, slice_index_or}
use Rattle.std.proofs.lemmas.Bool.{eqb-true}
use Rattle.std.proofs.lemmas.Option.{same_Some, slice_get_within}
use Rattle.kernel_base.specs.declared.answer.Answer.TheVariants.{Got}
use Rattle.kernel_base.specs.declared.request.Alternative.{Alternative}
use Rattle.world_model.specs.Lists.{number_for}
use Rattle.world_model.proofs.ChangedLists.{read_is}
use Rattle.kernel_lists.specs.Once.{entry_of, others}
use Rattle.kernel_lists.proofs.Entries.{found_at, once_others}
use Rattle.wait_queues.specs.declared.waiters.Waiter.{Waiter}
use Rattle.buffers_signals.specs.declared.messages.Held.{Held}
use Rattle.value_queues.specs.Queues.{stored_but}
use Rattle.buffers_signals.specs.Arrivals.{senders_at}
use Rattle.buffers_signals.specs.Lists.{sender_of, times_held}
use Rattle.buffers_signals.specs.Buffers.{SeenBuffers}
use Rattle.buffers_signals.specs.Steps.{values}
use Rattle.buffers_signals.proofs.Choosing.{refills_zero}
use Rattle.buffers_signals.proofs.Distinct.{distinct_fewer, waits_less, only_offered}
use Rattle.buffers_signals.proofs.buffers.Buffers.take_offered.Goals as goal

abbrev nothing : Alternative
nothing = record { thing = 0; number = 0 }

-- what is found is of the one that is looked for
own_key : (hs : List Held) (who : ℕ) (held : Held) → entry_of sender_of hs who ≡ Some held → held.value.sender ≡ who
own_key hs who held found = eqb-true held.value.sender who (found_at (λ (h : Held). h.value.sender == who) hs held found).1

place_of : (hs : List Held) (who : ℕ) (held : Held) → entry_of sender_of hs who ≡ Some held → (k : ℕ) × (slice_get hs k ≡ Some held)
place_of hs who held found = (found_at (λ (h : Held). h.value.sender == who) hs held found).0

pub first-requires : goal.first-requires
first-requires c =
    let low = slice_get_within c.args.buffers.now c.args.place c.requires.offer.listed c.requires.offer.at in
    let there = c.requires.there c.args.place nothing low in
    let lengths = ap (λ (v : SeenBuffers). length v.lengths) c.self.view_is in
    omega (arith, there, lengths, c.self.invariant.sending)

pub unwrap-first-requires : goal.unwrap-first-requires
unwrap-first-requires c =
    let offer = c.requires.offer in
    let listed : slice_index_or c.args.buffers.now c.args.place nothing ≡ c.requires.offer.listed = read_is c.args.buffers.now c.args.place nothing offer.listed offer.at in
    ap (λ (o : Option Waiter). is_some o) (c.first.ensures ∙ ap (λ (a : Alternative). slice_get (senders_at a.thing c.self.inside.senders.senders) 0) listed ∙ ap (λ (v : SeenBuffers). slice_get (senders_at c.requires.offer.listed.thing v.senders) 0) c.self.view_is ∙ offer.stands)

pub take-taken-requires : goal.take-taken-requires
take-taken-requires c =
    let offer = c.requires.offer in
    let listed : slice_index_or c.args.buffers.now c.args.place nothing ≡ c.requires.offer.listed = read_is c.args.buffers.now c.args.place nothing offer.listed offer.at in
    let own : c.unwrap-first.result ≡ c.requires.offer.first = same_Some c.unwrap-first.result c.requires.offer.first (sym c.unwrap-first.ensures ∙ c.first.ensures ∙ ap (λ (a : Alternative). slice_get (senders_at a.thing c.self.inside.senders.senders) 0) listed ∙ ap (λ (v : SeenBuffers). slice_get (senders_at c.requires.offer.listed.thing v.senders) 0) c.self.view_is ∙ offer.stands) in
    ap (λ (o : Option Held). is_some o) (ap (λ (w : Waiter). entry_of sender_of c.self.inside.senders.senders w.who) own ∙ ap (λ (v : SeenBuffers). entry_of sender_of v.senders c.requires.offer.first.who) c.self.view_is ∙ offer.found)

pub returns-clause-got : goal.returns-clause-got
returns-clause-got c =
    let now = c.args.self.now in
    let offer = c.requires.offer in
    let held = c.requires.offer.held in
    let taken = c.take-taken.result in
    let choice = c.requires.offer.choice in
    let listed : slice_index_or c.args.buffers.now c.args.place nothing ≡ c.requires.offer.listed = read_is c.args.buffers.now c.args.place nothing offer.listed offer.at in
    let own : c.unwrap-first.result ≡ c.requires.offer.first = same_Some c.unwrap-first.result c.requires.offer.first (sym c.unwrap-first.ensures ∙ c.first.ensures ∙ ap (λ (a : Alternative). slice_get (senders_at a.thing c.self.inside.senders.senders) 0) listed ∙ ap (λ (v : SeenBuffers). slice_get (senders_at c.requires.offer.listed.thing v.senders) 0) c.self.view_is ∙ offer.stands) in
    let found = ap (λ (w : Waiter). entry_of sender_of c.self.inside.senders.senders w.who) own ∙ ap (λ (v : SeenBuffers). entry_of sender_of v.senders c.requires.offer.first.who) c.self.view_is ∙ offer.found in
    let same : c.take-taken.result ≡ c.requires.offer.held = same_Some c.take-taken.result c.requires.offer.held (sym c.take-taken.ensures.taken ∙ found) in
    let number : c.unwrap-alternative.result ≡ c.requires.offer.choice.alternative = same_Some c.unwrap-alternative.result c.requires.offer.choice.alternative
    (sym c.unwrap-alternative.ensures ∙ c.number_for.ensures ∙ ap (λ (h : Held). number_for c.args.buffers.now h.buffer) same ∙ c.requires.offer.choice.listed) in
    let inv = c.self.invariant.well in
    let key : c.requires.offer.held.value.sender ≡ c.unwrap-first.result.who = own_key c.self.inside.senders.senders c.unwrap-first.result.who held found in
    let at = place_of c.self.inside.senders.senders c.unwrap-first.result.who held found in
    let stored : c.self.inside.stored.values ≡ stored_but c.requires.offer.held.value.send c.args.self.now.stored = only_offered c.self.inside.stored.values c.self.inside.senders.senders c.self.inside.last at.0 held inv.distinct inv.senders_once at.1 ∙ ap (λ (v : SeenBuffers). stored_but c.requires.offer.held.value.send v.stored) c.self.view_is in
    let senders = c.take-taken.ensures.rest ∙ ap (λ (p : ℕ). others sender_of c.self.inside.senders.senders p) (sym key) ∙ ap (λ (v : SeenBuffers). others sender_of v.senders held.value.sender) c.self.view_is in
    record {
      taken = held;
      choice = choice;
      is = c.answer_with.ensures ∙ ap (λ (k : ℕ). Got k taken.value.send taken.value.scalars taken.value.sender) number ∙ ap (λ (h : Held). Got choice.alternative h.value.send h.value.scalars h.value.sender) same;
      refills = refills_zero (slice_index_or now.lengths held.buffer None) (stored_but held.value.send now.stored) now.senders c.self.inside.stored.values c.take-taken.new.self.senders held.buffer held.value.sender (Some taken.value.sender) offer.length (ap (λ (h : Held). Some h.value.sender) same) stored senders;
      receivers = ap (λ (v : SeenBuffers). v.receivers) c.self.view_is;
    }

pub unwrap-alternative-requires : goal.unwrap-alternative-requires
unwrap-alternative-requires c =
    let offer = c.requires.offer in
    let listed : slice_index_or c.args.buffers.now c.args.place nothing ≡ c.requires.offer.listed = read_is c.args.buffers.now c.args.place nothing offer.listed offer.at in
    let own : c.unwrap-first.result ≡ c.requires.offer.first = same_Some c.unwrap-first.result c.requires.offer.first (sym c.unwrap-first.ensures ∙ c.first.ensures ∙ ap (λ (a : Alternative). slice_get (senders_at a.thing c.self.inside.senders.senders) 0) listed ∙ ap (λ (v : SeenBuffers). slice_get (senders_at c.requires.offer.listed.thing v.senders) 0) c.self.view_is ∙ offer.stands) in
    let found = ap (λ (w : Waiter). entry_of sender_of c.self.inside.senders.senders w.who) own ∙ ap (λ (v : SeenBuffers). entry_of sender_of v.senders c.requires.offer.first.who) c.self.view_is ∙ offer.found in
    let same : c.take-taken.result ≡ c.requires.offer.held = same_Some c.take-taken.result c.requires.offer.held (sym c.take-taken.ensures.taken ∙ found) in
    ap (λ (o : Option ℕ). is_some o) (c.number_for.ensures ∙ ap (λ (h : Held). number_for c.args.buffers.now h.buffer) same ∙ c.requires.offer.choice.listed)

pub invariant_of-self : goal.invariant_of-self
invariant_of-self c =
    let inv = c.self.invariant.well in
    let stored = c.self.inside.stored.values in
    let at = place_of c.self.inside.senders.senders c.unwrap-first.result.who c.take-taken.result c.take-taken.ensures.taken in
    let key : c.take-taken.result.value.sender ≡ c.unwrap-first.result.who = own_key c.self.inside.senders.senders c.unwrap-first.result.who c.take-taken.result c.take-taken.ensures.taken in
    record {
      well = record {
        senders_once = rw c.take-taken.ensures.rest (once_others sender_of c.self.inside.senders.senders c.unwrap-first.result.who inv.senders_once);
        receivers_once = inv.receivers_once;
        each = inv.each;
        distinct = distinct_fewer (values stored c.self.inside.senders.senders) (values stored c.take-taken.new.self.senders) c.self.inside.last
            (λ send. let less = waits_less c.self.inside.senders.senders at.0 c.take-taken.result inv.senders_once at.1 send in
            let e = ap (times_held send) c.take-taken.ensures.rest in
            let k = ap (λ (p : ℕ). times_held send (others sender_of c.self.inside.senders.senders p)) key in
            omega (arith, less, e, k)) inv.distinct;
      };
      sending = c.take-taken.ensures.places ∙ c.self.invariant.sending;
      receiving = c.self.invariant.receiving;
    }

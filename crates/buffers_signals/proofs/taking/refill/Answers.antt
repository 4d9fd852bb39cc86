use Rattle.std.proofs.Common.{◌≡◌, ℕ, length, length-set, Some, ap, arith, sym, ◌∙◌, slice_get}
use Rattle.std.specs.Prelude.{is_some}
use Rattle.kernel_lists.specs.Once.{others}
use Rattle.kernel_lists.proofs.Entries.{once_others}
use Rattle.buffers_signals.specs.Arrivals.{senders_at}
use Rattle.buffers_signals.specs.Steps.{values}
use Rattle.value_queues.specs.Queues.{times_stored}
use Rattle.buffers_signals.specs.Lists.{sender_of, times_held}
use Rattle.buffers_signals.proofs.Choosing.{refilled, refills_some, not_refilled}
use Rattle.buffers_signals.proofs.Distinct.{placed_more, waits_less}
use Rattle.buffers_signals.proofs.Firsts.{entry_offered, goes_first, offers}
use Rattle.buffers_signals.proofs.taking.refill.Goals as goal

pub take-offer-requires : goal.take-offer-requires
take-offer-requires c =
    let first : slice_get (senders_at c.args.buffer c.args.senders.now.senders) 0 ≡ Some c.in-Some.first = sym c.first.ensures ∙ c.in-Some.is in
    ap is_some (entry_offered c.args.senders.now.senders c.args.buffer c.in-Some.first (offers c.args.senders.now.senders c.args.buffer 0 c.in-Some.first first) c.each_once.ensures.once)

pub returns-in-Some-clause-refills : goal.returns-in-Some-clause-refills
returns-in-Some-clause-refills c =
    let first : slice_get (senders_at c.args.buffer c.args.senders.now.senders) 0 ≡ Some c.in-Some.first = sym c.first.ensures ∙ c.in-Some.is in
    let h = refilled c.args.stored.now.values c.args.senders.now.senders c.put.new.self.values c.take-offer.new.self.senders c.args.buffer c.in-Some.first c.take-offer.result c.each_once.ensures.once c.each_once.ensures.rising c.requires.there first c.take-offer.ensures.taken c.put.ensures.values c.take-offer.ensures.rest in
    λ by. refills_some _ c.in_ok-number_at.field-0 _ _ c.args.buffer by _ (sym c.number_at.ensures ∙ c.in_ok-number_at.was) c.requires.buffered h

pub returns-in-None-clause-refills : goal.returns-in-None-clause-refills
returns-in-None-clause-refills c =
    λ by. not_refilled _ (values c.args.stored.now.values c.args.senders.now.senders) c.args.buffer by c.requires.buffered c.each_once.ensures.rising (sym c.first.ensures ∙ c.in-None.is)

pub returns-in-Some-clause-each : goal.returns-in-Some-clause-each
returns-in-Some-clause-each c = ap length c.put.ensures.values ∙ length-set c.args.stored.now.values c.args.buffer _

pub returns-in-Some-clause-times : goal.returns-in-Some-clause-times
returns-in-Some-clause-times c = λ send.
    (let first : slice_get (senders_at c.args.buffer c.args.senders.now.senders) 0 ≡ Some c.in-Some.first = sym c.first.ensures ∙ c.in-Some.is in
    let g = goes_first c.args.senders.now.senders c.args.buffer c.in-Some.first c.take-offer.result c.each_once.ensures.once c.each_once.ensures.rising first c.take-offer.ensures.taken in
    let stored = ap (times_stored send) c.put.ensures.values in
    let senders = ap (times_held send) c.take-offer.ensures.rest in
    let more = placed_more c.args.stored.now.values c.take-offer.new.self.senders c.args.buffer c.take-offer.result.value c.requires.there send in
    let less = waits_less c.args.senders.now.senders g.there.0 c.take-offer.result c.each_once.ensures.once g.there.1 send in
    let same = ap (λ (p : ℕ). times_held send (others sender_of c.args.senders.now.senders p)) g.who in
    omega (arith, stored, senders, more, less, same))

pub returns-in-Some-clause-once : goal.returns-in-Some-clause-once
returns-in-Some-clause-once c = rw c.take-offer.ensures.rest (once_others sender_of c.args.senders.now.senders c.in-Some.first.who c.each_once.ensures.once)

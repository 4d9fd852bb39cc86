use Rattle.std.proofs.Common.{◌≡◌, ◌<◌, length, length-set, ap, arith, sym, subst, ◌∙◌}
use Rattle.std.specs.List.{find}
use Rattle.std.proofs.lemmas.Option.{same_Some}
use Rattle.world_model.specs.Lists.{number_for}
use Rattle.kernel_lists.specs.Once.{entry_of, others}
use Rattle.kernel_lists.proofs.Entries.{once_others, once_push}
use Rattle.value_queues.specs.Queues.{placed, values_in, times_stored}
use Rattle.buffers_signals.specs.declared.messages.Held.{Held}
use Rattle.buffers_signals.specs.declared.messages.Receiver.{Receiver}
use Rattle.buffers_signals.specs.Lists.{lists, receiver_of, sender_of, times_held}
use Rattle.buffers_signals.specs.Buffers.{SeenBuffers}
use Rattle.buffers_signals.specs.Steps.{values}
use Rattle.buffers_signals.proofs.Distinct.{all_before, distinct_later, distinct_more, placed_more, waits_more}
use Rattle.buffers_signals.proofs.Firsts.{comes_first}
use Rattle.buffers_signals.proofs.buffers.Buffers.send_value.Goals as goal

pub first-requires : goal.first-requires
first-requires c =
    let lengths = ap (λ (v : SeenBuffers). length v.lengths) c.self.view_is in
    omega (arith, c.requires.there, lengths, c.self.invariant.receiving)

pub take-alternative-requires : goal.take-alternative-requires
take-alternative-requires c =
    let first = comes_first c.args.buffer c.self.inside.receivers.receivers c.in-Some.to (lists c.args.buffer) c.each_once.ensures (sym c.in-Some.ensures) in
    record { receiver = first.receiver; waits = first.waits; listed = first.passes }

pub returns-in-Some-clause-sends : goal.returns-in-Some-clause-sends
returns-in-Some-clause-sends c =
    let first = comes_first c.args.buffer c.self.inside.receivers.receivers c.in-Some.to (lists c.args.buffer) c.each_once.ensures (sym c.in-Some.ensures) in
    let taken = c.take-alternative.ensures.taken in
    let same : taken.receiver ≡ first.receiver = same_Some taken.receiver first.receiver (sym taken.was ∙ first.waits) in
    record {
      receiver = first.receiver;
      waits = sym (ap (λ (v : SeenBuffers). find (lists c.args.buffer) v.receivers) c.self.view_is) ∙ first.found;
      who = sym first.own;
      alternative = c.take-alternative.result;
      listed = ap (λ (r : Receiver). number_for r.things c.args.buffer) (sym same) ∙ taken.listed;
      is = c.answer_with.ensures;
      receivers = taken.rest ∙ ap (λ (v : SeenBuffers). others receiver_of v.receivers c.in-Some.to) c.self.view_is;
      stored = ap (λ (v : SeenBuffers). v.stored) c.self.view_is;
      senders = ap (λ (v : SeenBuffers). v.senders) c.self.view_is;
    }

-- handed
pub invariant_of-self : goal.invariant_of-self
invariant_of-self c =
    let inv = c.self.invariant.well in
    let next : c.self.inside.last < c.args.value.send = subst (λ (v : SeenBuffers). v.last < c.args.value.send) (sym c.self.view_is) c.requires.next in
    record {
      well = record {
        senders_once = inv.senders_once;
        receivers_once = rw c.take-alternative.ensures.taken.rest (once_others receiver_of c.self.inside.receivers.receivers c.in-Some.to inv.receivers_once);
        each = inv.each;
        distinct = distinct_later (values c.self.inside.stored.values c.self.inside.senders.senders) c.self.inside.last c.args.value.send (omega (arith, next)) inv.distinct;
      };
      sending = c.self.invariant.sending;
      receiving = c.take-alternative.ensures.places ∙ c.self.invariant.receiving;
    }

-- stored
pub invariant_of-self-then-takes_one_more : goal.invariant_of-self-then-takes_one_more
invariant_of-self-then-takes_one_more c =
    let inv = c.self.invariant.well in
    let stored = c.self.inside.stored.values in
    let senders = c.self.inside.senders.senders in
    let next : c.self.inside.last < c.args.value.send = subst (λ (v : SeenBuffers). v.last < c.args.value.send) (sym c.self.view_is) c.requires.next in
    let low : c.args.buffer < length c.self.inside.lengths = subst (λ (v : SeenBuffers). c.args.buffer < length v.lengths) (sym c.self.view_is) c.requires.there in
    let there : c.args.buffer < length c.self.inside.stored.values = omega (arith, low, inv.each) in
    record {
      well = record {
        senders_once = inv.senders_once;
        receivers_once = inv.receivers_once;
        each = ap length c.put.ensures.values ∙ length-set stored c.args.buffer (placed c.args.value (values_in stored c.args.buffer)) ∙ inv.each;
        distinct = distinct_more (values stored senders) (values c.put.new.self.values senders) c.self.inside.last c.args.value next
            (λ send. let more = placed_more c.self.inside.stored.values c.self.inside.senders.senders c.args.buffer c.args.value there send in let e = ap (times_stored send) c.put.ensures.values in omega (arith, more, e)) inv.distinct;
      };
      sending = c.self.invariant.sending;
      receiving = c.self.invariant.receiving;
    }

-- delayed
pub put-requires-2-clause-once : goal.put-requires-2-clause-once
put-requires-2-clause-once c = ap (λ (v : SeenBuffers). entry_of sender_of v.senders c.args.value.sender) c.self.view_is ∙ c.requires.nothing.sends

pub put-requires-2-clause-rising : goal.put-requires-2-clause-rising
put-requires-2-clause-rising c =
    let next : c.self.inside.last < c.args.value.send = subst (λ (v : SeenBuffers). v.last < c.args.value.send) (sym c.self.view_is) c.requires.next in
    all_before c.self.inside.stored.values c.self.inside.senders.senders c.self.inside.last c.args.value.send c.self.invariant.well.distinct c.self.invariant.well.senders_once next

pub invariant_of-self-2 : goal.invariant_of-self-2
invariant_of-self-2 c =
    let inv = c.self.invariant.well in
    let stored = c.self.inside.stored.values in
    let senders = c.self.inside.senders.senders in
    let held : Held = record { buffer = c.args.buffer; value = c.args.value } in
    let next : c.self.inside.last < c.args.value.send = subst (λ (v : SeenBuffers). v.last < c.args.value.send) (sym c.self.view_is) c.requires.next in
    let none = ap (λ (v : SeenBuffers). entry_of sender_of v.senders c.args.value.sender) c.self.view_is ∙ c.requires.nothing.sends in
    record {
      well = record {
        senders_once = rw c.put-2.ensures.senders (once_push sender_of senders held inv.senders_once none);
        receivers_once = inv.receivers_once;
        each = inv.each;
        distinct = distinct_more (values stored senders) (values stored c.put-2.new.self.senders) c.self.inside.last c.args.value next
            (λ send. let more = waits_more c.self.inside.stored.values c.self.inside.senders.senders (record { buffer = c.args.buffer; value = c.args.value }) send in let e = ap (times_held send) c.put-2.ensures.senders in omega (arith, more, e)) inv.distinct;
      };
      sending = c.put-2.ensures.places ∙ c.self.invariant.sending;
      receiving = c.self.invariant.receiving;
    }

use Rattle.std.proofs.Common.{◌≡◌, ◌<◌, ℕ, List, Option, length, ap, arith, subst, sym, ◌∙◌}
use Rattle.std.specs.List.{find}
use Rattle.std.proofs.lemmas.Option.{same_Some}
use Rattle.world_model.specs.Lists.{number_for}
use Rattle.kernel_lists.specs.Once.{others}
use Rattle.kernel_lists.proofs.Entries.{once_others}
use Rattle.buffers_signals.specs.declared.messages.Receiver.{Receiver}
use Rattle.buffers_signals.specs.Lists.{receiver_of}
use Rattle.buffers_signals.specs.Signals.{SeenSignals, is_receiver}
use Rattle.buffers_signals.proofs.Choosing.{both}
use Rattle.buffers_signals.proofs.Firsts.{comes_first}
use Rattle.buffers_signals.proofs.signals.Signals.send_signal.Goals as goal

pub receiver_for-requires : goal.receiver_for-requires
receiver_for-requires c =
    let wanted = ap (λ (v : SeenSignals). length v.wanted) c.self.view_is in
    let places = c.self.invariant.receiving in omega (arith, c.requires.there, wanted, places)

pub take-alternative-requires : goal.take-alternative-requires
take-alternative-requires c =
    let first = comes_first c.args.signal.signal c.self.inside.receivers.receivers c.in-Some.to (is_receiver c.as_slice-wanted.result.now c.args.signal.signal c.args.signal.to) c.each_once.ensures (sym c.in-Some.ensures) in
    record { receiver = first.receiver; waits = first.waits; listed = (both _ _ first.passes).1 }

pub returns-in-Some-clause-sends : goal.returns-in-Some-clause-sends
returns-in-Some-clause-sends c =
    let wanted = c.as_slice-wanted.ensures ∙ ap (λ (v : SeenSignals). v.wanted) c.self.view_is in
    let first = comes_first c.args.signal.signal c.self.inside.receivers.receivers c.in-Some.to (is_receiver c.as_slice-wanted.result.now c.args.signal.signal c.args.signal.to) c.each_once.ensures (sym c.in-Some.ensures) in
    let taken = c.take-alternative.ensures.taken in
    let same : taken.receiver ≡ first.receiver = same_Some taken.receiver first.receiver (sym taken.was ∙ first.waits) in
    record {
      receiver = first.receiver;
      waits = sym (ap (λ (ws : List (Option ℕ)). find (is_receiver ws c.args.signal.signal c.args.signal.to) c.self.inside.receivers.receivers) wanted ∙ ap (λ (v : SeenSignals). find (is_receiver c.args.self.now.wanted c.args.signal.signal c.args.signal.to) v.receivers) c.self.view_is) ∙ first.found;
      who = sym first.own;
      alternative = c.take-alternative.result;
      listed = ap (λ (r : Receiver). number_for r.things c.args.signal.signal) (sym same) ∙ taken.listed;
      is = c.answer_with.ensures;
      receivers = taken.rest ∙ ap (λ (v : SeenSignals). others receiver_of v.receivers c.in-Some.to) c.self.view_is;
      pending = ap (λ (v : SeenSignals). v.pending) c.self.view_is;
    }

pub invariant_of-self : goal.invariant_of-self
invariant_of-self c =
    let next : c.self.inside.last < c.args.signal.value.send = subst (λ (v : SeenSignals). v.last < c.args.signal.value.send) (sym c.self.view_is) c.requires.next in
    let drawn = c.self.invariant.drawn in
    record {
      once = rw c.take-alternative.ensures.taken.rest (once_others receiver_of c.self.inside.receivers.receivers c.in-Some.to c.self.invariant.once);
      receiving = c.take-alternative.ensures.places ∙ c.self.invariant.receiving;
      pends = c.self.invariant.pends;
      drawn = omega (arith, next, drawn);
    }

pub put-requires-clause-there : goal.put-requires-clause-there
put-requires-clause-there c =
    let wanted = ap (λ (v : SeenSignals). length v.wanted) c.self.view_is in
    let pends = c.self.invariant.pends in
    omega (arith, c.requires.there, wanted, pends)

pub put-requires-clause-next : goal.put-requires-clause-next
put-requires-clause-next c =
    let next : c.self.inside.last < c.args.signal.value.send = subst (λ (v : SeenSignals). v.last < c.args.signal.value.send) (sym c.self.view_is) c.requires.next in
    let drawn = c.self.invariant.drawn in
    omega (arith, next, drawn)

pub invariant_of-self-2 : goal.invariant_of-self-2
invariant_of-self-2 c = record {
  once = c.self.invariant.once;
  receiving = c.self.invariant.receiving;
  pends = c.put.ensures.places ∙ c.self.invariant.pends;
  drawn = let e = c.put.ensures.last in omega (arith, e);
}

use Rattle.std.proofs.Common.{◌≡◌, ℕ, List, [], ◌∷◌, ◌++◌, slice_get, ap, sym, refl, arith, ◌∙◌}
use Rattle.std.proofs.lemmas.Option.{same_Some}
use Rattle.kernel_base.specs.declared.request.Alternative.{Alternative}
use Rattle.kernel_base.specs.declared.answer.Answer.TheVariants.{Got}
use Rattle.world_model.specs.declared.world.PendingSignal.{PendingSignal}
use Rattle.world_model.specs.Lists.{number_for}
use Rattle.world_model.specs.World.{signals_but}
use Rattle.signal_queues.specs.Pending.{pending_in}
use Rattle.kernel_lists.specs.Once.{entry_of}
use Rattle.kernel_lists.proofs.Entries.{once_push}
use Rattle.buffers_signals.specs.declared.messages.Receiver.{Receiver}
use Rattle.buffers_signals.specs.Lists.{receiver_of}
use Rattle.buffers_signals.specs.Signals.{SeenSignals}
use Rattle.buffers_signals.proofs.Pending.{choice_of, none_of}
use Rattle.buffers_signals.proofs.signals.Signals.receive_from.Goals as goal

pub take-taken-requires : goal.take-taken-requires
take-taken-requires c = c.in-Some.ensures.some.within

pub returns-in-Some-clause-receives : goal.returns-in-Some-clause-receives
returns-in-Some-clause-receives c =
    let there = choice_of c.args.self.now c.args.who c.args.process c.args.signals c.as_slice-wanted.result.now c.self.inside.pending c.as_slice.result.now
    (c.as_slice-wanted.ensures ∙ ap (λ (v : SeenSignals). v.wanted) c.self.view_is) (ap (λ (v : SeenSignals). v.pending) c.self.view_is) c.as_slice.ensures c.in-Some.chosen c.in-Some.ensures.some in
    let taken = c.take-taken.result in
    let held = there.signal in
    let same : c.take-taken.result ≡ there.signal = same_Some c.take-taken.result there.signal (sym c.take-taken.ensures.taken ∙ there.at) in
    let number : c.unwrap-alternative.result ≡ there.choice.alternative = same_Some c.unwrap-alternative.result there.choice.alternative
    (sym c.unwrap-alternative.ensures ∙ c.number_for.ensures ∙ ap (λ (xs : List Alternative). number_for xs c.take-taken.result.signal) c.as_slice-in-Some.ensures ∙ ap (λ (s : PendingSignal). number_for c.args.signals s.signal) same ∙ there.choice.listed) in
    record {
      taken = held;
      choice = there.choice;
      is = c.answer_with.ensures ∙ ap (λ (k : ℕ). Got k taken.value.send taken.value.scalars taken.value.sender) number ∙ ap (λ (s : PendingSignal). Got there.choice.alternative s.value.send s.value.scalars s.value.sender) same;
      no_refill = refl;
      pending = c.take-taken.ensures.pending ∙ ap (λ (s : PendingSignal). signals_but s.value.send (pending_in c.self.inside.pending)) same ∙ ap (λ (v : SeenSignals). signals_but held.value.send v.pending) c.self.view_is;
      receivers = ap (λ (v : SeenSignals). v.receivers) c.self.view_is;
    }

pub invariant_of-self : goal.invariant_of-self
invariant_of-self c = record {
  once = c.self.invariant.once;
  receiving = c.self.invariant.receiving;
  pends = c.take-taken.ensures.places ∙ c.self.invariant.pends;
  drawn = let e = c.take-taken.ensures.last in let f = c.self.invariant.drawn in omega (arith, e, f);
}

pub returns-then-otherwise-clause-receives : goal.returns-then-otherwise-clause-receives
returns-then-otherwise-clause-receives c =
    record {
      nothing = none_of c.args.self.now c.args.who c.args.process c.args.signals c.as_slice-wanted.result.now c.self.inside.pending c.as_slice.result.now
          (c.as_slice-wanted.ensures ∙ ap (λ (v : SeenSignals). v.wanted) c.self.view_is) (ap (λ (v : SeenSignals). v.pending) c.self.view_is) c.as_slice.ensures c.in_default.ensures.none;
      written = c.if-otherwise.true;
      pending = refl;
      receivers = refl;
    }

pub put-requires-clause-once : goal.put-requires-clause-once
put-requires-clause-once c = ap (λ (v : SeenSignals). entry_of receiver_of v.receivers c.args.who) c.self.view_is ∙ c.requires.nothing

pub invariant_of-self-2 : goal.invariant_of-self-2
invariant_of-self-2 c =
    let none = ap (λ (v : SeenSignals). entry_of receiver_of v.receivers c.args.who) c.self.view_is ∙ c.requires.nothing in
    record {
      once = rw c.put.ensures.receivers (once_push receiver_of c.self.inside.receivers.receivers (record { who = c.args.who; process = c.args.process; things = c.args.signals }) c.self.invariant.once none);
      receiving = c.put.ensures.places ∙ c.self.invariant.receiving;
      pends = c.self.invariant.pends;
      drawn = c.self.invariant.drawn;
    }

pub returns-clause-receives : goal.returns-clause-receives
returns-clause-receives c =
    let more : Receiver = record { who = c.args.who; process = c.args.process; things = c.args.signals } in
    record {
      nothing = none_of c.args.self.now c.args.who c.args.process c.args.signals c.as_slice-wanted.result.now c.self.inside.pending c.as_slice.result.now
          (c.as_slice-wanted.ensures ∙ ap (λ (v : SeenSignals). v.wanted) c.self.view_is) (ap (λ (v : SeenSignals). v.pending) c.self.view_is) c.as_slice.ensures c.in_default.ensures.none;
      not_written = c.if-otherwise.false;
      receivers = c.put.ensures.receivers ∙ ap (λ (v : SeenSignals). v.receivers ++ more ∷ []) c.self.view_is;
      pending = ap (λ (v : SeenSignals). v.pending) c.self.view_is;
    }

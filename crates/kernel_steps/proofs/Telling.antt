-- The pending signals, those that wait for signals, and the world.
use Rattle.std.proofs.Common.{◌≡◌, ℕ, ◌≤◌, Bool, true, false, List, refl, sym, ap, ◌∙◌, inl, inr, arith, Option, Some, None, slice_get, subst}
use Rattle.std.specs.Prelude.{◌&&◌, slice_index_or, is_some, IsTrue, IsFalse, IsSome}
use Rattle.std.specs.Option.{option_and_then}
use Rattle.std.proofs.lemmas.Bool.{cases_Bool}
use Rattle.std.proofs.lemmas.Bool.Decides.{nat_tests}
use Rattle.kernel_base.specs.declared.facts.Facts.{Facts}
use Rattle.kernel_base.specs.declared.request.Alternative.{Alternative}
use Rattle.kernel_base.specs.declared.request.Request.TheVariants.{Read, Write, Enter, Leave, Delay, Continue, SendBuffer, ReceiveBuffer, SendSignal, ReceiveSignal, Start, Put, Get, End}
use Rattle.world_model.specs.declared.world.Phase.{Phase}
use Rattle.world_model.specs.declared.world.Phase.TheVariants.{Active, Waiting, Chosen, Ended}
use Rattle.world_model.specs.declared.world.PendingSignal.{PendingSignal}
use Rattle.world_model.specs.declared.world.World.{World}
use Rattle.world_model.specs.declared.waiting.Waiter.{Waiter}
use Rattle.world_model.specs.Lists.{number_for}
use Rattle.world_model.specs.Waiting as worlds
use Rattle.world_model.specs.Waiting.{phase_of, waiter_for, signal_receiver_in, signal_receiver}
use Rattle.world_model.specs.Allowed.{NobodyMayReceive, IsPendingFor, TakesSignal, NoSignalPends}
use Rattle.kernel_lists.specs.declared.best.Rank.{Rank}
use Rattle.kernel_lists.specs.Best.{precedes_in}
use Rattle.kernel_lists.specs.Once.{entry_of}
use Rattle.kernel_lists.proofs.Entries.{found_at, none_passes}
use Rattle.buffers_signals.specs.declared.messages.Receiver.{Receiver}
use Rattle.buffers_signals.specs.Lists.{receiver_of, lists}
use Rattle.value_queues.specs.Queues.{rank_of}
use Rattle.buffers_signals.specs.Signals.{SeenSignals, may_receive, is_receiver, receiver_for, IsFor, NoneFor, IsChoice}
use Rattle.kernel_steps.specs.Queued.{hearing_in, Hears}
use Rattle.kernel_steps.proofs.Keyed.{found_there}

-- who may receive a signal, by the part and by the world
pub may_same : (facts : Facts) (w : World) (wanted : List (Option ℕ)) (signal : ℕ) (to : Option ℕ) (who : ℕ) → wanted ≡ facts.signals → may_receive wanted signal to who (slice_index_or w.processes who 0) ≡ worlds.may_receive facts w signal to who
may_same facts w wanted signal None who is = ap (λ (l : List (Option ℕ)). worlds.is_process (slice_index_or l signal None) (slice_index_or w.processes who 0)) is
may_same facts w wanted signal (Some to) who is = refl

both_true : (a b : Bool) → (a && b) ≡ true → (a ≡ true) × (b ≡ true)
both_true true true is = (refl, refl)
both_true true false is = absurd (let f : ⊥ = cc in f)
both_true false b is = absurd (let f : ⊥ = cc in f)

-- what a phase tells of one that waits for signals
pub record Hearing (w : World) (r : Receiver) : Type 0 where
  pub otherwise : Bool
  pub send : Option ℕ
  pub back : Option ℕ
  pub is : phase_of w r.who ≡ Some (Waiting (ReceiveSignal r.things otherwise) send back)
  pub process : r.process ≡ slice_index_or w.processes r.who 0

hears_by_phase : (w : World) (who : ℕ) (r : Receiver) (phase : Phase) → phase_of w who ≡ Some phase → hearing_in w.processes who phase ≡ Some r → Hearing w r
hears_by_phase w who r (Waiting (ReceiveSignal signals otherwise) send back) at told =
    let e : record { who = who; process = slice_index_or w.processes who 0; things = signals } ≡ r = cc in
    record {
      otherwise = otherwise;
      send = send;
      back = back;
      is = ap (λ (x : Receiver). phase_of w x.who) (sym e) ∙ at ∙ ap (λ (x : Receiver). Some (Waiting (ReceiveSignal x.things otherwise) send back)) e;
      process = ap (λ (x : Receiver). x.process) (sym e) ∙ ap (λ (x : Receiver). slice_index_or w.processes x.who 0) e;
    }
hears_by_phase w who r (Waiting (Read place) send back) at told = absurd (let f : ⊥ = cc in f)
hears_by_phase w who r (Waiting (Write place scalars) send back) at told = absurd (let f : ⊥ = cc in f)
hears_by_phase w who r (Waiting (Enter region) send back) at told = absurd (let f : ⊥ = cc in f)
hears_by_phase w who r (Waiting (Leave region) send back) at told = absurd (let f : ⊥ = cc in f)
hears_by_phase w who r (Waiting (Delay events priority) send back) at told = absurd (let f : ⊥ = cc in f)
hears_by_phase w who r (Waiting (Continue event) send back) at told = absurd (let f : ⊥ = cc in f)
hears_by_phase w who r (Waiting (SendBuffer buffer scalars priority) send back) at told = absurd (let f : ⊥ = cc in f)
hears_by_phase w who r (Waiting (ReceiveBuffer buffers otherwise) send back) at told = absurd (let f : ⊥ = cc in f)
hears_by_phase w who r (Waiting (SendSignal signal scalars to priority) send back) at told = absurd (let f : ⊥ = cc in f)
hears_by_phase w who r (Waiting (Start process scalars) send back) at told = absurd (let f : ⊥ = cc in f)
hears_by_phase w who r (Waiting (Put bytes) send back) at told = absurd (let f : ⊥ = cc in f)
hears_by_phase w who r (Waiting Get send back) at told = absurd (let f : ⊥ = cc in f)
hears_by_phase w who r (Waiting (End how) send back) at told = absurd (let f : ⊥ = cc in f)
hears_by_phase w who r Active at told = absurd (let f : ⊥ = cc in f)
hears_by_phase w who r (Chosen answer back) at told = absurd (let f : ⊥ = cc in f)
hears_by_phase w who r (Ended how) at told = absurd (let f : ⊥ = cc in f)

hears_at : (w : World) (who : ℕ) (r : Receiver) (phase : Option Phase) → phase_of w who ≡ phase → option_and_then (hearing_in w.processes who) phase ≡ Some r → Hearing w r
hears_at w who r None at told = absurd (let f : ⊥ = cc in f)
hears_at w who r (Some phase) at told = hears_by_phase w who r phase at told

pub hearer_waits : (facts : Facts) (w : World) (s : SeenSignals) (k : ℕ) (r : Receiver) → slice_get s.receivers k ≡ Some r → Hears facts w s → Hearing w r
hearer_waits facts w s k r at h = hears_at w r.who r (phase_of w r.who) refl (sym (h.receivers.each r.who) ∙ h.receivers.once k r at)

-- the first receiver may be handed the signal
pub record MayHear (facts : Facts) (w : World) (signal : ℕ) (to : Option ℕ) (r : Receiver) (alternative : ℕ) : Type 0 where
  pub otherwise : Bool
  pub send : Option ℕ
  pub back : Option ℕ
  pub is : phase_of w r.who ≡ Some (Waiting (ReceiveSignal r.things otherwise) send back)
  pub found : signal_receiver facts w signal to r.who ≡ Some (record { alternative = alternative; priority = 0; back = back })

pub may_hear : (facts : Facts) (w : World) (s : SeenSignals) (signal : ℕ) (to : Option ℕ) (r : Receiver) (alternative : ℕ) → receiver_for s signal to ≡ Some r → number_for r.things signal ≡ Some alternative → Hears facts w s → MayHear facts w signal to r alternative
may_hear facts w s signal to r alternative first listed h =
    let there = found_at (is_receiver s.wanted signal to) s.receivers r first in
    let t = hearer_waits facts w s there.0.0 r there.0.1 h in
    let may : worlds.may_receive facts w signal to r.who ≡ true = sym (may_same facts w s.wanted signal to r.who h.wanted) ∙ ap (may_receive s.wanted signal to r.who) (sym t.process) ∙ (both_true _ _ there.1).0 in
    let told : option_and_then (signal_receiver_in signal) (phase_of w r.who) ≡ Some (record { alternative = alternative; priority = 0; back = t.back }) = ap (option_and_then (signal_receiver_in signal)) t.is ∙ ap (λ n. waiter_for n 0 t.back) listed in
    record { otherwise = t.otherwise; send = t.send; back = t.back; is = t.is; found = rw may told }

-- what a phase tells of a receiver of the world
pub record IsHearer (w : World) (signal who : ℕ) : Type 0 where
  pub signals : List Alternative
  pub otherwise : Bool
  pub send : Option ℕ
  pub back : Option ℕ
  pub is : phase_of w who ≡ Some (Waiting (ReceiveSignal signals otherwise) send back)
  pub number : ℕ
  pub listed : number_for signals signal ≡ Some number

hearer_by_number : (w : World) (signal who : ℕ) (waiter : Waiter) (signals : List Alternative) (otherwise : Bool) (send back n : Option ℕ) → phase_of w who ≡ Some (Waiting (ReceiveSignal signals otherwise) send back) → number_for signals signal ≡ n → waiter_for n 0 back ≡ Some waiter → IsHearer w signal who
hearer_by_number w signal who waiter signals otherwise send back None at is told = absurd (let f : ⊥ = cc in f)
hearer_by_number w signal who waiter signals otherwise send back (Some n) at is told = record { signals = signals; otherwise = otherwise; send = send; back = back; is = at; number = n; listed = is }

hearer_by_phase : (w : World) (b who : ℕ) (waiter : Waiter) (phase : Phase) → phase_of w who ≡ Some phase → signal_receiver_in b phase ≡ Some waiter → IsHearer w b who
hearer_by_phase w b who waiter (Waiting (ReceiveSignal signals otherwise) send back) at told = hearer_by_number w b who waiter signals otherwise send back (number_for signals b) at refl told
hearer_by_phase w b who waiter (Waiting (Read place) send back) at told = absurd (let f : ⊥ = cc in f)
hearer_by_phase w b who waiter (Waiting (Write place scalars) send back) at told = absurd (let f : ⊥ = cc in f)
hearer_by_phase w b who waiter (Waiting (Enter region) send back) at told = absurd (let f : ⊥ = cc in f)
hearer_by_phase w b who waiter (Waiting (Leave region) send back) at told = absurd (let f : ⊥ = cc in f)
hearer_by_phase w b who waiter (Waiting (Delay events priority) send back) at told = absurd (let f : ⊥ = cc in f)
hearer_by_phase w b who waiter (Waiting (Continue event) send back) at told = absurd (let f : ⊥ = cc in f)
hearer_by_phase w b who waiter (Waiting (SendBuffer buffer scalars priority) send back) at told = absurd (let f : ⊥ = cc in f)
hearer_by_phase w b who waiter (Waiting (ReceiveBuffer buffers otherwise) send back) at told = absurd (let f : ⊥ = cc in f)
hearer_by_phase w b who waiter (Waiting (SendSignal signal scalars to priority) send back) at told = absurd (let f : ⊥ = cc in f)
hearer_by_phase w b who waiter (Waiting (Start process scalars) send back) at told = absurd (let f : ⊥ = cc in f)
hearer_by_phase w b who waiter (Waiting (Put bytes) send back) at told = absurd (let f : ⊥ = cc in f)
hearer_by_phase w b who waiter (Waiting Get send back) at told = absurd (let f : ⊥ = cc in f)
hearer_by_phase w b who waiter (Waiting (End how) send back) at told = absurd (let f : ⊥ = cc in f)
hearer_by_phase w b who waiter Active at told = absurd (let f : ⊥ = cc in f)
hearer_by_phase w b who waiter (Chosen answer back) at told = absurd (let f : ⊥ = cc in f)
hearer_by_phase w b who waiter (Ended how) at told = absurd (let f : ⊥ = cc in f)

hearer_at : (w : World) (b who : ℕ) (waiter : Waiter) (phase : Option Phase) → phase_of w who ≡ phase → option_and_then (signal_receiver_in b) phase ≡ Some waiter → IsHearer w b who
hearer_at w b who waiter None at told = absurd (let f : ⊥ = cc in f)
hearer_at w b who waiter (Some phase) at told = hearer_by_phase w b who waiter phase at told

-- no receiver in the list is none in the world
nobody_told : (facts : Facts) (w : World) (s : SeenSignals) (signal : ℕ) (to : Option ℕ) (who : ℕ) (waiter : Option Waiter) → worlds.may_receive facts w signal to who ≡ true → option_and_then (signal_receiver_in signal) (phase_of w who) ≡ waiter → receiver_for s signal to ≡ None → Hears facts w s → waiter ≡ None
nobody_told facts w s signal to who None may is none h = refl
nobody_told facts w s signal to who (Some waiter) may is none h = absurd (
    let t = hearer_at w signal who waiter (phase_of w who) refl is in
    let r : Receiver = record { who = who; process = slice_index_or w.processes who 0; things = t.signals } in
    let entry : entry_of receiver_of s.receivers who ≡ Some r = h.receivers.each who ∙ ap (option_and_then (hearing_in w.processes who)) t.is in
    let there = found_there receiver_of s.receivers who r entry in
    let fails = none_passes (is_receiver s.wanted signal to) s.receivers there.0 r none there.1 in
    let here : may_receive s.wanted signal to who (slice_index_or w.processes who 0) ≡ true = may_same facts w s.wanted signal to who h.wanted ∙ may in
    let listed : lists signal r ≡ true = ap is_some t.listed in
    let passes : is_receiver s.wanted signal to r ≡ true = rw (here, listed) refl in
    let f : ⊥ = cc in f)

pub nobody_hears : (facts : Facts) (w : World) (s : SeenSignals) (signal : ℕ) (to : Option ℕ) → receiver_for s signal to ≡ None → Hears facts w s → NobodyMayReceive facts w signal to
nobody_hears facts w s signal to none h p = elim (cases_Bool (worlds.may_receive facts w signal to p)) [
  | inl may ↦ rw may (nobody_told facts w s signal to p (option_and_then (signal_receiver_in signal) (phase_of w p)) may refl none h)
  | inr may ↦ rw may refl
]

-- a signal that the part may take is one of the world
pub pends_for : (facts : Facts) (w : World) (s : SeenSignals) (who : ℕ) (signals : List Alternative) (n : ℕ) (signal : PendingSignal) → IsFor s who (slice_index_or w.processes who 0) signals signal → number_for signals signal.signal ≡ Some n → Hears facts w s → IsPendingFor facts w who signals n signal
pends_for facts w s who signals n signal may listed h = record {
  place = may.pends.0;
  pends = ap (λ (l : List PendingSignal). slice_get l may.pends.0) (sym h.pending) ∙ may.pends.1;
  listed = listed;
  may = subst (λ (b : Bool). IsTrue b) (may_same facts w s.wanted signal.signal signal.to who h.wanted) may.may;
}

pub for_pends : (facts : Facts) (w : World) (s : SeenSignals) (who : ℕ) (signals : List Alternative) (n : ℕ) (signal : PendingSignal) → IsPendingFor facts w who signals n signal → Hears facts w s → IsFor s who (slice_index_or w.processes who 0) signals signal
for_pends facts w s who signals n signal p h = record {
  pends = (p.place, ap (λ (l : List PendingSignal). slice_get l p.place) h.pending ∙ p.pends);
  listed = subst (λ (o : Option ℕ). IsSome o) (sym p.listed) refl;
  may = subst (λ (b : Bool). IsTrue b) (sym (may_same facts w s.wanted signal.signal signal.to who h.wanted)) p.may;
}

pub nothing_pends : (facts : Facts) (w : World) (s : SeenSignals) (who : ℕ) (signals : List Alternative) → NoneFor s who (slice_index_or w.processes who 0) signals → Hears facts w s → NoSignalPends facts w who signals
nothing_pends facts w s who signals none h n signal p = none signal (for_pends facts w s who signals n signal p h)

rank_low : (r s : Rank) → IsFalse (precedes_in r s) → r.priority ≤ s.priority
rank_low r s below = grind (arith, nat_tests)

-- the signal that the part chooses may be taken in the world
pub takes_signal : (facts : Facts) (w : World) (s : SeenSignals) (who : ℕ) (signals : List Alternative) (signal : PendingSignal) → (choice : IsChoice s who (slice_index_or w.processes who 0) signals signal) → Hears facts w s → TakesSignal facts w who signals choice.alternative signal.value.send signal.value.scalars signal.value.sender
takes_signal facts w s who signals signal choice h = record {
  signal = signal;
  pends = pends_for facts w s who signals choice.alternative signal choice.pends choice.listed h;
  is = refl;
  highest = λ n other p. rank_low (rank_of other.value) (rank_of signal.value) (choice.best other (for_pends facts w s who signals n other p h));
}

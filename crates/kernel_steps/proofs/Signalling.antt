-- SEND of a signal, over the state.
use Rattle.std.proofs.Common.{◌≡◌, ◌⊎◌, inl, inr, ℕ, ◌+◌, ◌≤◌, List, [], ◌∷◌, ◌++◌, ℤ, drop, length, length-set, refl, sym, ap, ◌∙◌, arith, subst, Option, Some, None}
use Rattle.std.specs.Prelude.{IfSome}
use Rattle.kernel_base.specs.declared.request.Request.{Request}
use Rattle.kernel_base.specs.declared.request.Request.TheVariants.{SendSignal, ReceiveSignal}
use Rattle.kernel_base.specs.declared.answer.Answer.{Answer}
use Rattle.kernel_base.specs.declared.answer.Answer.TheVariants.{Got, Handed, Stored}
use Rattle.kernel_base.specs.declared.event.Event.TheVariants.{Did, Goes}
use Rattle.world_model.specs.declared.world.Phase.{Phase}
use Rattle.world_model.specs.declared.world.Phase.TheVariants.{Waiting, Chosen}
use Rattle.world_model.specs.declared.world.PendingSignal.{PendingSignal}
use Rattle.world_model.specs.declared.world.World.{World}
use Rattle.world_model.specs.declared.waiting.Waiter.{Waiter}
use Rattle.world_model.specs.Ranges.{IsNumber, IsInRange}
use Rattle.world_model.specs.Waiting.{phase_of, signal_receiver}
use Rattle.world_model.specs.World.{after, chosen, refusal, with_phase, with_next_send}
use Rattle.world_model.specs.Allowed.{SendsSignalTo}
use Rattle.buffers_signals.specs.Lists.{receiver_of}
use Rattle.buffers_signals.specs.declared.messages.Sent.{Sent}
use Rattle.buffers_signals.specs.declared.messages.Sent.TheVariants as sends
use Rattle.buffers_signals.specs.Signals as signals
use Rattle.buffers_signals.specs.Signals.{SeenSignals}
use Rattle.kernel_steps.specs.declared.reply.Reply.TheVariants.{Now}
use Rattle.kernel_steps.specs.declared.seats.Going.{Going}
use Rattle.kernel_steps.specs.declared.state.Ready.{Ready}
use Rattle.kernel_steps.specs.declared.state.State.{State}
use Rattle.kernel_steps.specs.Queued.{hearing_in}
use Rattle.kernel_steps.specs.Seated.{Settles, Hands}
use Rattle.kernel_steps.specs.Kept.{world_in, width_of, Rests}
use Rattle.kernel_steps.specs.Serving.{CanServe, Serves, goes_of}
use Rattle.kernel_steps.proofs.Keyed.{mirror_stop}
use Rattle.kernel_steps.proofs.Queued.{sleeps_stay, trades_stay}
use Rattle.kernel_steps.proofs.Telling.{may_hear, nobody_hears}
use Rattle.kernel_steps.proofs.Served.{argues_same, seated_same, sleeps_same, trades_same, serves_now}
use Rattle.kernel_steps.proofs.Plain.{plain_serves}
use Rattle.buffers_signals.specs.Buffers.{SeenBuffers}

-- all but the seats, the signals and the send number is as it was
pub record KeepsOthers (s s' : State) : Type 0 where
  pub facts : s'.facts ≡ s.facts
  pub widest : s'.widest ≡ s.widest
  pub ready : s'.ready ≡ s.ready
  pub events : s'.queues.events ≡ s.queues.events
  pub buffers : s'.queues.buffers ≡ s.queues.buffers
  pub store : s'.store ≡ s.store
  pub read : s'.read ≡ s.read
  pub taken : s'.taken ≡ s.taken
  pub argued : s'.arguments ≡ s.arguments
  pub sends : s'.queues.sends ≡ s.queues.sends + 1
  pub wanted : s'.queues.signals.wanted ≡ s.queues.signals.wanted
  pub last : s'.queues.signals.last ≤ s'.queues.sends

-- the signal as it is sent
abbrev pub sent_by : State → ℕ → ℕ → List ℤ → Option ℕ → ℕ → PendingSignal
sent_by s who signal scalars to priority = record { signal = signal; to = to; value = record { send = s.queues.sends + 1; sender = who; scalars = scalars; priority = priority } }

-- a signal is never delayed
pub pends_where : (old new : SeenSignals) (signal : PendingSignal) (sent : Sent) → (sent ≡ sends.Stored) ⊎ (sent ≡ sends.Delayed) → signals.SendsTo old new signal sent → signals.Pends old new signal
pends_where old new signal sent is h = elim is [
  | inl stored ↦ subst (λ (a : Sent). signals.SendsTo old new signal a) stored h
  | inr delayed ↦ absurd (subst (λ (a : Sent). signals.SendsTo old new signal a) delayed h)
]

pub pends_serves : (s s' : State) (who ticks signal : ℕ) (scalars : List ℤ) (to : Option ℕ) (priority : ℕ) (r : Ready) → CanServe s who (SendSignal signal scalars to priority) r → IsNumber who → IsNumber ticks → refusal (world_in s) to ≡ None → KeepsOthers s s' → s'.seats ≡ s.seats
    → signals.Pends s.queues.signals s'.queues.signals (sent_by s who signal scalars to priority) → s'.journal.events ≡ s.journal.events ++ Did who ticks (SendSignal signal scalars to priority) Stored None ∷ [] → Serves s s' who ticks (SendSignal signal scalars to priority) (Now Stored)
pends_serves s s' who ticks signal scalars to priority r can w_in t_in live o seats h journal =
    let k = can.kept in
    let w = world_in s in
    let request = SendSignal signal scalars to priority in
    let w1 = after s.facts w (Did who ticks request Stored None) in
    let hears = k.rests.hears in
    let nobody = nobody_hears s.facts w s.queues.signals signal to h.nobody hears in
    plain_serves s s' who ticks request Stored r can (record { who = w_in; ticks = t_in; answer = tt }) (refl, subst (λ (e : _). SendsSignalTo s.facts w signal to e Stored) (sym live) nobody) (subst (λ (q : Request). width_of q ≤ s.widest) can.is can.room.width)
    (record { processes = refl; phases = refl; occupants = refl; held = refl; facts = o.facts; widest = o.widest; ready = o.ready; seats = seats; taken = o.taken; events = journal; plain = refl })
    (record {
      sleeps = rw o.events (sleeps_same s.facts w w1 s.queues.events refl k.rests.sleeps);
      trades = rw o.buffers (trades_same s.facts w w1 s.queues.buffers refl refl refl k.rests.trades);
      hears = record {
        wanted = o.wanted ∙ hears.wanted;
        pending = h.pending ∙ ap (λ (l : List PendingSignal). l ++ sent_by s who signal scalars to priority ∷ []) hears.pending ∙ ap (λ n. w.pending ++ record { signal = signal; to = to; value = record { send = n + 1; sender = who; scalars = scalars; priority = priority } } ∷ []) k.rests.sends;
        receivers = rw h.receivers hears.receivers;
      };
      sends = o.sends ∙ ap (λ n. n + 1) k.rests.sends;
      last = let e = ap (λ (b : SeenBuffers). b.last) o.buffers in (omega (arith, e, o.sends, k.rests.last.0), o.last);
      store = rw o.store k.rests.store;
      locations = k.rests.locations;
      input = ap (λ n. drop n s.facts.input) o.read ∙ k.rests.input;
      read = rw o.read k.rests.read;
      argues = argues_same w w1 s s' refl o.taken (ap (λ v. v.items) o.argued) k.rests.argues;
    })

pub hands_serves : (s s' : State) (who ticks signal : ℕ) (scalars : List ℤ) (to : Option ℕ) (priority p : ℕ) (answer : Answer) (r : Ready) (going : Option Going) → CanServe s who (SendSignal signal scalars to priority) r → IsNumber who → IsNumber ticks → IsNumber p → refusal (world_in s) to ≡ None → KeepsOthers s s'
    → signals.Hands s.queues.signals s'.queues.signals (sent_by s who signal scalars to priority) p answer → Hands s.seats s'.seats p answer going
    → s'.journal.events ≡ (s.journal.events ++ Did who ticks (SendSignal signal scalars to priority) (Handed p) None ∷ []) ++ goes_of going → IfSome going (λ g. IsInRange (Goes g.who g.answer)) → Serves s s' who ticks (SendSignal signal scalars to priority) (Now (Handed p))
hands_serves s s' who ticks signal scalars to priority p answer r going can w_in t_in p_in live o h hands journal range =
    let k = can.kept in
    let w = world_in s in
    let request = SendSignal signal scalars to priority in
    let hears = k.rests.hears in
    let t = may_hear s.facts w s.queues.signals signal to h.receiver h.alternative h.waits h.listed hears in
    let told : Answer = Got h.alternative (w.sends + 1) scalars who in
    let is : answer ≡ told = h.is ∙ ap (λ n. Got h.alternative (n + 1) scalars who) k.rests.sends in
    let old : Phase = Waiting (ReceiveSignal h.receiver.things t.otherwise) t.send t.back in
    let new : Phase = Chosen told t.back in
    let at : phase_of w p ≡ Some old = ap (phase_of w) h.who ∙ t.is in
    let waiter : Waiter = record { alternative = h.alternative; priority = 0; back = t.back } in
    let found : signal_receiver s.facts w signal to p ≡ Some waiter = ap (signal_receiver s.facts w signal to) h.who ∙ t.found in
    let next = with_next_send w in
    let w1 = with_phase next p new in
    let world : after s.facts w (Did who ticks request (Handed p) None) ≡ w1 = ap (λ f. chosen next p f (λ a. Got a (w.sends + 1) scalars who)) found in
    let may = subst (λ (e : _). SendsSignalTo s.facts w signal to e (Handed p)) (sym live) (waiter, found) in
    let settles : Settles w1 s.seats s'.seats going = subst (λ (a : Answer). Settles (with_phase next p (Chosen a t.back)) s.seats s'.seats going) is (hands next (ReceiveSignal h.receiver.things t.otherwise) t.send t.back (seated_same w next s.seats refl refl refl refl k.seated) at) in
    serves_now s s' who ticks request (Handed p) None going k (refl, may) (record {
      may = record {
        allowed = record { in_range = (w_in, t_in, can.in_range, p_in, tt); possible = (record { active = can.may.goes.active; fits = can.may.fits }, (refl, may)) };
        width = subst (λ (q : Request). width_of q ≤ s.widest) can.is can.room.width;
        burst = tt;
        phases = let e = ap (λ (x : World). length x.phases) world in let l = length-set w.phases p new in omega (arith, e, l);
      };
      facts = o.facts;
      widest = o.widest;
      ready = o.ready;
      events = journal;
      in_range = range;
      settles = subst (λ (x : World). Settles x s.seats s'.seats going) (sym world) settles;
      rests = subst (λ (x : World). Rests s.facts x s') (sym world) (record {
        sleeps = rw o.events (sleeps_stay s.facts w w1 s.queues.events p old new at refl refl refl (λ e. refl) (λ e. refl) k.rests.sleeps);
        trades = rw o.buffers (trades_stay s.facts w w1 s.queues.buffers p old new at refl refl refl refl refl refl refl k.rests.trades);
        hears = record {
          wanted = o.wanted ∙ hears.wanted;
          pending = h.pending ∙ hears.pending;
          receivers = rw h.receivers (mirror_stop receiver_of (hearing_in w.processes) s.queues.signals.receivers w.phases p old new at refl hears.receivers);
        };
        sends = o.sends ∙ ap (λ n. n + 1) k.rests.sends;
        last = let e = ap (λ (b : SeenBuffers). b.last) o.buffers in (omega (arith, e, o.sends, k.rests.last.0), o.last);
        store = rw o.store k.rests.store;
        locations = k.rests.locations;
        input = ap (λ n. drop n s.facts.input) o.read ∙ k.rests.input;
        read = rw o.read k.rests.read;
        argues = argues_same w w1 s s' refl o.taken (ap (λ v. v.items) o.argued) k.rests.argues;
      });
    }) refl o.taken

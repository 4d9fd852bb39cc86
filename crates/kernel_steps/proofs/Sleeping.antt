-- DELAY and CONTINUE, over the state.
use Rattle.std.proofs.Common.{◌≡◌, ℕ, List, [], ◌∷◌, ◌++◌, ℤ, drop, length, length-set, refl, sym, ap, ◌∙◌, arith, subst, Option, Some, None, slice_get, slice_set}
use Rattle.std.specs.Prelude.{IsFalse, IfSome}
use Rattle.kernel_steps.specs.Queued.{Trades, Hears}
use Rattle.kernel_base.specs.declared.request.Alternative.{Alternative}
use Rattle.kernel_base.specs.declared.request.Request.TheVariants.{Delay, Continue}
use Rattle.kernel_base.specs.declared.answer.Answer.TheVariants.{Chose, Woken}
use Rattle.kernel_base.specs.declared.event.Event.TheVariants.{Did, Waits, Goes}
use Rattle.world_model.specs.declared.world.Phase.TheVariants.{Active, Waiting, Chosen}
use Rattle.world_model.specs.declared.world.World.{World}
use Rattle.world_model.specs.Lists.{last_of}
use Rattle.world_model.specs.Ranges.{IsNumber, IsInRange}
use Rattle.world_model.specs.Waiting.{is_full}
use Rattle.world_model.specs.World.{after, chosen, with_phase, held_by}
use Rattle.wait_queues.specs.Waiting.{AreOrdered, AreTied}
use Rattle.event_queues.specs.Delayed.{Comes, Wakes, delayed_on}
use Rattle.kernel_steps.specs.declared.reply.Reply.TheVariants.{Now, Later}
use Rattle.kernel_steps.specs.declared.seats.Going.{Going}
use Rattle.kernel_steps.specs.declared.state.Ready.{Ready}
use Rattle.kernel_steps.specs.declared.state.State.{State}
use Rattle.kernel_steps.specs.Seated.{Settles, waiting}
use Rattle.kernel_steps.specs.Kept.{world_in, Rests}
use Rattle.kernel_steps.specs.Serving.{CanServe, Serves, goes_of}
use Rattle.kernel_steps.proofs.Queued.{trades_stay, hears_stay}
use Rattle.kernel_steps.proofs.Delays.{sleeps_begin, sleeps_stop, woken, highest_sleeper}
use Rattle.kernel_steps.proofs.Delays as delays
use Rattle.kernel_steps.proofs.Quiet.{freed_keeps}
use Rattle.kernel_steps.proofs.Served.{argues_same, serves_now, serves_later}
use Rattle.buffers_signals.specs.Buffers.{SeenBuffers}
use Rattle.buffers_signals.specs.Signals.{SeenSignals}

-- all but the events and the seats is as it was
pub record KeepsOthers (s s' : State) : Type 0 where
  pub facts : s'.facts ≡ s.facts
  pub widest : s'.widest ≡ s.widest
  pub ready : s'.ready ≡ s.ready
  pub buffers : s'.queues.buffers ≡ s.queues.buffers
  pub signals : s'.queues.signals ≡ s.queues.signals
  pub sends : s'.queues.sends ≡ s.queues.sends
  pub store : s'.store ≡ s.store
  pub read : s'.read ≡ s.read
  pub taken : s'.taken ≡ s.taken
  pub argued : s'.arguments ≡ s.arguments

pub delay_serves : (s s' : State) (who ticks : ℕ) (events : List Alternative) (priority : ℕ) (r : Ready) (going : Option Going) → CanServe s who (Delay events priority) r → IsNumber who → IsNumber ticks → IsFalse (is_full s.facts (world_in s) events) → KeepsOthers s s'
    → s'.queues.events.lengths ≡ s.queues.events.lengths → Comes s.queues.events s'.queues.events who (record { events = events; priority = priority })
    → s'.journal.events ≡ (s.journal.events ++ Waits who ticks (Delay events priority) ∷ []) ++ goes_of going → IfSome going (λ g. IsInRange (Goes g.who g.answer)) → Settles (waiting (world_in s) who (Delay events priority) None) s.seats s'.seats going → Serves s s' who ticks (Delay events priority) Later
delay_serves s s' who ticks events priority r going can w_in t_in full o lengths comes journal range settles =
    let k = can.kept in
    let w = world_in s in
    let back = last_of (held_by w who) in
    let new = Waiting (Delay events priority) None back in
    let w1 = waiting w who (Delay events priority) None in
    let same = freed_keeps w who back in
    let phases : w1.phases ≡ slice_set w.phases who new = ap (λ l. slice_set l who new) same.phases in
    let active = can.may.goes.active in
    serves_later s s' who ticks (Delay events priority) going k full (record {
      may = record {
        allowed = record { in_range = (w_in, t_in, can.in_range); possible = (record { active = active; fits = can.may.fits }, full) };
        width = omega arith;
        burst = tt;
        phases = let e = ap length phases in let l = length-set w.phases who new in omega (arith, e, l);
      };
      facts = o.facts;
      widest = o.widest;
      ready = o.ready;
      events = journal;
      in_range = range;
      settles = settles;
      rests = record {
        sleeps = sleeps_begin s.facts w w1 s.queues.events s'.queues.events who events priority None back active phases lengths comes k.rests.sleeps;
        trades = subst (λ b. Trades s.facts w1 b) (sym o.buffers) (trades_stay s.facts w w1 s.queues.buffers who Active new active phases same.processes same.stored refl refl refl refl k.rests.trades);
        hears = subst (λ h. Hears s.facts w1 h) (sym o.signals) (hears_stay s.facts w w1 s.queues.signals who Active new active phases same.processes same.pending refl refl k.rests.hears);
        sends = o.sends ∙ k.rests.sends ∙ sym same.sends;
        last = let e = ap (λ (b : SeenBuffers). b.last) o.buffers in let f = ap (λ (g : SeenSignals). g.last) o.signals in (omega (arith, e, o.sends, k.rests.last.0), omega (arith, f, o.sends, k.rests.last.1));
        store = rw (o.store, same.store) k.rests.store;
        locations = ap length same.store ∙ k.rests.locations;
        input = ap (λ n. drop n s.facts.input) o.read ∙ k.rests.input ∙ sym same.input;
        read = rw o.read k.rests.read;
        argues = rw (o.taken, o.argued) (record { each = k.rests.argues.each ∙ sym (ap length same.arguments); same = λ n low. k.rests.argues.same n low ∙ sym (ap (λ (l : List (List ℤ)). slice_get l n) same.arguments) });
      };
    }) o.taken

pub resume_serves : (s s' : State) (who ticks event : ℕ) (chose : Alternative) (r : Ready) (going : Option Going) → CanServe s who (Continue event) r → IsNumber who → IsNumber ticks → IsNumber chose.thing → AreTied delayed_on s.queues.events.delayed s.queues.events.waiting → AreOrdered s.queues.events.waiting → Wakes event s.queues.events s'.queues.events chose → KeepsOthers s s'
    → s'.queues.events.lengths ≡ s.queues.events.lengths → s'.journal.events ≡ (s.journal.events ++ Did who ticks (Continue event) (Chose (Some chose.thing)) None ∷ []) ++ goes_of going → IfSome going (λ g. IsInRange (Goes g.who g.answer))
    → ((t : delays.Woken (world_in s) event chose) → Settles (with_phase (world_in s) chose.thing (Chosen (Woken chose.number who) t.back)) s.seats s'.seats going) → Serves s s' who ticks (Continue event) (Now (Chose (Some chose.thing)))
resume_serves s s' who ticks event chose r going can w_in t_in p_in tied order wakes o lengths journal range settles =
    let k = can.kept in
    let w = world_in s in
    let p = chose.thing in
    let t = woken s.facts w s.queues.events s'.queues.events event chose wakes k.rests.sleeps in
    let new = Chosen (Woken chose.number who) t.back in
    let w1 = with_phase w p new in
    let world : after s.facts w (Did who ticks (Continue event) (Chose (Some p)) None) ≡ w1 = ap (λ found. chosen w p found (λ a. Woken a who)) t.found in
    let may = highest_sleeper s.facts w s.queues.events s'.queues.events event chose wakes k.rests.sleeps in
    serves_now s s' who ticks (Continue event) (Chose (Some p)) None going k (refl, may) (record {
      may = record {
        allowed = record { in_range = (w_in, t_in, can.in_range, p_in, tt); possible = (record { active = can.may.goes.active; fits = can.may.fits }, (refl, may)) };
        width = omega arith;
        burst = tt;
        phases = let e = ap (λ (x : World). length x.phases) world in let l = length-set w.phases p new in omega (arith, e, l);
      };
      facts = o.facts;
      widest = o.widest;
      ready = o.ready;
      events = journal;
      in_range = range;
      settles = subst (λ (x : World). Settles x s.seats s'.seats going) (sym world) (settles t);
      rests = subst (λ (x : World). Rests s.facts x s') (sym world) (record {
        sleeps = sleeps_stop s.facts w w1 s.queues.events s'.queues.events p t.events t.priority t.send t.back new t.is refl refl (λ e. refl) tied order lengths wakes.goes k.rests.sleeps;
        trades = subst (λ b. Trades s.facts w1 b) (sym o.buffers) (trades_stay s.facts w w1 s.queues.buffers p (Waiting (Delay t.events t.priority) t.send t.back) new t.is refl refl refl refl refl refl refl k.rests.trades);
        hears = subst (λ h. Hears s.facts w1 h) (sym o.signals) (hears_stay s.facts w w1 s.queues.signals p (Waiting (Delay t.events t.priority) t.send t.back) new t.is refl refl refl refl refl k.rests.hears);
        sends = o.sends ∙ k.rests.sends;
        last = let e = ap (λ (b : SeenBuffers). b.last) o.buffers in let f = ap (λ (g : SeenSignals). g.last) o.signals in (omega (arith, e, o.sends, k.rests.last.0), omega (arith, f, o.sends, k.rests.last.1));
        store = rw o.store k.rests.store;
        locations = k.rests.locations;
        input = ap (λ n. drop n s.facts.input) o.read ∙ k.rests.input;
        read = rw o.read k.rests.read;
        argues = argues_same w w1 s s' refl o.taken (ap (λ v. v.items) o.argued) k.rests.argues;
      });
    }) refl o.taken

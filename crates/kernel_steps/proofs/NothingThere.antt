-- RECEIVE from buffers, over the state, where nothing is there.
use Rattle.std.proofs.Common.{◌≡◌, ℕ, List, [], ◌∷◌, ◌++◌, ℤ, drop, length, length-set, refl, sym, ap, ◌∙◌, arith, Option, None, slice_get, slice_set}
use Rattle.std.specs.Prelude.{Bool, IfSome, slice_index_or}
use Rattle.kernel_base.specs.declared.request.Alternative.{Alternative}
use Rattle.kernel_base.specs.declared.request.Request.TheVariants.{ReceiveBuffer}
use Rattle.kernel_base.specs.declared.answer.Answer.TheVariants.{Otherwise}
use Rattle.kernel_base.specs.declared.event.Event.TheVariants.{Did, Waits, Goes}
use Rattle.world_model.specs.declared.world.Phase.{Phase}
use Rattle.world_model.specs.declared.world.Phase.TheVariants.{Active, Waiting}
use Rattle.world_model.specs.Lists.{last_of}
use Rattle.world_model.specs.Ranges.{IsNumber, IsInRange}
use Rattle.world_model.specs.World.{held_by}
use Rattle.world_model.specs.Allowed.{MustWait}
use Rattle.buffers_signals.specs.Buffers as buffers
use Rattle.kernel_steps.specs.declared.reply.Reply.TheVariants.{Now, Later}
use Rattle.kernel_steps.specs.declared.seats.Going.{Going}
use Rattle.kernel_steps.specs.declared.state.Ready.{Ready}
use Rattle.kernel_steps.specs.declared.state.State.{State}
use Rattle.kernel_steps.specs.Seated.{Settles, waiting}
use Rattle.kernel_steps.specs.Kept.{world_in}
use Rattle.kernel_steps.specs.Serving.{CanServe, Serves, goes_of}
use Rattle.kernel_steps.proofs.Queued.{sleeps_stay, hears_stay}
use Rattle.kernel_steps.proofs.Refilled.{trades_receives}
use Rattle.kernel_steps.proofs.Taking.{nothing_taken}
use Rattle.kernel_steps.proofs.Quiet.{freed_keeps}
use Rattle.kernel_steps.proofs.Served.{argues_same, serves_later}
use Rattle.kernel_steps.proofs.Plain.{plain_serves}
use Rattle.kernel_steps.proofs.Trading.{stored_kept}
use Rattle.buffers_signals.specs.Signals.{SeenSignals}

-- all but the seats and the buffers is as it was
pub record KeepsOthers (s s' : State) : Type 0 where
  pub facts : s'.facts ≡ s.facts
  pub widest : s'.widest ≡ s.widest
  pub ready : s'.ready ≡ s.ready
  pub events : s'.queues.events ≡ s.queues.events
  pub signals : s'.queues.signals ≡ s.queues.signals
  pub store : s'.store ≡ s.store
  pub read : s'.read ≡ s.read
  pub taken : s'.taken ≡ s.taken
  pub argued : s'.arguments ≡ s.arguments
  pub sends : s'.queues.sends ≡ s.queues.sends
  pub last : s'.queues.buffers.last ≡ s.queues.buffers.last
  pub lengths : s'.queues.buffers.lengths ≡ s.queues.buffers.lengths

pub nothing_serves : (s s' : State) (who ticks : ℕ) (list : List Alternative) (otherwise : Bool) (r : Ready) → CanServe s who (ReceiveBuffer list otherwise) r → IsNumber who → IsNumber ticks → KeepsOthers s s' → s'.seats ≡ s.seats
    → buffers.TakesNothing s.queues.buffers s'.queues.buffers list otherwise → s'.journal.events ≡ s.journal.events ++ Did who ticks (ReceiveBuffer list otherwise) Otherwise None ∷ [] → Serves s s' who ticks (ReceiveBuffer list otherwise) (Now Otherwise)
nothing_serves s s' who ticks list otherwise r can w_in t_in o seats h journal =
    let k = can.kept in
    let w = world_in s in
    let request = ReceiveBuffer list otherwise in
    let trades = k.rests.trades in
    plain_serves s s' who ticks request Otherwise r can (record { who = w_in; ticks = t_in; answer = tt }) (refl, h.written, nothing_taken s.facts w s.queues.buffers list h.nothing trades) (omega arith)
    (record { processes = refl; phases = refl; occupants = refl; held = refl; facts = o.facts; widest = o.widest; ready = o.ready; seats = seats; taken = o.taken; events = journal; plain = refl })
    (record {
      sleeps = rw o.events k.rests.sleeps;
      trades = record { lengths = o.lengths ∙ trades.lengths; each = trades.each; stored = stored_kept w w s.queues.buffers.stored s'.queues.buffers.stored refl h.stored trades.stored; senders = rw h.senders trades.senders; receivers = rw h.receivers trades.receivers };
      hears = rw o.signals k.rests.hears;
      sends = o.sends ∙ k.rests.sends;
      last = let f = ap (λ (g : SeenSignals). g.last) o.signals in (omega (arith, o.last, o.sends, k.rests.last.0), omega (arith, f, o.sends, k.rests.last.1));
      store = rw o.store k.rests.store;
      locations = k.rests.locations;
      input = ap (λ n. drop n s.facts.input) o.read ∙ k.rests.input;
      read = rw o.read k.rests.read;
      argues = argues_same w w s s' refl o.taken (ap (λ v. v.items) o.argued) k.rests.argues;
    })

pub delays_serves : (s s' : State) (who ticks : ℕ) (list : List Alternative) (otherwise : Bool) (r : Ready) (going : Option Going) → CanServe s who (ReceiveBuffer list otherwise) r → IsNumber who → IsNumber ticks → KeepsOthers s s'
    → buffers.DelaysReceiver s.queues.buffers s'.queues.buffers who (slice_index_or (world_in s).processes who 0) list otherwise
    → s'.journal.events ≡ (s.journal.events ++ Waits who ticks (ReceiveBuffer list otherwise) ∷ []) ++ goes_of going → IfSome going (λ g. IsInRange (Goes g.who g.answer))
    → Settles (waiting (world_in s) who (ReceiveBuffer list otherwise) None) s.seats s'.seats going → Serves s s' who ticks (ReceiveBuffer list otherwise) Later
delays_serves s s' who ticks list otherwise r going can w_in t_in o h journal range settles =
    let k = can.kept in
    let w = world_in s in
    let request = ReceiveBuffer list otherwise in
    let trades = k.rests.trades in
    let back = last_of (held_by w who) in
    let new : Phase = Waiting request None back in
    let w1 = waiting w who request None in
    let same = freed_keeps w who back in
    let phases : w1.phases ≡ slice_set w.phases who new = ap (λ l. slice_set l who new) same.phases in
    let active = can.may.goes.active in
    let must : MustWait s.facts w who request = (h.not_written, nothing_taken s.facts w s.queues.buffers list h.nothing trades) in
    serves_later s s' who ticks request going k must (record {
      may = record {
        allowed = record { in_range = (w_in, t_in, can.in_range); possible = (record { active = active; fits = can.may.fits }, must) };
        width = omega arith;
        burst = tt;
        phases = let e = ap length phases in let l = length-set w.phases who new in omega (arith, e, l);
      };
      facts = o.facts;
      widest = o.widest;
      ready = o.ready;
      events = journal;
      in_range = range;
      settles = settles;
      rests = record {
        sleeps = rw o.events (sleeps_stay s.facts w w1 s.queues.events who Active new active phases refl refl (λ e. refl) (λ e. refl) k.rests.sleeps);
        trades = trades_receives s.facts w w1 s.queues.buffers s'.queues.buffers who list otherwise None back active phases same.processes same.stored o.lengths h.stored h.senders h.receivers trades;
        hears = rw o.signals (hears_stay s.facts w w1 s.queues.signals who Active new active phases same.processes same.pending refl refl k.rests.hears);
        sends = o.sends ∙ k.rests.sends ∙ sym same.sends;
        last = let f = ap (λ (g : SeenSignals). g.last) o.signals in (omega (arith, o.last, o.sends, k.rests.last.0), omega (arith, f, o.sends, k.rests.last.1));
        store = rw (o.store, same.store) k.rests.store;
        locations = ap length same.store ∙ k.rests.locations;
        input = ap (λ n. drop n s.facts.input) o.read ∙ k.rests.input ∙ sym same.input;
        read = rw o.read k.rests.read;
        argues = rw (o.taken, o.argued) (record { each = k.rests.argues.each ∙ sym (ap length same.arguments); same = λ n low. k.rests.argues.same n low ∙ sym (ap (λ (l : List (List ℤ)). slice_get l n) same.arguments) });
      };
    }) o.taken

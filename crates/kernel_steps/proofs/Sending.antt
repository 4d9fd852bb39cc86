-- SEND to a buffer, over the state.
use Rattle.std.proofs.Common.{◌≡◌, ℕ, ◌+◌, ◌≤◌, ◌<◌, List, [], ◌∷◌, ◌++◌, ℤ, drop, length, length-set, refl, sym, ap, ◌∙◌, arith, subst, Option, Some, None, slice_get, slice_set}
use Rattle.std.specs.Prelude.{Bool, IfSome, IsTrue, IsFalse}
use Rattle.kernel_base.specs.declared.request.Request.{Request}
use Rattle.kernel_base.specs.declared.request.Request.TheVariants.{SendBuffer, ReceiveBuffer}
use Rattle.kernel_base.specs.declared.answer.Answer.{Answer}
use Rattle.kernel_base.specs.declared.answer.Answer.TheVariants.{Got, Handed, Stored}
use Rattle.kernel_base.specs.declared.event.Event.TheVariants.{Did, Waits, Goes}
use Rattle.world_model.specs.declared.world.Phase.{Phase}
use Rattle.world_model.specs.declared.world.Phase.TheVariants.{Active, Waiting, Chosen}
use Rattle.world_model.specs.declared.world.StoredValue.{StoredValue}
use Rattle.world_model.specs.declared.world.World.{World}
use Rattle.world_model.specs.declared.waiting.Waiter.{Waiter}
use Rattle.world_model.specs.Lists.{last_of}
use Rattle.world_model.specs.Ranges.{IsNumber, IsInRange}
use Rattle.world_model.specs.Waiting.{phase_of, buffer_receiver}
use Rattle.world_model.specs.World.{after, chosen, held_by, with_phase, with_next_send}
use Rattle.world_model.specs.Allowed.{MustWait}
use Rattle.value_queues.specs.Queues.{with_placed}
use Rattle.buffers_signals.specs.declared.messages.Held.{Held}
use Rattle.buffers_signals.specs.Buffers as buffers
use Rattle.kernel_steps.specs.declared.reply.Reply.TheVariants.{Now, Later}
use Rattle.kernel_steps.specs.declared.seats.Going.{Going}
use Rattle.kernel_steps.specs.declared.state.Ready.{Ready}
use Rattle.kernel_steps.specs.declared.state.State.{State}
use Rattle.kernel_steps.specs.Seated.{Settles, Hands, waiting}
use Rattle.kernel_steps.specs.Kept.{world_in, width_of, Rests}
use Rattle.kernel_steps.specs.Serving.{CanServe, Serves, goes_of}
use Rattle.kernel_steps.proofs.Queued.{sleeps_stay, hears_stay}
use Rattle.kernel_steps.proofs.Quiet.{freed_keeps}
use Rattle.kernel_steps.proofs.Refilled.{trades_handed, trades_stored, trades_sends}
use Rattle.kernel_steps.proofs.Trading.{may_hand, nobody_receives, room_same}
use Rattle.kernel_steps.proofs.Served.{argues_same, seated_same, sleeps_same, hears_same, serves_now, serves_later}
use Rattle.kernel_steps.proofs.Plain.{plain_serves}
use Rattle.buffers_signals.specs.Signals.{SeenSignals}

-- all but the seats, the buffers and the send number is as it was
pub record KeepsOthers (s s' : State) : Type 0 where
  pub facts : s'.facts ≡ s.facts
  pub widest : s'.widest ≡ s.widest
  pub ready : s'.ready ≡ s.ready
  pub events : s'.queues.events ≡ s.queues.events
  pub signals : s'.queues.signals ≡ s.queues.signals
  pub store : s'.store ≡ s.store
  pub read : s'.read ≡ s.read
  pub taken : s'.taken ≡ s.taken
  pub argued : s'.arguments ≡ s.arguments
  pub sends : s'.queues.sends ≡ s.queues.sends + 1
  pub last : s'.queues.buffers.last ≤ s'.queues.sends
  pub lengths : s'.queues.buffers.lengths ≡ s.queues.buffers.lengths

-- the value as it is sent
abbrev pub value_by : ℕ → ℕ → List ℤ → ℕ → StoredValue
value_by send who scalars priority = record { send = send; sender = who; scalars = scalars; priority = priority }

pub stores_serves : (s s' : State) (who ticks buffer : ℕ) (scalars : List ℤ) (priority : ℕ) (r : Ready) → CanServe s who (SendBuffer buffer scalars priority) r → IsNumber who → IsNumber ticks → KeepsOthers s s' → s'.seats ≡ s.seats
    → buffers.Stores s.queues.buffers s'.queues.buffers buffer (value_by (s.queues.sends + 1) who scalars priority) → s'.journal.events ≡ s.journal.events ++ Did who ticks (SendBuffer buffer scalars priority) Stored None ∷ [] → Serves s s' who ticks (SendBuffer buffer scalars priority) (Now Stored)
stores_serves s s' who ticks buffer scalars priority r can w_in t_in o seats h journal =
    let k = can.kept in
    let w = world_in s in
    let request = SendBuffer buffer scalars priority in
    let w1 = after s.facts w (Did who ticks request Stored None) in
    let trades = k.rests.trades in
    let one : Held = record { buffer = buffer; value = value_by (w.sends + 1) who scalars priority } in
    let more : s'.queues.buffers.stored ≡ with_placed s.queues.buffers.stored buffer one.value = h.stored ∙ ap (λ n. with_placed s.queues.buffers.stored buffer (value_by (n + 1) who scalars priority)) k.rests.sends in
    let fits : buffer < length s.facts.buffers = can.may.fits in
    let low : buffer < length w.stored = let e = trades.each in omega (arith, e, fits) in
    let room = subst (λ (b : Bool). IsTrue b) (room_same s.facts w s.queues.buffers buffer trades) h.room in
    plain_serves s s' who ticks request Stored r can (record { who = w_in; ticks = t_in; answer = tt }) (refl, (nobody_receives s.facts w s.queues.buffers buffer h.nobody trades, room)) (subst (λ (q : Request). width_of q ≤ s.widest) can.is can.room.width)
    (record { processes = refl; phases = refl; occupants = refl; held = refl; facts = o.facts; widest = o.widest; ready = o.ready; seats = seats; taken = o.taken; events = journal; plain = refl })
    (record {
      sleeps = rw o.events (sleeps_same s.facts w w1 s.queues.events refl k.rests.sleeps);
      trades = trades_stored s.facts w w1 s.queues.buffers s'.queues.buffers one low h.there refl refl refl o.lengths more h.senders h.receivers trades;
      hears = rw o.signals (hears_same s.facts w w1 s.queues.signals refl refl refl k.rests.hears);
      sends = o.sends ∙ ap (λ n. n + 1) k.rests.sends;
      last = let f = ap (λ (g : SeenSignals). g.last) o.signals in (o.last, omega (arith, f, o.sends, k.rests.last.1));
      store = rw o.store k.rests.store;
      locations = k.rests.locations;
      input = ap (λ n. drop n s.facts.input) o.read ∙ k.rests.input;
      read = rw o.read k.rests.read;
      argues = argues_same w w1 s s' refl o.taken (ap (λ v. v.items) o.argued) k.rests.argues;
    })

pub hands_serves : (s s' : State) (who ticks buffer : ℕ) (scalars : List ℤ) (priority p : ℕ) (answer : Answer) (r : Ready) (going : Option Going) → CanServe s who (SendBuffer buffer scalars priority) r → IsNumber who → IsNumber ticks → IsNumber p → KeepsOthers s s'
    → buffers.Hands s.queues.buffers s'.queues.buffers buffer (value_by (s.queues.sends + 1) who scalars priority) p answer → Hands s.seats s'.seats p answer going
    → s'.journal.events ≡ (s.journal.events ++ Did who ticks (SendBuffer buffer scalars priority) (Handed p) None ∷ []) ++ goes_of going → IfSome going (λ g. IsInRange (Goes g.who g.answer)) → Serves s s' who ticks (SendBuffer buffer scalars priority) (Now (Handed p))
hands_serves s s' who ticks buffer scalars priority p answer r going can w_in t_in p_in o h hands journal range =
    let k = can.kept in
    let w = world_in s in
    let request = SendBuffer buffer scalars priority in
    let trades = k.rests.trades in
    let t = may_hand s.facts w s.queues.buffers buffer h.receiver h.alternative h.waits h.listed trades in
    let told : Answer = Got h.alternative (w.sends + 1) scalars who in
    let is : answer ≡ told = h.is ∙ ap (λ n. Got h.alternative (n + 1) scalars who) k.rests.sends in
    let old : Phase = Waiting (ReceiveBuffer h.receiver.things t.otherwise) t.send t.back in
    let new : Phase = Chosen told t.back in
    let at : phase_of w p ≡ Some old = ap (phase_of w) h.who ∙ t.is in
    let waiter : Waiter = record { alternative = h.alternative; priority = 0; back = t.back } in
    let found : buffer_receiver w buffer p ≡ Some waiter = ap (buffer_receiver w buffer) h.who ∙ t.found in
    let next = with_next_send w in
    let w1 = with_phase next p new in
    let world : after s.facts w (Did who ticks request (Handed p) None) ≡ w1 = ap (λ f. chosen next p f (λ a. Got a (w.sends + 1) scalars who)) found in
    let settles : Settles w1 s.seats s'.seats going = subst (λ (a : Answer). Settles (with_phase next p (Chosen a t.back)) s.seats s'.seats going) is (hands next (ReceiveBuffer h.receiver.things t.otherwise) t.send t.back (seated_same w next s.seats refl refl refl refl k.seated) at) in
    serves_now s s' who ticks request (Handed p) None going k (refl, (waiter, found)) (record {
      may = record {
        allowed = record { in_range = (w_in, t_in, can.in_range, p_in, tt); possible = (record { active = can.may.goes.active; fits = can.may.fits }, (refl, (waiter, found))) };
        width = subst (λ (q : Request). width_of q ≤ s.widest) can.is can.room.width;
        burst = tt;
        phases = let e = ap (λ (x : World). length x.phases) world in let l = length-set w.phases p new in omega (arith, e, l);
      };
      facts = o.facts;
      widest = o.widest;
      ready = o.ready;
      events = journal;
      in_range = range;
      settles = subst (λ (x : World). Settles x s.seats s'.seats going) (sym world) settles;
      rests = subst (λ (x : World). Rests s.facts x s') (sym world) (record {
        sleeps = rw o.events (sleeps_stay s.facts w w1 s.queues.events p old new at refl refl refl (λ e. refl) (λ e. refl) k.rests.sleeps);
        trades = trades_handed s.facts w w1 s.queues.buffers s'.queues.buffers p h.receiver.things t.otherwise t.send t.back new at refl refl refl refl refl o.lengths h.stored h.senders h.receivers trades;
        hears = rw o.signals (hears_stay s.facts w w1 s.queues.signals p old new at refl refl refl refl refl k.rests.hears);
        sends = o.sends ∙ ap (λ n. n + 1) k.rests.sends;
        last = let f = ap (λ (g : SeenSignals). g.last) o.signals in (o.last, omega (arith, f, o.sends, k.rests.last.1));
        store = rw o.store k.rests.store;
        locations = k.rests.locations;
        input = ap (λ n. drop n s.facts.input) o.read ∙ k.rests.input;
        read = rw o.read k.rests.read;
        argues = argues_same w w1 s s' refl o.taken (ap (λ v. v.items) o.argued) k.rests.argues;
      });
    }) refl o.taken

pub delays_serves : (s s' : State) (who ticks buffer : ℕ) (scalars : List ℤ) (priority : ℕ) (r : Ready) (going : Option Going) → CanServe s who (SendBuffer buffer scalars priority) r → IsNumber who → IsNumber ticks → KeepsOthers s s'
    → buffers.DelaysSender s.queues.buffers s'.queues.buffers buffer (value_by (s.queues.sends + 1) who scalars priority)
    → s'.journal.events ≡ (s.journal.events ++ Waits who ticks (SendBuffer buffer scalars priority) ∷ []) ++ goes_of going → IfSome going (λ g. IsInRange (Goes g.who g.answer))
    → Settles (waiting (with_next_send (world_in s)) who (SendBuffer buffer scalars priority) (Some ((world_in s).sends + 1))) s.seats s'.seats going → Serves s s' who ticks (SendBuffer buffer scalars priority) Later
delays_serves s s' who ticks buffer scalars priority r going can w_in t_in o h journal range settles =
    let k = can.kept in
    let w = world_in s in
    let request = SendBuffer buffer scalars priority in
    let trades = k.rests.trades in
    let back = last_of (held_by w who) in
    let send : Option ℕ = Some (w.sends + 1) in
    let new : Phase = Waiting request send back in
    let next = with_next_send w in
    let w1 = waiting next who request send in
    let same = freed_keeps next who back in
    let phases : w1.phases ≡ slice_set w.phases who new = ap (λ l. slice_set l who new) same.phases in
    let active = can.may.goes.active in
    let one : Held = record { buffer = buffer; value = value_by (w.sends + 1) who scalars priority } in
    let more : s'.queues.buffers.senders ≡ s.queues.buffers.senders ++ one ∷ [] = h.senders ∙ ap (λ n. s.queues.buffers.senders ++ record { buffer = buffer; value = value_by (n + 1) who scalars priority } ∷ []) k.rests.sends in
    let full = subst (λ (b : Bool). IsFalse b) (room_same s.facts w s.queues.buffers buffer trades) h.full in
    let must : MustWait s.facts w who request = (nobody_receives s.facts w s.queues.buffers buffer h.nobody trades, full) in
    serves_later s s' who ticks request going k must (record {
      may = record {
        allowed = record { in_range = (w_in, t_in, can.in_range); possible = (record { active = active; fits = can.may.fits }, must) };
        width = subst (λ (q : Request). width_of q ≤ s.widest) can.is can.room.width;
        burst = tt;
        phases = let e = ap length phases in let l = length-set w.phases who new in omega (arith, e, l);
      };
      facts = o.facts;
      widest = o.widest;
      ready = o.ready;
      events = journal;
      in_range = range;
      settles = settles;
      rests = record {
        sleeps = rw o.events (sleeps_stay s.facts w w1 s.queues.events who Active new active phases refl refl (λ e. refl) (λ e. refl) k.rests.sleeps);
        trades = trades_sends s.facts w w1 s.queues.buffers s'.queues.buffers buffer one.value back active phases same.processes same.stored o.lengths h.stored more h.receivers trades;
        hears = rw o.signals (hears_stay s.facts w w1 s.queues.signals who Active new active phases same.processes same.pending refl refl k.rests.hears);
        sends = o.sends ∙ ap (λ n. n + 1) k.rests.sends ∙ sym same.sends;
        last = let f = ap (λ (g : SeenSignals). g.last) o.signals in (o.last, omega (arith, f, o.sends, k.rests.last.1));
        store = rw (o.store, same.store) k.rests.store;
        locations = ap length same.store ∙ k.rests.locations;
        input = ap (λ n. drop n s.facts.input) o.read ∙ k.rests.input ∙ sym same.input;
        read = rw o.read k.rests.read;
        argues = rw (o.taken, o.argued) (record { each = k.rests.argues.each ∙ sym (ap length same.arguments); same = λ n low. k.rests.argues.same n low ∙ sym (ap (λ (l : List (List ℤ)). slice_get l n) same.arguments) });
      };
    }) o.taken

-- RECEIVE of signals, over the state.
use Rattle.std.proofs.Common.{◌≡◌, ℕ, ◌≤◌, List, [], ◌∷◌, ◌++◌, ℤ, drop, length, length-set, refl, sym, ap, ◌∙◌, arith, subst, Option, Some, None, slice_get, slice_set}
use Rattle.std.proofs.lemmas.Option.{slice_get_within, get_or_from_slice_get}
use Rattle.std.proofs.lemmas.List.Elements.{All-get_or}
use Rattle.std.specs.Prelude.{Bool, IfSome, slice_index_or}
use Rattle.kernel_base.specs.declared.facts.Facts.{Facts}
use Rattle.kernel_base.specs.declared.request.Alternative.{Alternative}
use Rattle.kernel_base.specs.declared.request.Request.{Request}
use Rattle.kernel_base.specs.declared.request.Request.TheVariants.{Read, Write, Enter, Leave, Delay, Continue, SendBuffer, ReceiveBuffer, SendSignal, ReceiveSignal, Start, Put, Get, End}
use Rattle.kernel_base.specs.declared.answer.Answer.{Answer}
use Rattle.kernel_base.specs.declared.answer.Answer.TheVariants.{Value, Done, Woken, Got, Otherwise, Instance, Fail, Chose, Handed, Stored}
use Rattle.kernel_base.specs.declared.event.Event.{Event}
use Rattle.kernel_base.specs.declared.event.Event.TheVariants.{Did, Waits, Goes, Runs}
use Rattle.world_model.specs.declared.world.Phase.{Phase}
use Rattle.world_model.specs.declared.world.Phase.TheVariants.{Active, Waiting}
use Rattle.world_model.specs.declared.world.World.{World}
use Rattle.world_model.specs.Lists.{last_of}
use Rattle.world_model.specs.Ranges.{IsNumber, IsInRange}
use Rattle.world_model.specs.World.{opening, after, held_by, signals_but, world_of}
use Rattle.world_model.specs.Allowed.{IsAllowed, MustWait}
use Rattle.world_model.specs.Laws.{Message, if_sent, next_message, sent_in}
use Rattle.world_model.proofs.RunParts.{one_more}
use Rattle.world_model.proofs.Sent.{each_value_once_law}
use Rattle.buffers_signals.specs.declared.messages.Receiver.{Receiver}
use Rattle.buffers_signals.specs.Lists.{receiver_of}
use Rattle.buffers_signals.specs.Signals as signals
use Rattle.kernel_steps.specs.declared.reply.Reply.TheVariants.{Now, Later}
use Rattle.kernel_steps.specs.declared.seats.Going.{Going}
use Rattle.kernel_steps.specs.declared.state.Ready.{Ready}
use Rattle.kernel_steps.specs.declared.state.State.{State}
use Rattle.kernel_steps.specs.Queued.{hearing_in}
use Rattle.kernel_steps.specs.Seated.{Settles, waiting}
use Rattle.kernel_steps.specs.Kept.{world_in, width_in, IsBook, count_of_scalars}
use Rattle.kernel_steps.specs.Serving.{CanServe, Serves, goes_of}
use Rattle.kernel_steps.proofs.Keyed.{mirror_begin}
use Rattle.kernel_steps.proofs.Queued.{sleeps_stay, trades_stay}
use Rattle.kernel_steps.proofs.Quiet.{freed_keeps}
use Rattle.kernel_steps.proofs.Telling.{nothing_pends, takes_signal}
use Rattle.kernel_steps.proofs.Served.{argues_same, sleeps_same, trades_same, serves_later}
use Rattle.kernel_steps.proofs.Plain.{InRange, plain_serves}
use Rattle.buffers_signals.specs.Buffers.{SeenBuffers}

-- how many scalars a message has
abbrev width_told : Option Message → ℕ
width_told None = 0
width_told (Some message) = length message.scalars

signal_width : (w : World) (who : ℕ) (scalars : List ℤ) (answer : Answer) → width_told (if_sent answer (next_message w who scalars)) ≤ length scalars
signal_width w who scalars (Value v) = omega arith
signal_width w who scalars Done = omega arith
signal_width w who scalars (Woken alternative by) = omega arith
signal_width w who scalars (Got alternative send v by) = omega arith
signal_width w who scalars Otherwise = omega arith
signal_width w who scalars (Instance i) = omega arith
signal_width w who scalars (Fail exception) = omega arith
signal_width w who scalars (Chose p) = omega arith
signal_width w who scalars (Handed p) = omega arith
signal_width w who scalars Stored = omega arith

-- a message is no wider than the request that sent it
sent_width : (w : World) (event : Event) → width_told (sent_in w event) ≤ width_in event
sent_width w (Did who ticks (Read place) answer refill) = omega arith
sent_width w (Did who ticks (Write place scalars) answer refill) = omega arith
sent_width w (Did who ticks (Enter region) answer refill) = omega arith
sent_width w (Did who ticks (Leave region) answer refill) = omega arith
sent_width w (Did who ticks (Delay events priority) answer refill) = omega arith
sent_width w (Did who ticks (Continue event) answer refill) = omega arith
sent_width w (Did who ticks (SendBuffer buffer scalars priority) answer refill) = omega arith
sent_width w (Did who ticks (ReceiveBuffer buffers otherwise) answer refill) = omega arith
sent_width w (Did who ticks (SendSignal signal scalars to priority) answer refill) = signal_width w who scalars answer
sent_width w (Did who ticks (ReceiveSignal signals otherwise) answer refill) = omega arith
sent_width w (Did who ticks (Start process scalars) answer refill) = omega arith
sent_width w (Did who ticks (Put bytes) answer refill) = omega arith
sent_width w (Did who ticks Get answer refill) = omega arith
sent_width w (Did who ticks (End how) answer refill) = omega arith
sent_width w (Waits who ticks (Read place)) = omega arith
sent_width w (Waits who ticks (Write place scalars)) = omega arith
sent_width w (Waits who ticks (Enter region)) = omega arith
sent_width w (Waits who ticks (Leave region)) = omega arith
sent_width w (Waits who ticks (Delay events priority)) = omega arith
sent_width w (Waits who ticks (Continue event)) = omega arith
sent_width w (Waits who ticks (SendBuffer buffer scalars priority)) = omega arith
sent_width w (Waits who ticks (ReceiveBuffer buffers otherwise)) = omega arith
sent_width w (Waits who ticks (SendSignal signal scalars to priority)) = omega arith
sent_width w (Waits who ticks (ReceiveSignal signals otherwise)) = omega arith
sent_width w (Waits who ticks (Start process scalars)) = omega arith
sent_width w (Waits who ticks (Put bytes)) = omega arith
sent_width w (Waits who ticks Get) = omega arith
sent_width w (Waits who ticks (End how)) = omega arith
sent_width w (Goes who answer) = omega arith
sent_width w (Runs who ticks) = omega arith

placed : (front : List Event) (event : Event) (rest : List Event) → slice_get (front ++ event ∷ rest) (length front) ≡ Some event
placed [] event rest = refl
placed (x ∷ front) event rest = placed front event rest

-- what is got is no wider than any message was
pub got_width : (facts : Facts) (widest : ℕ) (events : List Event) (who ticks alternative send by : ℕ) (request : Request) (scalars : List ℤ) (refill : Option ℕ) → IsBook facts widest events → IsAllowed facts (world_of facts events) (Did who ticks request (Got alternative send scalars by) refill) → length scalars ≤ widest
got_width facts widest events who ticks alternative send by request scalars refill book allowed =
    let event = Did who ticks request (Got alternative send scalars by) refill in
    let message : Message = record { number = send; sender = by; scalars = scalars } in
    let t = each_value_once_law.sent facts events event [] message (one_more facts (opening facts) events event book.run allowed) refl in
    let here : slice_get events (length t.front) ≡ Some t.event = ap (λ (l : List Event). slice_get l (length t.front)) t.parts ∙ placed t.front t.event t.rest in
    let low = slice_get_within events (length t.front) t.event here in
    let is = get_or_from_slice_get events (length t.front) t.event t.event here in
    let wide : width_in t.event ≤ widest = subst (λ (e : Event). width_in e ≤ widest) is (All-get_or (λ (e : Event). width_in e ≤ widest) events (length t.front) t.event low book.widths) in
    let told = sent_width (world_of facts t.front) t.event in
    let width : width_told (sent_in (world_of facts t.front) t.event) ≡ length scalars = ap width_told t.sends in
    omega (arith, wide, told, width)

-- all but the seats and the signals is as it was
pub record KeepsOthers (s s' : State) : Type 0 where
  pub facts : s'.facts ≡ s.facts
  pub widest : s'.widest ≡ s.widest
  pub ready : s'.ready ≡ s.ready
  pub events : s'.queues.events ≡ s.queues.events
  pub buffers : s'.queues.buffers ≡ s.queues.buffers
  pub store : s'.store ≡ s.store
  pub read : s'.read ≡ s.read
  pub taken : s'.taken ≡ s.taken
  pub argued : s'.arguments ≡ s.arguments
  pub sends : s'.queues.sends ≡ s.queues.sends
  pub wanted : s'.queues.signals.wanted ≡ s.queues.signals.wanted
  pub last : s'.queues.signals.last ≡ s.queues.signals.last

pub takes_serves : (s s' : State) (who ticks : ℕ) (list : List Alternative) (otherwise : Bool) (answer : Answer) (refill : Option ℕ) (r : Ready) → CanServe s who (ReceiveSignal list otherwise) r → InRange who ticks answer → KeepsOthers s s' → s'.seats ≡ s.seats
    → signals.Takes s.queues.signals s'.queues.signals who (slice_index_or (world_in s).processes who 0) list answer refill → s'.journal.events ≡ s.journal.events ++ Did who ticks (ReceiveSignal list otherwise) answer None ∷ [] → Serves s s' who ticks (ReceiveSignal list otherwise) (Now answer)
takes_serves s s' who ticks list otherwise answer refill r can range o seats h journal =
    let k = can.kept in
    let w = world_in s in
    let request = ReceiveSignal list otherwise in
    let value = h.taken.value in
    let got : Answer = Got h.choice.alternative value.send value.scalars value.sender in
    let w1 = after s.facts w (Did who ticks request got None) in
    let hears = k.rests.hears in
    subst (λ (a : Answer). Serves s s' who ticks request (Now a)) (sym h.is)
    (plain_serves s s' who ticks request got r can (subst (λ (a : Answer). InRange who ticks a) h.is range) (refl, takes_signal s.facts w s.queues.signals who list h.taken h.choice hears) (omega arith)
    (record { processes = refl; phases = refl; occupants = refl; held = refl; facts = o.facts; widest = o.widest; ready = o.ready; seats = seats; taken = o.taken; events = journal ∙ ap (λ (a : Answer). s.journal.events ++ Did who ticks request a None ∷ []) h.is; plain = refl })
    (record {
      sleeps = rw o.events (sleeps_same s.facts w w1 s.queues.events refl k.rests.sleeps);
      trades = rw o.buffers (trades_same s.facts w w1 s.queues.buffers refl refl refl k.rests.trades);
      hears = record {
        wanted = o.wanted ∙ hears.wanted;
        pending = h.pending ∙ ap (signals_but value.send) hears.pending;
        receivers = rw h.receivers hears.receivers;
      };
      sends = o.sends ∙ k.rests.sends;
      last = let e = ap (λ (b : SeenBuffers). b.last) o.buffers in (omega (arith, e, o.sends, k.rests.last.0), omega (arith, o.last, o.sends, k.rests.last.1));
      store = rw o.store k.rests.store;
      locations = k.rests.locations;
      input = ap (λ n. drop n s.facts.input) o.read ∙ k.rests.input;
      read = rw o.read k.rests.read;
      argues = argues_same w w1 s s' refl o.taken (ap (λ v. v.items) o.argued) k.rests.argues;
    }))

pub nothing_serves : (s s' : State) (who ticks : ℕ) (list : List Alternative) (otherwise : Bool) (r : Ready) → CanServe s who (ReceiveSignal list otherwise) r → IsNumber who → IsNumber ticks → KeepsOthers s s' → s'.seats ≡ s.seats
    → signals.TakesNothing s.queues.signals s'.queues.signals who (slice_index_or (world_in s).processes who 0) list otherwise → s'.journal.events ≡ s.journal.events ++ Did who ticks (ReceiveSignal list otherwise) Otherwise None ∷ [] → Serves s s' who ticks (ReceiveSignal list otherwise) (Now Otherwise)
nothing_serves s s' who ticks list otherwise r can w_in t_in o seats h journal =
    let k = can.kept in
    let w = world_in s in
    let request = ReceiveSignal list otherwise in
    let hears = k.rests.hears in
    plain_serves s s' who ticks request Otherwise r can (record { who = w_in; ticks = t_in; answer = tt }) (refl, (h.written, nothing_pends s.facts w s.queues.signals who list h.nothing hears)) (omega arith)
    (record { processes = refl; phases = refl; occupants = refl; held = refl; facts = o.facts; widest = o.widest; ready = o.ready; seats = seats; taken = o.taken; events = journal; plain = refl })
    (record {
      sleeps = rw o.events k.rests.sleeps;
      trades = rw o.buffers k.rests.trades;
      hears = record { wanted = o.wanted ∙ hears.wanted; pending = h.pending ∙ hears.pending; receivers = rw h.receivers hears.receivers };
      sends = o.sends ∙ k.rests.sends;
      last = let e = ap (λ (b : SeenBuffers). b.last) o.buffers in (omega (arith, e, o.sends, k.rests.last.0), omega (arith, o.last, o.sends, k.rests.last.1));
      store = rw o.store k.rests.store;
      locations = k.rests.locations;
      input = ap (λ n. drop n s.facts.input) o.read ∙ k.rests.input;
      read = rw o.read k.rests.read;
      argues = argues_same w w s s' refl o.taken (ap (λ v. v.items) o.argued) k.rests.argues;
    })

pub delays_serves : (s s' : State) (who ticks : ℕ) (list : List Alternative) (otherwise : Bool) (r : Ready) (going : Option Going) → CanServe s who (ReceiveSignal list otherwise) r → IsNumber who → IsNumber ticks → KeepsOthers s s'
    → signals.DelaysReceiver s.queues.signals s'.queues.signals who (slice_index_or (world_in s).processes who 0) list otherwise
    → s'.journal.events ≡ (s.journal.events ++ Waits who ticks (ReceiveSignal list otherwise) ∷ []) ++ goes_of going → IfSome going (λ g. IsInRange (Goes g.who g.answer))
    → Settles (waiting (world_in s) who (ReceiveSignal list otherwise) None) s.seats s'.seats going → Serves s s' who ticks (ReceiveSignal list otherwise) Later
delays_serves s s' who ticks list otherwise r going can w_in t_in o h journal range settles =
    let k = can.kept in
    let w = world_in s in
    let request = ReceiveSignal list otherwise in
    let hears = k.rests.hears in
    let back = last_of (held_by w who) in
    let new : Phase = Waiting request None back in
    let w1 = waiting w who request None in
    let same = freed_keeps w who back in
    let phases : w1.phases ≡ slice_set w.phases who new = ap (λ l. slice_set l who new) same.phases in
    let active = can.may.goes.active in
    let one : Receiver = record { who = who; process = slice_index_or w.processes who 0; things = list } in
    let must : MustWait s.facts w who request = (h.not_written, nothing_pends s.facts w s.queues.signals who list h.nothing hears) in
    serves_later s s' who ticks request going k must (record {
      may = record {
        allowed = record { in_range = (w_in, t_in, can.in_range); possible = (record { active = active; fits = can.may.fits }, must) };
        width = omega arith;
        burst = tt;
        phases = let e = ap length phases in let l = length-set w.phases who new in omega (arith, e, l);
      };
      facts = o.facts;
      widest = o.widest;
      ready = o.ready;
      events = journal;
      in_range = range;
      settles = settles;
      rests = record {
        sleeps = rw o.events (sleeps_stay s.facts w w1 s.queues.events who Active new active phases refl refl (λ e. refl) (λ e. refl) k.rests.sleeps);
        trades = rw o.buffers (trades_stay s.facts w w1 s.queues.buffers who Active new active phases same.processes same.stored refl refl refl refl k.rests.trades);
        hears = record {
          wanted = o.wanted ∙ hears.wanted;
          pending = h.pending ∙ hears.pending ∙ sym same.pending;
          receivers = rw (phases, same.processes, h.receivers) (mirror_begin receiver_of (hearing_in w.processes) s.queues.signals.receivers w.phases who Active new one active refl refl refl hears.receivers);
        };
        sends = o.sends ∙ k.rests.sends ∙ sym same.sends;
        last = let e = ap (λ (b : SeenBuffers). b.last) o.buffers in (omega (arith, e, o.sends, k.rests.last.0), omega (arith, o.last, o.sends, k.rests.last.1));
        store = rw (o.store, same.store) k.rests.store;
        locations = ap length same.store ∙ k.rests.locations;
        input = ap (λ n. drop n s.facts.input) o.read ∙ k.rests.input ∙ sym same.input;
        read = rw o.read k.rests.read;
        argues = rw (o.taken, o.argued) (record { each = k.rests.argues.each ∙ sym (ap length same.arguments); same = λ n low. k.rests.argues.same n low ∙ sym (ap (λ (l : List (List ℤ)). slice_get l n) same.arguments) });
      };
    }) o.taken

pub takes_width : (s : State) (new : signals.SeenSignals) (who ticks : ℕ) (list : List Alternative) (otherwise : Bool) (answer : Answer) (refill : Option ℕ) (r : Ready) → CanServe s who (ReceiveSignal list otherwise) r → InRange who ticks answer
    → signals.Takes s.queues.signals new who (slice_index_or (world_in s).processes who 0) list answer refill → count_of_scalars answer ≤ s.widest
takes_width s new who ticks list otherwise answer refill r can range h =
    let k = can.kept in
    let w = world_in s in
    let request = ReceiveSignal list otherwise in
    let value = h.taken.value in
    let got : Answer = Got h.choice.alternative value.send value.scalars value.sender in
    let in_range = subst (λ (a : Answer). InRange who ticks a) h.is range in
    let allowed : IsAllowed s.facts w (Did who ticks request got None) = record { in_range = (in_range.who, in_range.ticks, can.in_range, in_range.answer, tt); possible = (record { active = can.may.goes.active; fits = can.may.fits }, (refl, takes_signal s.facts w s.queues.signals who list h.taken h.choice k.rests.hears)) } in
    let width = got_width s.facts s.widest s.journal.events who ticks h.choice.alternative value.send value.sender request value.scalars None k.book allowed in
    subst (λ (a : Answer). count_of_scalars a ≤ s.widest) (sym h.is) width

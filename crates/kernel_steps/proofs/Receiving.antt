-- RECEIVE from buffers, over the state, where a value is there.
use Rattle.std.proofs.Common.{◌≡◌, ℕ, zero, suc, ◌+◌, ◌≤◌, ◌<◌, List, [], ◌∷◌, ◌++◌, ℤ, drop, length, map, length-set, refl, sym, ap, ◌∙◌, arith, subst, Option, Some, None, slice_get, slice_set}
use Rattle.std.specs.Prelude.{Bool, IfSome, slice_index_or}
use Rattle.std.specs.Option.{option_and_then, unwrap_or}
use Rattle.std.proofs.lemmas.Option.{slice_get_within, unwrap_or-slice_get}
use Rattle.std.proofs.lemmas.List.{length-map}
use Rattle.kernel_base.specs.declared.facts.Facts.{Facts}
use Rattle.kernel_base.specs.declared.request.Alternative.{Alternative}
use Rattle.kernel_base.specs.declared.request.Request.TheVariants.{SendBuffer, ReceiveBuffer}
use Rattle.kernel_base.specs.declared.answer.Answer.{Answer}
use Rattle.kernel_base.specs.declared.answer.Answer.TheVariants.{Got, Stored}
use Rattle.kernel_base.specs.declared.event.Event.TheVariants.{Did, Goes}
use Rattle.world_model.specs.declared.world.Phase.{Phase}
use Rattle.world_model.specs.declared.world.Phase.TheVariants.{Waiting, Chosen}
use Rattle.world_model.specs.declared.world.StoredValue.{StoredValue}
use Rattle.world_model.specs.declared.world.World.{World}
use Rattle.world_model.specs.declared.waiting.Offer.{Offer}
use Rattle.world_model.specs.Ranges.{IsNumber, IsInRange}
use Rattle.world_model.specs.Waiting.{phase_of, offer, offer_in}
use Rattle.world_model.specs.World as worlds
use Rattle.world_model.specs.World.{after, with_phase, refilled, refilled_by, refilled_buffer, stored_in, buffer_length}
use Rattle.world_model.specs.Allowed.{IsAllowed, Answers}
use Rattle.kernel_lists.specs.Once.{others}
use Rattle.buffers_signals.specs.declared.messages.Held.{Held}
use Rattle.value_queues.specs.Queues.{with_placed, stored_but}
use Rattle.buffers_signals.specs.Lists.{sender_of, IsIn}
use Rattle.buffers_signals.specs.Buffers as buffers
use Rattle.buffers_signals.specs.Buffers.{SeenBuffers, Values, IsCandidateOf, IsRefilled, values_of, values_but}
use Rattle.kernel_steps.specs.declared.reply.Reply.TheVariants.{Now}
use Rattle.kernel_steps.specs.declared.seats.Going.{Going}
use Rattle.kernel_steps.specs.declared.seats.Seats.{Seats}
use Rattle.kernel_steps.specs.declared.state.Ready.{Ready}
use Rattle.kernel_steps.specs.declared.state.State.{State}
use Rattle.kernel_steps.specs.Queued.{Trades}
use Rattle.kernel_steps.specs.Seated.{Seated, Settles, CanChoose}
use Rattle.kernel_steps.specs.Kept.{world_in, Rests, count_of_scalars}
use Rattle.kernel_steps.specs.Serving.{CanServe, Serves, Refills, goes_of}
use Rattle.kernel_steps.proofs.Queued.{sleeps_stay, hears_stay}
use Rattle.kernel_steps.proofs.Trading.{SameStored, stored_push, stored_without}
use Rattle.kernel_steps.proofs.Refilled.{trades_less, trades_sent}
use Rattle.kernel_steps.proofs.Taking.{Sends, sender_waits, same_length, takes_value}
use Rattle.kernel_steps.proofs.Served.{argues_same, seated_same, sleeps_same, hears_same, serves_now}
use Rattle.kernel_steps.proofs.Plain.{InRange}
use Rattle.kernel_steps.proofs.Hearing.{got_width}
use Rattle.kernel_steps.proofs.NothingThere.{KeepsOthers}
use Rattle.buffers_signals.specs.Signals.{SeenSignals}

-- the world with these values in its buffers
abbrev storing : World → List (List StoredValue) → World
storing w stored = record w { stored = stored }

-- the world without the stored value of a send number
abbrev without_value : World → ℕ → World
without_value w send = storing w (map (worlds.values_but send) w.stored)

-- A sender that waits is chosen, and the values that are stored then.
record Chooses (facts : Facts) (w : World) (old new : SeenBuffers) (send sender : ℕ) : Type 0 where
  pub buffer : ℕ
  pub scalars : List ℤ
  pub priority : ℕ
  pub number : ℕ
  pub back : Option ℕ
  pub is : phase_of w sender ≡ Some (Waiting (SendBuffer buffer scalars priority) (Some number) back)
  pub stored : List (List StoredValue)
  pub world : refilled facts (without_value w send) (Some sender) ≡ with_phase (storing w stored) sender (Chosen Stored back)
  pub each : length stored ≡ length w.stored
  pub values : SameStored new.stored (storing w stored)
  pub senders : new.senders ≡ others sender_of old.senders sender

-- what the offer of one that waits to send is
offer_of : (w : World) (held : Held) (t : Sends w held) → offer w held.value.sender ≡ Some (record { buffer = held.buffer; value = held.value; back = t.back })
offer_of w held t = ap (option_and_then (offer_in held.value.sender)) t.is

-- a buffer of length 0: the sender's own value is taken
offered_chosen : (facts : Facts) (w : World) (old new : SeenBuffers) (held : Held) → buffer_length facts held.buffer ≡ Some zero → IsIn old.senders held → values_of new ≡ record (values_but held.value.send old) { senders = others sender_of old.senders held.value.sender } → Trades facts w old → Chooses facts w old new held.value.send held.value.sender
offered_chosen facts w old new held empty at is h =
    let t = sender_waits facts w old held at h in
    let send = held.value.send in
    let less = without_value w send in
    let o : Offer = record { buffer = held.buffer; value = held.value; back = t.back } in
    let kept : new.stored ≡ stored_but send old.stored = ap (λ (v : Values). v.stored) is in
    record {
      buffer = held.buffer;
      scalars = held.value.scalars;
      priority = held.value.priority;
      number = send;
      back = t.back;
      is = t.is;
      stored = less.stored;
      world = ap (refilled_by facts less held.value.sender) (offer_of w held t) ∙ ap (λ l. with_phase (refilled_buffer less l o) held.value.sender (Chosen Stored t.back)) empty;
      each = length-map w.stored (worlds.values_but send);
      values = stored_without w less old.stored new.stored send refl kept h.stored;
      senders = ap (λ (v : Values). v.senders) is;
    }

has_length : (lengths : List (Option ℕ)) (buffer n : ℕ) (at : Option (Option ℕ)) → slice_get lengths buffer ≡ at → unwrap_or at None ≡ Some n → buffer < length lengths
has_length lengths buffer n None at is = absurd (let f : ⊥ = cc in f)
has_length lengths buffer n (Some l) at is = slice_get_within lengths buffer l at

-- a buffer that stores values: the sender's value takes the place of the one that is taken
stored_chosen : (facts : Facts) (w : World) (old new : SeenBuffers) (send buffer n sender : ℕ) → buffer_length facts buffer ≡ Some (suc n) → IsRefilled (values_but send old) (values_of new) buffer sender → Trades facts w old → Chooses facts w old new send sender
stored_chosen facts w old new send buffer n sender most r h =
    let held = r.offer in
    let t = sender_waits facts w old held r.waits h in
    let less = without_value w send in
    let o : Offer = record { buffer = held.buffer; value = held.value; back = t.back } in
    let most' : buffer_length facts held.buffer ≡ Some (suc n) = ap (buffer_length facts) r.buffer_is ∙ most in
    let room = has_length facts.buffers held.buffer (suc n) (slice_get facts.buffers held.buffer) refl (unwrap_or-slice_get facts.buffers held.buffer None ∙ most') in
    let less_each : length less.stored ≡ length w.stored = length-map w.stored (worlds.values_but send) in
    let low : held.buffer < length less.stored = let e = h.each in omega (arith, room, e, less_each) in
    let there : held.buffer < length (stored_but send old.stored) = subst (λ (n : ℕ). n < length (stored_but send old.stored)) (sym r.buffer_is) r.there in
    let stored : new.stored ≡ with_placed (stored_but send old.stored) held.buffer held.value = r.stored ∙ ap (λ (n : ℕ). with_placed (stored_but send old.stored) n held.value) (sym r.buffer_is) in
    let all : List (List StoredValue) = slice_set less.stored held.buffer (stored_in less held.buffer ++ held.value ∷ []) in
    subst (λ p. Chooses facts w old new send p) r.sender_is
    (record {
      buffer = held.buffer;
      scalars = held.value.scalars;
      priority = held.value.priority;
      number = held.value.send;
      back = t.back;
      is = t.is;
      stored = all;
      world = ap (refilled_by facts less held.value.sender) (offer_of w held t) ∙ ap (λ l. with_phase (refilled_buffer less l o) held.value.sender (Chosen Stored t.back)) most';
      each = length-set less.stored held.buffer (stored_in less held.buffer ++ held.value ∷ []) ∙ less_each;
      values = stored_push less (storing w all) (stored_but send old.stored) new.stored held low there refl stored (stored_without w less old.stored (stored_but send old.stored) send refl refl h.stored);
      senders = r.senders ∙ ap (λ p. others sender_of old.senders p) (sym r.sender_is);
    })

chosen_by_length : (facts : Facts) (w : World) (old new : SeenBuffers) (held : Held) (sender : ℕ) (most : Option ℕ) → buffer_length facts held.buffer ≡ most → IsCandidateOf most old held → buffers.Refills most (values_but held.value.send old) (values_of new) held.buffer held.value.sender (Some sender) → Trades facts w old → Chooses facts w old new held.value.send sender
chosen_by_length facts w old new held sender None is may r h = absurd (let e = r.0 in let f : ⊥ = cc in f)
chosen_by_length facts w old new held sender (Some zero) is may r h =
    let e = r.0 in
    let same : held.value.sender ≡ sender = cc in
    subst (λ p. Chooses facts w old new held.value.send p) same (offered_chosen facts w old new held is may r.1 h)
chosen_by_length facts w old new held sender (Some (suc n)) is may r h = stored_chosen facts w old new held.value.send held.buffer n sender is r h

-- the sender that the part names, in the world
sender_chosen : (facts : Facts) (w : World) (old new : SeenBuffers) (list : List Alternative) (answer : Answer) (sender : ℕ) → (h : buffers.Takes old new list answer (Some sender)) → Trades facts w old → Chooses facts w old new h.taken.value.send sender
sender_chosen facts w old new list answer sender h trades =
    let same = same_length facts w old h.taken.buffer trades in
    chosen_by_length facts w old new h.taken sender (buffer_length facts h.taken.buffer) refl
    (subst (λ (l : Option ℕ). IsCandidateOf l old h.taken) same h.choice.candidate)
    (subst (λ (l : Option ℕ). buffers.Refills l (values_but h.taken.value.send old) (values_of new) h.taken.buffer h.taken.value.sender (Some sender)) same h.refills) trades

-- it waits, and may be chosen
pub can_choose_sender : (s : State) (new : SeenBuffers) (who : ℕ) (list : List Alternative) (otherwise : Bool) (answer : Answer) (refill : Option ℕ) (r : Ready) → CanServe s who (ReceiveBuffer list otherwise) r → buffers.Takes s.queues.buffers new list answer refill → IfSome refill (CanChoose s.seats)
can_choose_sender s new who list otherwise answer None r can h = tt
can_choose_sender s new who list otherwise answer (Some sender) r can h =
    let c = sender_chosen s.facts (world_in s) s.queues.buffers new list answer sender h can.kept.rests.trades in
    (world_in s, SendBuffer c.buffer c.scalars c.priority, Some c.number, c.back, can.kept.seated, c.is)

-- the same values are left where nobody is chosen
values_left : (most : Option ℕ) (old new : Values) (buffer by : ℕ) → buffers.Refills most old new buffer by None → new ≡ old
values_left None old new buffer by r = r.1
values_left (Some zero) old new buffer by r = absurd (let e = r.0 in let f : ⊥ = cc in f)
values_left (Some (suc n)) old new buffer by r = r.1

-- the answer of a value that is taken
abbrev got : ℕ → StoredValue → Answer
got alternative value = Got alternative value.send value.scalars value.sender

may_get : (s : State) (new : SeenBuffers) (who : ℕ) (list : List Alternative) (otherwise : Bool) (answer : Answer) (refill : Option ℕ) (r : Ready) → CanServe s who (ReceiveBuffer list otherwise) r → (h : buffers.Takes s.queues.buffers new list answer refill) → Answers s.facts (world_in s) who (ReceiveBuffer list otherwise) (got h.choice.alternative h.taken.value) refill
may_get s new who list otherwise answer refill r can h = (h.taken.value.priority, takes_value s.facts (world_in s) s.queues.buffers new list h.taken refill h.choice h.refills can.kept.rests.trades)

may_come : (s : State) (new : SeenBuffers) (who ticks : ℕ) (list : List Alternative) (otherwise : Bool) (answer : Answer) (refill : Option ℕ) (r : Ready) → CanServe s who (ReceiveBuffer list otherwise) r → InRange who ticks answer → IfSome refill IsNumber → (h : buffers.Takes s.queues.buffers new list answer refill)
    → IsAllowed s.facts (world_in s) (Did who ticks (ReceiveBuffer list otherwise) (got h.choice.alternative h.taken.value) refill)
may_come s new who ticks list otherwise answer refill r can range number h =
    let in_range = subst (λ (a : Answer). InRange who ticks a) h.is range in
    record { in_range = (in_range.who, in_range.ticks, can.in_range, in_range.answer, number); possible = (record { active = can.may.goes.active; fits = can.may.fits }, may_get s new who list otherwise answer refill r can h) }

pub takes_width : (s : State) (new : SeenBuffers) (who ticks : ℕ) (list : List Alternative) (otherwise : Bool) (answer : Answer) (refill : Option ℕ) (r : Ready) → CanServe s who (ReceiveBuffer list otherwise) r → InRange who ticks answer → IfSome refill IsNumber
    → buffers.Takes s.queues.buffers new list answer refill → count_of_scalars answer ≤ s.widest
takes_width s new who ticks list otherwise answer refill r can range number h =
    let value = h.taken.value in
    let width = got_width s.facts s.widest s.journal.events who ticks h.choice.alternative value.send value.sender (ReceiveBuffer list otherwise) value.scalars refill can.kept.book (may_come s new who ticks list otherwise answer refill r can range number h) in
    subst (λ (a : Answer). count_of_scalars a ≤ s.widest) (sym h.is) width

-- what is left in the world, and what goes on
record Leaves (s s' : State) (w1 : World) (going : Option Going) : Type 0 where
  pub phases : length w1.phases ≤ length (world_in s).phases + 1
  pub settles : Settles w1 s.seats s'.seats going
  pub rests : Rests s.facts w1 s'

leaves_none : (s s' : State) (list : List Alternative) (answer : Answer) (going : Option Going) → Rests s.facts (world_in s) s → Seated (world_in s) s.seats → KeepsOthers s s' → (h : buffers.Takes s.queues.buffers s'.queues.buffers list answer None)
    → Refills s.seats s'.seats None going → Leaves s s' (without_value (world_in s) h.taken.value.send) going
leaves_none s s' list answer going k seated o h chooses =
    let w = world_in s in
    let send = h.taken.value.send in
    let w1 = without_value w send in
    let left = values_left (slice_index_or s.queues.buffers.lengths h.taken.buffer None) (values_but send s.queues.buffers) (values_of s'.queues.buffers) h.taken.buffer h.taken.value.sender h.refills in
    subst (λ (g : Option Going). Leaves s s' w1 g) (sym chooses.1)
    (record {
      phases = omega arith;
      settles = record {
        seated = subst (λ (x : Seats). Seated w1 x) (sym chooses.0) (seated_same w w1 s.seats refl refl refl refl seated);
        answer = ap (λ (x : Seats). x.unfetched.items) chooses.0;
      };
      rests = record {
        sleeps = rw o.events (sleeps_same s.facts w w1 s.queues.events refl k.sleeps);
        trades = trades_less s.facts w w1 s.queues.buffers s'.queues.buffers send refl refl refl o.lengths (ap (λ (v : Values). v.stored) left) (ap (λ (v : Values). v.senders) left) h.receivers k.trades;
        hears = rw o.signals (hears_same s.facts w w1 s.queues.signals refl refl refl k.hears);
        sends = o.sends ∙ k.sends;
        last = let f = ap (λ (g : SeenSignals). g.last) o.signals in (omega (arith, o.last, o.sends, k.last.0), omega (arith, f, o.sends, k.last.1));
        store = rw o.store k.store;
        locations = k.locations;
        input = ap (λ n. drop n s.facts.input) o.read ∙ k.input;
        read = rw o.read k.read;
        argues = argues_same w w1 s s' refl o.taken (ap (λ v. v.items) o.argued) k.argues;
      };
    })

leaves_some : (s s' : State) (list : List Alternative) (answer : Answer) (sender : ℕ) (going : Option Going) → Rests s.facts (world_in s) s → Seated (world_in s) s.seats → KeepsOthers s s' → (h : buffers.Takes s.queues.buffers s'.queues.buffers list answer (Some sender))
    → Refills s.seats s'.seats (Some sender) going → Leaves s s' (refilled s.facts (without_value (world_in s) h.taken.value.send) (Some sender)) going
leaves_some s s' list answer sender going k seated o h chooses =
    let w = world_in s in
    let c = sender_chosen s.facts w s.queues.buffers s'.queues.buffers list answer sender h k.trades in
    let old : Phase = Waiting (SendBuffer c.buffer c.scalars c.priority) (Some c.number) c.back in
    let new : Phase = Chosen Stored c.back in
    let next = storing w c.stored in
    let w1 = with_phase next sender new in
    subst (λ (x : World). Leaves s s' x going) (sym c.world)
    (record {
      phases = let l = length-set w.phases sender new in omega (arith, l);
      settles = chooses next (SendBuffer c.buffer c.scalars c.priority) (Some c.number) c.back (seated_same w next s.seats refl refl refl refl seated) c.is;
      rests = record {
        sleeps = rw o.events (sleeps_stay s.facts w w1 s.queues.events sender old new c.is refl refl refl (λ e. refl) (λ e. refl) k.sleeps);
        trades = trades_sent s.facts w w1 s.queues.buffers s'.queues.buffers sender c.buffer c.scalars c.priority (Some c.number) c.back new c.is refl refl refl refl c.each c.values o.lengths c.senders h.receivers k.trades;
        hears = rw o.signals (hears_stay s.facts w w1 s.queues.signals sender old new c.is refl refl refl refl refl k.hears);
        sends = o.sends ∙ k.sends;
        last = let f = ap (λ (g : SeenSignals). g.last) o.signals in (omega (arith, o.last, o.sends, k.last.0), omega (arith, f, o.sends, k.last.1));
        store = rw o.store k.store;
        locations = k.locations;
        input = ap (λ n. drop n s.facts.input) o.read ∙ k.input;
        read = rw o.read k.read;
        argues = argues_same w w1 s s' refl o.taken (ap (λ v. v.items) o.argued) k.argues;
      };
    })

leaves_by : (s s' : State) (list : List Alternative) (answer : Answer) (refill : Option ℕ) (going : Option Going) → Rests s.facts (world_in s) s → Seated (world_in s) s.seats → KeepsOthers s s' → (h : buffers.Takes s.queues.buffers s'.queues.buffers list answer refill)
    → Refills s.seats s'.seats refill going → Leaves s s' (refilled s.facts (without_value (world_in s) h.taken.value.send) refill) going
leaves_by s s' list answer None going k seated o h chooses = leaves_none s s' list answer going k seated o h chooses
leaves_by s s' list answer (Some sender) going k seated o h chooses = leaves_some s s' list answer sender going k seated o h chooses

pub takes_serves : (s s' : State) (who ticks : ℕ) (list : List Alternative) (otherwise : Bool) (answer : Answer) (refill : Option ℕ) (r : Ready) (going : Option Going) → CanServe s who (ReceiveBuffer list otherwise) r → InRange who ticks answer → IfSome refill IsNumber → KeepsOthers s s'
    → buffers.Takes s.queues.buffers s'.queues.buffers list answer refill → Refills s.seats s'.seats refill going
    → s'.journal.events ≡ (s.journal.events ++ Did who ticks (ReceiveBuffer list otherwise) answer refill ∷ []) ++ goes_of going → IfSome going (λ g. IsInRange (Goes g.who g.answer)) → Serves s s' who ticks (ReceiveBuffer list otherwise) (Now answer)
takes_serves s s' who ticks list otherwise answer refill r going can range number o h chooses journal goes_range =
    let k = can.kept in
    let request = ReceiveBuffer list otherwise in
    let told = got h.choice.alternative h.taken.value in
    let left = leaves_by s s' list answer refill going k.rests k.seated o h chooses in
    subst (λ (a : Answer). Serves s s' who ticks request (Now a)) (sym h.is)
    (serves_now s s' who ticks request told refill going k (may_get s s'.queues.buffers who list otherwise answer refill r can h) (record {
      may = record { allowed = may_come s s'.queues.buffers who ticks list otherwise answer refill r can range number h; width = omega arith; burst = tt; phases = left.phases };
      facts = o.facts;
      widest = o.widest;
      ready = o.ready;
      events = journal ∙ ap (λ (a : Answer). (s.journal.events ++ Did who ticks request a refill ∷ []) ++ goes_of going) h.is;
      in_range = goes_range;
      settles = left.settles;
      rests = left.rests;
    }) refl o.taken)

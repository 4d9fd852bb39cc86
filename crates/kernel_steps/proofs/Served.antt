-- A request is served by an event that follows.
use Rattle.std.proofs.Common.{◌≡◌, ℕ, ◌≤◌, List, [], ◌∷◌, ℤ, length, drop, append_assoc, refl, sym, ap, ◌∙◌, subst, Option, Some, None, slice_get, slice_set}
use Rattle.kernel_base.specs.declared.facts.Facts.{Facts}
use Rattle.kernel_base.specs.declared.request.Request.{Request}
use Rattle.kernel_base.specs.declared.answer.Answer.{Answer}
use Rattle.kernel_base.specs.declared.event.Event.{Event}
use Rattle.kernel_base.specs.declared.event.Event.TheVariants.{Did, Waits}
use Rattle.world_model.specs.declared.world.Phase.{Phase}
use Rattle.world_model.specs.declared.world.StoredValue.{StoredValue}
use Rattle.world_model.specs.declared.world.World.{World}
use Rattle.world_model.specs.Waiting.{sleeper_in}
use Rattle.world_model.specs.Allowed.{Answers, MustWait}
use Rattle.event_queues.specs.Delayed.{Sets, listed_in}
use Rattle.buffers_signals.specs.Lists.{sender_of}
use Rattle.buffers_signals.specs.Buffers.{SeenBuffers}
use Rattle.buffers_signals.specs.Signals.{SeenSignals}
use Rattle.kernel_steps.specs.declared.reply.Reply.TheVariants.{Now, Later}
use Rattle.kernel_steps.specs.declared.seats.Going.{Going}
use Rattle.kernel_steps.specs.declared.seats.Seats.{Seats}
use Rattle.kernel_steps.specs.declared.state.Queues.{Queues}
use Rattle.kernel_steps.specs.declared.state.State.{State}
use Rattle.kernel_steps.specs.Keyed.{AreTold, Mirrors}
use Rattle.kernel_steps.specs.Queued.{delayed_in, sending_in, receiving_in, hearing_in, Sleeps, Trades, Hears}
use Rattle.kernel_steps.specs.Seated.{Seated, Settles}
use Rattle.kernel_steps.specs.Kept.{world_in, Rests, Argues, AreDrawn, IsKept, Stores}
use Rattle.kernel_steps.specs.View.{view_of, handed, handed_by, IsGoing, Grows}
use Rattle.kernel_steps.specs.Serving.{Serves, goes_of}
use Rattle.kernel_steps.proofs.Placed.{placed_same}
use Rattle.kernel_steps.proofs.Idle.{idle_fewer}
use Rattle.kernel_steps.proofs.Queued.{sleeps_stay, trades_stay, hears_stay}
use Rattle.kernel_steps.proofs.Keeping.{Follows, kept_by}
use Rattle.std.specs.List.{AllByRecursion, count_by}
use Rattle.std.specs.Prelude.{is_some, slice_index_or}
use Rattle.world_model.specs.World.{after}
use Rattle.kernel_steps.specs.Shuffled.{Shuffled}
use Rattle.value_queues.specs.Queues.{values_in}

-- a world of the same instances and regions
pub seated_same : (w w' : World) (s : Seats) → w'.processes ≡ w.processes → w'.phases ≡ w.phases → w'.occupants ≡ w.occupants → w'.held ≡ w.held → Seated w s → Seated w' s
seated_same w w' s p ph o h k = record {
  placed = placed_same w w' s p ph o h k.placed;
  idle = idle_fewer w w' (λ region free. ap (λ (l : List (Option ℕ)). slice_get l region) (sym o) ∙ free) (λ who answer back at. ap (λ (l : List Phase). slice_get l who) (sym ph) ∙ at) k.idle;
}

pub sleeps_same : (facts : Facts) (w w' : World) (s : Sets) → w'.phases ≡ w.phases → Sleeps facts w s → Sleeps facts w' s
sleeps_same facts w w' s ph h = record { lengths = h.lengths; each = h.each; delayed = subst (λ (l : List Phase). AreTold delayed_in (listed_in s.delayed) l) (sym ph) h.delayed; counts = λ event ws there. h.counts event ws there ∙ sym (ap (count_by (λ phase. is_some (sleeper_in event phase))) ph) }

pub trades_same : (facts : Facts) (w w' : World) (b : SeenBuffers) → w'.phases ≡ w.phases → w'.processes ≡ w.processes → w'.stored ≡ w.stored → Trades facts w b → Trades facts w' b
trades_same facts w w' b ph p st h = record {
  lengths = h.lengths;
  each = ap length st ∙ h.each;
  stored = λ q. subst (λ (all : List (List StoredValue)). Shuffled (values_in b.stored q) (slice_index_or all q [])) (sym st) (h.stored q);
  senders = subst (λ (l : List Phase). Mirrors sender_of sending_in b.senders l) (sym ph) h.senders;
  receivers = rw (ph, p) h.receivers;
}

pub hears_same : (facts : Facts) (w w' : World) (s : SeenSignals) → w'.phases ≡ w.phases → w'.processes ≡ w.processes → w'.pending ≡ w.pending → Hears facts w s → Hears facts w' s
hears_same facts w w' s ph p pe h = record { wanted = h.wanted; pending = h.pending ∙ sym pe; receivers = rw (ph, p) h.receivers }

-- what a step leaves beside the seats where nobody comes to wait, nothing is sent and nothing is taken
pub record LeavesRest (facts : Facts) (w w' : World) (s s' : State) : Type 0 where
  pub processes : w'.processes ≡ w.processes
  pub stored : w'.stored ≡ w.stored
  pub pending : w'.pending ≡ w.pending
  pub sends : w'.sends ≡ w.sends
  pub arguments : w'.arguments ≡ w.arguments
  pub queues : s'.queues ≡ s.queues
  pub store : Stores facts w' s'.store
  pub locations : length w'.store ≡ length w.store
  pub input : drop s'.read facts.input ≡ w'.input
  pub read : s'.read ≤ length facts.input
  pub taken : s'.taken ≡ s.taken
  pub argued : s'.arguments.items ≡ s.arguments.items

pub argues_same : (w w' : World) (s s' : State) → w'.arguments ≡ w.arguments → s'.taken ≡ s.taken → s'.arguments.items ≡ s.arguments.items → Argues w s.taken s.arguments.items → Argues w' s'.taken s'.arguments.items
argues_same w w' s s' a t i h = record { each = ap length i ∙ h.each ∙ sym (ap length a); same = λ n low. ap (λ (l : List (List ℤ)). slice_get l n) i ∙ h.same n (rw (← t) low) ∙ sym (ap (λ (l : List (List ℤ)). slice_get l n) a) }

pub rests_same : (facts : Facts) (w w' : World) (s s' : State) → w'.phases ≡ w.phases → LeavesRest facts w w' s s' → Rests facts w s → Rests facts w' s'
rests_same facts w w' s s' ph c r = record {
  sleeps = subst (λ (q : Queues). Sleeps facts w' q.events) (sym c.queues) (sleeps_same facts w w' s.queues.events ph r.sleeps);
  trades = subst (λ (q : Queues). Trades facts w' q.buffers) (sym c.queues) (trades_same facts w w' s.queues.buffers ph c.processes c.stored r.trades);
  hears = subst (λ (q : Queues). Hears facts w' q.signals) (sym c.queues) (hears_same facts w w' s.queues.signals ph c.processes c.pending r.hears);
  sends = ap (λ (q : Queues). q.sends) c.queues ∙ r.sends ∙ sym c.sends;
  last = subst AreDrawn (sym c.queues) r.last;
  store = c.store;
  locations = c.locations ∙ r.locations;
  input = c.input;
  read = c.read;
  argues = argues_same w w' s s' c.arguments c.taken c.argued r.argues;
}

-- the same where one phase that tells nothing came in place of another
pub rests_set : (facts : Facts) (w w' : World) (s s' : State) (who : ℕ) (old new : Phase) → slice_get w.phases who ≡ Some old → w'.phases ≡ slice_set w.phases who new
    → delayed_in who old ≡ None → delayed_in who new ≡ None → ((event : ℕ) → sleeper_in event old ≡ None) → ((event : ℕ) → sleeper_in event new ≡ None) → sending_in who old ≡ None → sending_in who new ≡ None
    → receiving_in w.processes who old ≡ None → receiving_in w.processes who new ≡ None → hearing_in w.processes who old ≡ None → hearing_in w.processes who new ≡ None → LeavesRest facts w w' s s' → Rests facts w s → Rests facts w' s'
rests_set facts w w' s s' who old new at ph a b a' b' d e f g h i c r = record {
  sleeps = subst (λ (q : Queues). Sleeps facts w' q.events) (sym c.queues) (sleeps_stay facts w w' s.queues.events who old new at ph a b a' b' r.sleeps);
  trades = subst (λ (q : Queues). Trades facts w' q.buffers) (sym c.queues) (trades_stay facts w w' s.queues.buffers who old new at ph c.processes c.stored d e f g r.trades);
  hears = subst (λ (q : Queues). Hears facts w' q.signals) (sym c.queues) (hears_stay facts w w' s.queues.signals who old new at ph c.processes c.pending h i r.hears);
  sends = ap (λ (q : Queues). q.sends) c.queues ∙ r.sends ∙ sym c.sends;
  last = subst AreDrawn (sym c.queues) r.last;
  store = c.store;
  locations = c.locations ∙ r.locations;
  input = c.input;
  read = c.read;
  argues = argues_same w w' s s' c.arguments c.taken c.argued r.argues;
}

-- what goes on is a going on
only_goes : (going : Option Going) → AllByRecursion IsGoing (goes_of going)
only_goes None = tt
only_goes (Some going) = (tt, tt)

-- the answer of the one that goes on waits to be fetched
settled_answers : (w : World) (s s' : Seats) (going : Option Going) → Settles w s s' going → s'.unfetched.items ≡ handed s.unfetched.items (goes_of going)
settled_answers w s s' None h = h.answer
settled_answers w s s' (Some going) h = h.answer

pub grows_by : (s s' : State) (event : Event) (going : Option Going) → IsKept s → Follows s s' event going → handed_by s.seats.unfetched.items event ≡ s.seats.unfetched.items → s'.taken ≡ s.taken → Grows (view_of s) (view_of s') event
grows_by s s' event going k f plain taken = record {
  goes = goes_of going;
  only = only_goes going;
  events = f.events ∙ append_assoc s.journal.events (event ∷ []) (goes_of going);
  idle = (kept_by s s' event going k f).seated.idle;
  unfetched = settled_answers (after s.facts (world_in s) event) s.seats s'.seats going f.settles ∙ ap (λ (l : List (Option Answer)). handed l (goes_of going)) (sym plain);
  facts = f.facts;
  taken = taken;
}

pub serves_now : (s s' : State) (who ticks : ℕ) (request : Request) (answer : Answer) (refill : Option ℕ) (going : Option Going) → IsKept s → Answers s.facts (world_in s) who request answer refill → Follows s s' (Did who ticks request answer refill) going
    → handed_by s.seats.unfetched.items (Did who ticks request answer refill) ≡ s.seats.unfetched.items → s'.taken ≡ s.taken → Serves s s' who ticks request (Now answer)
serves_now s s' who ticks request answer refill going k may f plain taken = record { kept = kept_by s s' _ going k f; ready = f.ready; served = (refill, may, grows_by s s' _ going k f plain taken) }

pub serves_later : (s s' : State) (who ticks : ℕ) (request : Request) (going : Option Going) → IsKept s → MustWait s.facts (world_in s) who request → Follows s s' (Waits who ticks request) going → s'.taken ≡ s.taken → Serves s s' who ticks request Later
serves_later s s' who ticks request going k must f taken = record { kept = kept_by s s' _ going k f; ready = f.ready; served = (must, grows_by s s' _ going k f refl taken) }

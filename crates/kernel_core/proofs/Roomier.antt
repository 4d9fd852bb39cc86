-- A state that is as before but for its room stands for the same world.
use Rattle.std.proofs.Common.{◌≡◌, ◌≤◌, ℕ, List, length, slice_get, refl, sym, ap, ◌∙◌, arith, subst, Option, None}
use Rattle.std.proofs.lemmas.List.Elements.{All-weaker}
use Rattle.kernel_base.specs.declared.facts.Facts.{Facts}
use Rattle.kernel_base.specs.declared.answer.Answer.{Answer}
use Rattle.kernel_base.specs.declared.event.Event.{Event}
use Rattle.kernel_base.specs.Facts.{IsSound}
use Rattle.world_model.specs.declared.world.World.{World}
use Rattle.world_model.specs.World.{world_of, stored_in}
use Rattle.region_kernel.specs.declared.regions.Lock.{Lock}
use Rattle.region_kernel.specs.Regions.{held_by}
use Rattle.event_queues.specs.declared.sets.Delayed.{Delayed}
use Rattle.event_queues.specs.Delayed.{listed_in}
use Rattle.wait_queues.specs.declared.waiters.Waiter.{Waiter}
use Rattle.world_model.specs.declared.world.StoredValue.{StoredValue}
use Rattle.value_queues.specs.Queues.{values_in}
use Rattle.kernel_steps.specs.declared.seats.Copies.{Copies}
use Rattle.kernel_steps.specs.declared.seats.Seats.{Seats}
use Rattle.kernel_steps.specs.declared.state.Queues.{Queues}
use Rattle.kernel_steps.specs.declared.state.Ready.{Ready}
use Rattle.kernel_steps.specs.declared.state.State.{State}
use Rattle.kernel_steps.specs.Queued.{Sleeps, Trades, Hears}
use Rattle.kernel_steps.specs.Shuffled.{Shuffled}
use Rattle.kernel_steps.specs.Seated.{AreQueuedBy, Seated}
use Rattle.kernel_steps.specs.Kept.{world_in, width_in, IsBook, Rests, IsKept}
use Rattle.kernel_steps.proofs.Served.{argues_same}
use Rattle.kernel_core.specs.Roomier.{SameSeats, SameQueues, SameState}

seated_roomier : (w : World) (s t : Seats) → SameSeats s t → Seated w s → Seated w t
seated_roomier w s t h k = record {
  placed = record {
    processes = h.processes ∙ k.placed.processes;
    phases = h.phases ∙ k.placed.phases;
    occupants = h.occupants ∙ k.placed.occupants;
    held = λ who. ap (λ (l : List Lock). held_by l who) h.locks ∙ k.placed.held who;
    queues = subst (λ (qs : List (List ℕ)). AreQueuedBy qs w.phases) (sym h.queues) k.placed.queues;
    backs = λ who request send back at. ap (λ (l : List (Option ℕ)). slice_get l who) h.backs ∙ k.placed.backs who request send back at;
    there = k.placed.there;
    answers = λ who answer back at. ap (λ (l : List (Option Copies)). slice_get l who) h.chosen ∙ k.placed.answers who answer back at;
    zeroth = k.placed.zeroth;
    held_each = k.placed.held_each;
    back_each = ap (λ (l : List (Option ℕ)). length l) h.backs ∙ k.placed.back_each;
    answer_each = ap (λ (l : List (Option Copies)). length l) h.chosen ∙ k.placed.answer_each;
    fetch_each = ap (λ (l : List (Option Answer)). length l) h.unfetched ∙ k.placed.fetch_each;
  };
  idle = k.idle;
}

sleeps_roomier : (facts : Facts) (w : World) (q q' : Queues) → SameQueues q q' → Sleeps facts w q.events → Sleeps facts w q'.events
sleeps_roomier facts w q q' h r = record {
  lengths = h.event_lengths ∙ r.lengths;
  each = ap (λ (l : List (List Waiter)). length l) h.waiting ∙ r.each;
  delayed = λ who. ap (λ (l : List (ℕ × Delayed)). listed_in l who) h.delayed ∙ r.delayed who;
  counts = λ event ws there. r.counts event ws (ap (λ (l : List (List Waiter)). slice_get l event) (sym h.waiting) ∙ there);
}

trades_roomier : (facts : Facts) (w : World) (q q' : Queues) → SameQueues q q' → Trades facts w q.buffers → Trades facts w q'.buffers
trades_roomier facts w q q' h r = record {
  lengths = h.buffer_lengths ∙ r.lengths;
  each = r.each;
  stored = λ buffer. subst (λ (all : List (List StoredValue)). Shuffled (values_in all buffer) (stored_in w buffer)) (sym h.stored) (r.stored buffer);
  senders = rw h.senders r.senders;
  receivers = rw h.receivers r.receivers;
}

hears_roomier : (facts : Facts) (w : World) (q q' : Queues) → SameQueues q q' → Hears facts w q.signals → Hears facts w q'.signals
hears_roomier facts w q q' h r = record { wanted = h.wanted ∙ r.wanted; pending = h.pending ∙ r.pending; receivers = rw h.hearers r.receivers }

rests_roomier : (facts : Facts) (w : World) (s t : State) → SameState s t → Rests facts w s → Rests facts w t
rests_roomier facts w s t h r = record {
  sleeps = sleeps_roomier facts w s.queues t.queues h.queues r.sleeps;
  trades = trades_roomier facts w s.queues t.queues h.queues r.trades;
  hears = hears_roomier facts w s.queues t.queues h.queues r.hears;
  sends = h.queues.sends ∙ r.sends;
  last = (omega (arith, h.queues.last, h.queues.sends, r.last.0), omega (arith, h.queues.last_signal, h.queues.sends, r.last.1));
  store = rw h.store r.store;
  locations = r.locations;
  input = rw h.read r.input;
  read = rw h.read r.read;
  argues = argues_same w w s t refl h.taken h.arguments r.argues;
}

book_wider : (facts : Facts) (widest wider : ℕ) (events : List Event) → widest ≤ wider → IsBook facts widest events → IsBook facts wider events
book_wider facts widest wider events up k = record {
  run = k.run;
  regions = k.regions;
  few = k.few;
  sent = k.sent;
  widths = All-weaker (λ event. width_in event ≤ widest) (λ event. width_in event ≤ wider) (λ event low. omega (arith, low, up)) events k.widths;
  bursts = k.bursts;
}

pub kept_roomier : (s t : State) → SameState s t → IsKept s → IsKept t
kept_roomier s t h k =
    let world : world_in t ≡ world_in s = ap (λ (x : Facts). world_of x t.journal.events) h.facts ∙ ap (world_of s.facts) h.events in
    record {
      sound = subst (λ (x : Facts). IsSound x) (sym h.facts) k.sound;
      book = subst (λ (x : Facts). IsBook x t.widest t.journal.events) (sym h.facts) (subst (λ (es : List Event). IsBook s.facts t.widest es) (sym h.events) (book_wider s.facts s.widest t.widest s.journal.events h.widest k.book));
      seated = subst (λ (x : World). Seated x t.seats) (sym world) (seated_roomier (world_in s) s.seats t.seats h.seats k.seated);
      rests = subst (λ (x : Facts). Rests x (world_in t) t) (sym h.facts) (subst (λ (x : World). Rests s.facts x t) (sym world) (rests_roomier s.facts (world_in s) s t h k.rests));
    }

-- wider buffers, and ready for something else
pub same_wider : (s t : State) (wider : ℕ) (ready : Option Ready) → t.widest ≤ wider → SameState s t → SameState s (record t { widest = wider; ready = ready })
same_wider s t wider ready up h = record {
  facts = h.facts;
  events = h.events;
  seats = h.seats;
  queues = h.queues;
  store = h.store;
  read = h.read;
  arguments = h.arguments;
  taken = h.taken;
  widest = let low = h.widest in omega (arith, low, up);
}

-- what is ready was ready for something else before
pub same_unready : (s t : State) → SameState (record s { ready = None }) t → SameState s t
same_unready s t h = record {
  facts = h.facts;
  events = h.events;
  seats = h.seats;
  queues = h.queues;
  store = h.store;
  read = h.read;
  arguments = h.arguments;
  taken = h.taken;
  widest = h.widest;
}

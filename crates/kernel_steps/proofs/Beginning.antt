-- Before the first event.
use Rattle.std.proofs.Common.{◌≡◌, ℕ, zero, suc, List, [], ◌∷◌, ℤ, Option, None, length, drop, replicate, slice_get, refl, sym, ap, ◌∙◌, subst, arith}
use Rattle.std.specs.Option.{option_and_then}
use Rattle.std.proofs.lemmas.List.{length-map, length-replicate}
use Rattle.kernel_base.specs.declared.facts.Facts.{Facts}
use Rattle.kernel_base.specs.declared.ends.How.TheVariants.{Normal}
use Rattle.kernel_base.specs.declared.event.Event.{Event}
use Rattle.kernel_base.specs.Facts.{IsSound}
use Rattle.world_model.specs.declared.world.Phase.{Phase}
use Rattle.world_model.specs.declared.world.Phase.TheVariants.{Active, Ended}
use Rattle.world_model.specs.declared.world.StoredValue.{StoredValue}
use Rattle.world_model.specs.declared.world.World.{World}
use Rattle.world_model.specs.World.{opening, stored_in, world_of}
use Rattle.kernel_base.specs.Value.{scalars_of}
use Rattle.kernel_lists.specs.Once.{entry_of}
use Rattle.value_queues.specs.Queues.{values_in}
use Rattle.buffers_signals.specs.declared.messages.Held.{Held}
use Rattle.buffers_signals.specs.declared.messages.Receiver.{Receiver}
use Rattle.buffers_signals.specs.Buffers.{SeenBuffers}
use Rattle.buffers_signals.specs.Lists.{receiver_of, sender_of}
use Rattle.kernel_steps.specs.declared.state.State.{State}
use Rattle.kernel_steps.specs.Keyed.{Mirrors}
use Rattle.kernel_steps.specs.Kept.{IsBook, IsKept, Rests, Stores, world_in}
use Rattle.kernel_steps.specs.Queued.{Hears, Sleeps, Trades, receiving_in, sending_in}
use Rattle.kernel_steps.specs.Seated.{Seated}
use Rattle.kernel_steps.specs.Shuffled.{Shuffled}

nobody_told : {X : Type 0} (key : X → ℕ) (tell : ℕ → Phase → Option X) → tell 0 (Ended Normal) ≡ None → tell 1 Active ≡ None → (who : ℕ) → entry_of key [] who ≡ option_and_then (tell who) (slice_get (Ended Normal ∷ Active ∷ []) who)
nobody_told key tell a b zero = sym a
nobody_told key tell a b (suc zero) = sym b
nobody_told key tell a b (suc (suc who)) = refl

mirror_open : {X : Type 0} (key : X → ℕ) (tell : ℕ → Phase → Option X) → tell 0 (Ended Normal) ≡ None → tell 1 Active ≡ None → Mirrors key tell [] (Ended Normal ∷ Active ∷ [])
mirror_open key tell a b = record { each = nobody_told key tell a b; once = λ k x at. absurd (let f : ⊥ = cc in f) }

no_values : (n buffer : ℕ) → values_in (replicate n []) buffer ≡ []
no_values zero buffer = refl
no_values (suc n) zero = refl
no_values (suc n) (suc buffer) = no_values n buffer

shuffled_none : (values : List StoredValue) → values ≡ [] → Shuffled values values
shuffled_none values none = subst (λ (vs : List StoredValue). Shuffled vs vs) (sym none) refl

-- nothing lies in buffers, and nobody waits for them
pub trades_open : (facts : Facts) (b : SeenBuffers) → b.lengths ≡ facts.buffers → b.stored ≡ replicate (length facts.buffers) [] → b.senders ≡ [] → b.receivers ≡ [] → Trades facts (opening facts) b
trades_open facts b lengths stored senders receivers = record {
  lengths = lengths;
  each = length-replicate (length facts.buffers) [];
  stored = λ buffer. subst (λ (all : List (List StoredValue)). Shuffled (values_in all buffer) (stored_in (opening facts) buffer)) (sym stored) (shuffled_none (stored_in (opening facts) buffer) (no_values (length facts.buffers) buffer));
  senders = subst (λ (xs : List Held). Mirrors sender_of sending_in xs (opening facts).phases) (sym senders) (mirror_open sender_of sending_in refl refl);
  receivers = subst (λ (xs : List Receiver). Mirrors receiver_of (receiving_in (opening facts).processes) xs (opening facts).phases) (sym receivers) (mirror_open receiver_of (receiving_in (opening facts).processes) refl refl);
}

book_none : (facts : Facts) (widest : ℕ) → IsBook facts widest []
book_none facts widest = record {
  run = tt;
  regions = length-replicate facts.regions None;
  few = omega arith;
  sent = omega arith;
  widths = λ k d low. absurd (let f : ⊥ = omega (arith, low) in f);
  bursts = λ k d low. absurd (let f : ⊥ = omega (arith, low) in f);
}

all_left : (xs : List ℕ) → drop 0 xs ≡ xs
all_left [] = refl
all_left (x ∷ xs) = refl

-- what is kept before the first event
pub kept_open : (s : State) → IsSound s.facts → s.journal.events ≡ [] → Seated (opening s.facts) s.seats → Sleeps s.facts (opening s.facts) s.queues.events → Trades s.facts (opening s.facts) s.queues.buffers → Hears s.facts (opening s.facts) s.queues.signals → s.queues.sends ≡ 0
    → (s.queues.buffers.last ≡ 0) × (s.queues.signals.last ≡ 0) → Stores s.facts (opening s.facts) s.store → s.read ≡ 0 → s.arguments.items ≡ [] ∷ [] ∷ [] → IsKept s
kept_open s sound events seated sleeps trades hears sends last store read arguments =
    let e : world_in s ≡ opening s.facts = ap (world_of s.facts) events in
    let rests : Rests s.facts (opening s.facts) s = record {
      sleeps = sleeps;
      trades = trades;
      hears = hears;
      sends = sends;
      last = (omega (arith, last.0), omega (arith, last.1));
      store = store;
      locations = length-map s.facts.store scalars_of;
      input = ap (λ (n : ℕ). drop n s.facts.input) read ∙ all_left s.facts.input;
      read = omega (arith, read);
      argues = record { each = ap (λ (l : List (List ℤ)). length l) arguments; same = λ i low. ap (λ (l : List (List ℤ)). slice_get l i) arguments };
    } in
    record {
      sound = sound;
      book = subst (λ (es : List Event). IsBook s.facts s.widest es) (sym events) (book_none s.facts s.widest);
      seated = subst (λ (w : World). Seated w s.seats) (sym e) seated;
      rests = subst (λ (w : World). Rests s.facts w s) (sym e) rests;
    }

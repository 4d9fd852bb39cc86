-- How the queues and the world change together.
use Rattle.std.proofs.Common.{◌≡◌, ℕ, ◌+◌, Bool, List, [], ◌∷◌, ◌++◌, length, sym, ap, ◌∙◌, arith, Some, None, slice_get, slice_set, subst}
use Rattle.std.specs.Prelude.{if◌then◌else◌, slice_index_or, is_some}
use Rattle.std.specs.List.{count_by}
use Rattle.std.proofs.lemmas.Option.{slice_get_within, get_or_from_slice_get}
use Rattle.std.proofs.lemmas.List.Sums.{sum_by-set, sum_by_push, sum_by-cons}
use Rattle.kernel_base.specs.declared.facts.Facts.{Facts}
use Rattle.world_model.specs.declared.world.Phase.{Phase}
use Rattle.world_model.specs.declared.world.World.{World}
use Rattle.world_model.specs.declared.world.StoredValue.{StoredValue}
use Rattle.world_model.specs.Waiting.{sleeper_in, count_of_sleepers}
use Rattle.event_queues.specs.Delayed.{Sets, listed_in}
use Rattle.buffers_signals.specs.Lists.{sender_of, receiver_of}
use Rattle.buffers_signals.specs.Buffers.{SeenBuffers}
use Rattle.buffers_signals.specs.Signals.{SeenSignals}
use Rattle.kernel_steps.specs.Keyed.{AreTold, Mirrors}
use Rattle.kernel_steps.specs.Queued.{delayed_in, sending_in, receiving_in, hearing_in, Sleeps, Trades, Hears}
use Rattle.kernel_steps.proofs.Keyed.{mirror_stay, told_stay}
use Rattle.kernel_steps.specs.Shuffled.{Shuffled}
use Rattle.value_queues.specs.Queues.{values_in}

-- 1 where it holds
abbrev pub one_if : Bool → ℕ
one_if b = if b then 1 else 0

-- a count after one item was written
pub count_set : {X : Type 0} (p : X → Bool) (xs : List X) (i : ℕ) (new old : X) → slice_get xs i ≡ Some old → count_by p (slice_set xs i new) + one_if (p old) ≡ count_by p xs + one_if (p new)
count_set {X} p xs i new old at = ap (λ (x : X). count_by p (slice_set xs i new) + one_if (p x)) (sym (get_or_from_slice_get xs i old old at)) ∙ sum_by-set (λ x. one_if (p x)) xs i new old (slice_get_within xs i old at)

pub count_push : {X : Type 0} (p : X → Bool) (xs : List X) (new : X) → count_by p (xs ++ new ∷ []) ≡ count_by p xs + one_if (p new)
count_push p xs new = sum_by_push (λ x. one_if (p x)) xs new

pub count_cons : {X : Type 0} (p : X → Bool) (x : X) (xs : List X) → count_by p (x ∷ xs) ≡ one_if (p x) + count_by p xs
count_cons p x xs = sum_by-cons (λ y. one_if (p y)) x xs

-- phases that are told by no queue changed
pub sleeps_stay : (facts : Facts) (w w' : World) (s : Sets) (who : ℕ) (old new : Phase) → slice_get w.phases who ≡ Some old → w'.phases ≡ slice_set w.phases who new
    → delayed_in who old ≡ None → delayed_in who new ≡ None → ((event : ℕ) → sleeper_in event old ≡ None) → ((event : ℕ) → sleeper_in event new ≡ None) → Sleeps facts w s → Sleeps facts w' s
sleeps_stay facts w w' s who old new at is was now was' now' h = record {
  lengths = h.lengths;
  each = h.each;
  delayed = subst (λ (phases : List Phase). AreTold delayed_in (listed_in s.delayed) phases) (sym is) (told_stay delayed_in (listed_in s.delayed) w.phases who old new at was now h.delayed);
  counts = λ event ws there.
      let p : Phase → Bool = λ phase. is_some (sleeper_in event phase) in
      let changed = count_set p w.phases who new old at in
      let a : one_if (p old) ≡ 0 = ap (λ o. one_if (is_some o)) (was' event) in
      let b : one_if (p new) ≡ 0 = ap (λ o. one_if (is_some o)) (now' event) in
      let same : count_of_sleepers w' event ≡ count_by p (slice_set w.phases who new) = ap (count_by p) is in
      h.counts event ws there ∙ (let e : count_by p w.phases ≡ count_by p (slice_set w.phases who new) = omega (arith, changed, a, b) in e) ∙ sym same;
}

pub trades_stay : (facts : Facts) (w w' : World) (b : SeenBuffers) (who : ℕ) (old new : Phase) → slice_get w.phases who ≡ Some old → w'.phases ≡ slice_set w.phases who new → w'.processes ≡ w.processes → w'.stored ≡ w.stored
    → sending_in who old ≡ None → sending_in who new ≡ None → receiving_in w.processes who old ≡ None → receiving_in w.processes who new ≡ None → Trades facts w b → Trades facts w' b
trades_stay facts w w' b who old new at is processes stored was now was' now' h = record {
  lengths = h.lengths;
  each = ap length stored ∙ h.each;
  stored = λ buffer. subst (λ (all : List (List StoredValue)). Shuffled (values_in b.stored buffer) (slice_index_or all buffer [])) (sym stored) (h.stored buffer);
  senders = subst (λ (phases : List Phase). Mirrors sender_of sending_in b.senders phases) (sym is) (mirror_stay sender_of sending_in b.senders w.phases who old new at was now h.senders);
  receivers = rw (is, processes) (mirror_stay receiver_of (receiving_in w.processes) b.receivers w.phases who old new at was' now' h.receivers);
}

pub hears_stay : (facts : Facts) (w w' : World) (s : SeenSignals) (who : ℕ) (old new : Phase) → slice_get w.phases who ≡ Some old → w'.phases ≡ slice_set w.phases who new → w'.processes ≡ w.processes → w'.pending ≡ w.pending
    → hearing_in w.processes who old ≡ None → hearing_in w.processes who new ≡ None → Hears facts w s → Hears facts w' s
hears_stay facts w w' s who old new at is processes pending was now h = record {
  wanted = h.wanted;
  pending = h.pending ∙ sym pending;
  receivers = rw (is, processes) (mirror_stay receiver_of (hearing_in w.processes) s.receivers w.phases who old new at was now h.receivers);
}

-- What the best of the pending signals says of all that may be received.
use Rattle.std.proofs.Common.{◌≡◌, ℕ, zero, suc, List, [], ◌∷◌, Bool, true, false, get_or, map, refl, sym, ap, ◌∙◌, slice_get, Option, Some, None, is_some, IsSome, subst}
use Rattle.std.specs.Prelude.{IsFalse, if◌then◌else◌}
use Rattle.std.specs.List.{find}
use Rattle.std.specs.Option.{option_map}
use Rattle.std.proofs.lemmas.Bool.{cases_Bool}
use Rattle.std.proofs.lemmas.Option.{same_Some, slice_get_within, slice_get-map}
use Rattle.kernel_base.specs.declared.request.Alternative.{Alternative}
use Rattle.world_model.specs.declared.world.PendingSignal.{PendingSignal}
use Rattle.world_model.specs.declared.world.StoredValue.{StoredValue}
use Rattle.world_model.specs.Lists.{number_for}
use Rattle.world_model.proofs.ChangedLists.{read_is}
use Rattle.kernel_lists.specs.declared.best.Rank.{Rank}
use Rattle.kernel_lists.specs.declared.best.Best.{Best}
use Rattle.kernel_lists.specs.Best.{precedes_in, IsBest, NoneRanked}
use Rattle.kernel_lists.specs.First.{IsFirst}
use Rattle.kernel_lists.proofs.Entries.{found_at}
use Rattle.value_queues.specs.Queues.{AreInOrder, rank_of}
use Rattle.value_queues.proofs.Ordered.{lower}
use Rattle.signal_queues.specs.Pending.{IsThere, SeenPending, pending_in, queue_of, value_of}
use Rattle.buffers_signals.specs.declared.signals.Chosen.{Chosen}
use Rattle.buffers_signals.specs.Signals.{IsChoice, IsFor, MayTake, NoneFor, NonePends, SeenSignals}
use Rattle.buffers_signals.specs.Pending.{IsChosen, may_take, rank_for, rank_in}
use Rattle.buffers_signals.proofs.Choosing.{listed_at, not_itself, numbered, some_true, thing_at}

-- the first of those in order that pass a test, and one that passes
record FirstFor (test : PendingSignal → Bool) (signals : List PendingSignal) (other : PendingSignal) : Type 0 where
  first : PendingSignal
  found : find test signals ≡ Some first
  before : precedes_in (rank_of other.value) (rank_of first.value) ≡ false

mapped_at : (xs : List PendingSignal) (k : ℕ) (x : PendingSignal) → slice_get xs k ≡ Some x → slice_get (map value_of xs) k ≡ Some x.value
mapped_at xs k x at = slice_get-map value_of xs k ∙ ap (option_map value_of) at

first_by : (test : PendingSignal → Bool) (x : PendingSignal) (xs : List PendingSignal) (k : ℕ) (other : PendingSignal) (t : Bool) → test x ≡ t → test other ≡ true → AreInOrder (map value_of (x ∷ xs)) → slice_get (x ∷ xs) k ≡ Some other
    → ((j : ℕ) → slice_get xs j ≡ Some other → FirstFor test xs other) → FirstFor test (x ∷ xs) other
first_by test x xs zero other true is passes order at rest = record { first = x; found = rw is refl; before = let e : x ≡ other = same_Some x other at in rw e (not_itself (rank_of other.value)) }
first_by test x xs (suc k) other true is passes order at rest = record { first = x; found = rw is refl; before = order.0 k other.value (mapped_at xs k other at) }
first_by test x xs zero other false is passes order at rest = absurd (let e : false ≡ true = sym is ∙ ap test (same_Some x other at) ∙ passes in let f : ⊥ = cc in f)
first_by test x xs (suc k) other false is passes order at rest = let r = rest k at in record { first = r.first; found = rw is r.found; before = r.before }

first_for : (test : PendingSignal → Bool) (xs : List PendingSignal) (k : ℕ) (other : PendingSignal) → AreInOrder (map value_of xs) → slice_get xs k ≡ Some other → test other ≡ true → FirstFor test xs other
first_for test [] k other order at passes = absurd (let f : ⊥ = cc in f)
first_for test (x ∷ xs) k other order at passes = first_by test x xs k other (test x) refl passes order at (λ j there. first_for test xs j other order.1 there passes)

module _ (wanted : List (Option ℕ)) (pending : SeenPending) (who process : ℕ) (signals : List Alternative) (order : (signal : ℕ) → AreInOrder (map value_of (queue_of pending.queues signal)))
    (own : (signal : ℕ) (x : PendingSignal) → IsThere (queue_of pending.queues signal) x → (x.signal ≡ signal) × IsThere (pending_in pending) x) (each : (x : PendingSignal) → IsThere (pending_in pending) x → IsThere (queue_of pending.queues x.signal) x) where
  abbrev Listed : Alternative → Option Rank
  Listed a = rank_for wanted pending.queues who process a.thing

  -- what may be received doesn't go before the first of its queue
  record Ranked (other : PendingSignal) : Type 0 where
    place : ℕ
    alternative : Alternative
    at : slice_get signals place ≡ Some alternative
    rank : Rank
    is : rank_for wanted pending.queues who process alternative.thing ≡ Some rank
    behind : precedes_in (rank_of other.value) rank ≡ false

  ranked : (other : PendingSignal) → MayTake wanted (pending_in pending) who process signals other → Ranked other
  ranked other h =
      let there = thing_at signals other.signal (some_true (number_for signals other.signal) h.listed) in
      let at = each other h.pends in
      let f = first_for (may_take wanted who process) (queue_of pending.queues other.signal) at.0 other (order other.signal) at.1 h.may in
      record {
        place = there.0;
        alternative = there.1;
        at = there.2;
        rank = rank_in f.first;
        is = ap (rank_for wanted pending.queues who process) there.3 ∙ ap (option_map rank_in) f.found;
        behind = f.before;
      }

  pub none_pends : NoneRanked Listed signals → NonePends wanted (pending_in pending) who process signals
  none_pends none other h = let r = ranked other h in let clash : None ≡ Some r.rank = sym (none r.place r.alternative r.at) ∙ r.is in absurd (let f : ⊥ = cc in f)

  -- the first of the queue of the best is the choice
  pub is_chosen : (best : Best) (d : Alternative) (place : ℕ) → IsBest Listed signals best → IsFirst (may_take wanted who process) (queue_of pending.queues (get_or signals best.place d).thing) place
      → IsChosen wanted pending who process signals (record { signal = (get_or signals best.place d).thing; place = place })
  is_chosen best d place is first =
      let thing = (get_or signals best.place d).thing in
      let same : get_or signals best.place d ≡ is.item = read_is signals best.place d is.item is.at in
      let mine = own thing first.item (place, first.at) in
      let rank : best.rank ≡ rank_in first.item = same_Some best.rank (rank_in first.item) (sym is.ranked ∙ ap (λ (a : Alternative). rank_for wanted pending.queues who process a.thing) (sym same) ∙ ap (option_map rank_in) first.found) in
      let listed : is_some (number_for signals first.item.signal) ≡ true = ap (λ (n : ℕ). is_some (number_for signals n)) (mine.0 ∙ ap (λ (a : Alternative). a.thing) same) ∙ listed_at signals best.place is.item is.at in
      record {
        signal = first.item;
        within = slice_get_within (queue_of pending.queues thing) place first.item first.at;
        at = first.at;
        may = record { pends = mine.1; listed = listed; may = (found_at (may_take wanted who process) (queue_of pending.queues thing) first.item first.found).1 };
        best = λ other h. let r = ranked other h in subst (λ (x : Rank). IsFalse (precedes_in (rank_of other.value) x)) rank (lower (rank_of other.value) r.rank best.rank r.behind (is.highest r.place r.alternative r.rank r.at r.is));
      }

  -- the best has a first
  pub first_is_there : (best : Best) (d : Alternative) → IsBest Listed signals best → find (may_take wanted who process) (queue_of pending.queues (get_or signals best.place d).thing) ≡ None → NonePends wanted (pending_in pending) who process signals
  first_is_there best d is none =
      let same : get_or signals best.place d ≡ is.item = read_is signals best.place d is.item is.at in
      let clash : None ≡ Some best.rank = sym (ap (option_map rank_in) none) ∙ ap (λ (a : Alternative). rank_for wanted pending.queues who process a.thing) same ∙ is.ranked in
      absurd (let f : ⊥ = cc in f)

-- the choice, of lists that are those of the signals
pub record ChoiceOf (s : SeenSignals) (who process : ℕ) (signals : List Alternative) (pending : SeenPending) (chosen : Chosen) : Type 0 where
  pub signal : PendingSignal
  pub at : slice_get (queue_of pending.queues chosen.signal) chosen.place ≡ Some signal
  pub choice : IsChoice s who process signals signal

module _ (s : SeenSignals) (who process : ℕ) (signals : List Alternative) (wanted : List (Option ℕ)) (pending : SeenPending) (listed : List Alternative) (ew : wanted ≡ s.wanted) (ep : pending_in pending ≡ s.pending) (el : listed ≡ signals) where
  may_of : (x : PendingSignal) → MayTake wanted (pending_in pending) who process listed x → IsFor s who process signals x
  may_of x h =
      subst (λ (ws : List (Option ℕ)). MayTake ws s.pending who process signals x) ew
      (subst (λ (ps : List PendingSignal). MayTake wanted ps who process signals x) ep
      (subst (λ (ls : List Alternative). MayTake wanted (pending_in pending) who process ls x) el h))

  of_may : (x : PendingSignal) → IsFor s who process signals x → MayTake wanted (pending_in pending) who process listed x
  of_may x h =
      subst (λ (ws : List (Option ℕ)). MayTake ws (pending_in pending) who process listed x) (sym ew)
      (subst (λ (ps : List PendingSignal). MayTake s.wanted ps who process listed x) (sym ep)
      (subst (λ (ls : List Alternative). MayTake s.wanted s.pending who process ls x) (sym el) h))

  pub choice_of : (chosen : Chosen) → IsChosen wanted pending who process listed chosen → ChoiceOf s who process signals pending chosen
  choice_of chosen h =
      let may = may_of h.signal h.may in
      let number = numbered (number_for signals h.signal.signal) may.listed in
      record { signal = h.signal; at = h.at; choice = record { pends = may; alternative = number.0; listed = number.1; best = λ other o. h.best other (of_may other o) } }

  pub none_of : NonePends wanted (pending_in pending) who process listed → NoneFor s who process signals
  none_of none x h = none x (of_may x h)

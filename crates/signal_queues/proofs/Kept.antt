-- The queues keep their room, their order and whose they are.
use Rattle.std.proofs.Common.{◌≡◌, ◌⊎◌, ℕ, zero, suc, ◌+◌, ◌<◌, ◌≤◌, List, [], ◌∷◌, ◌++◌, length, map, replicate, take, drop, append-nil, refl, sym, ap, ◌∙◌, not, subst, inl, inr, arith, Option, Some, None, slice_get, slice_set}
use Rattle.std.specs.Prelude.{◌==◌}
use Rattle.std.specs.List.{insert, remove}
use Rattle.std.specs.Option.{option_map}
use Rattle.std.specs.VecDeque.{deque_items}
use Rattle.std.proofs.lemmas.Bool.{cases_eq}
use Rattle.std.proofs.lemmas.List.{map-set, take-append-drop}
use Rattle.std.proofs.lemmas.Option.{same_Some, slice_get-map, get_or_from_slice_get}
use Rattle.world_model.specs.declared.world.PendingSignal.{PendingSignal}
use Rattle.world_model.specs.declared.world.StoredValue.{StoredValue}
use Rattle.world_model.specs.World.{signals_but}
use Rattle.world_model.proofs.ChangedLists.{written_or_old, written_here, written_elsewhere, pushed_or_old}
use Rattle.kernel_lists.specs.Once.{AreOnce}
use Rattle.kernel_lists.proofs.Entries.{once_others}
use Rattle.value_queues.specs.Queues.{AreInOrder}
use Rattle.signal_queues.specs.Pending.{AreKept, AreSent, IsKept, IsThere, Queue, joined, queue_of, send_of, sent_below, value_of}
use Rattle.signal_queues.proofs.Arrived.{Between, StandsIn, order_removed, split_at, below_there, but_below, but_more, inserted_at, joined_there, less_there, more_there, once_more, removed_at, sent_last, there_below, there_joined}

abbrev Signals : Type 0
Signals = List PendingSignal

-- the queue of a signal, if it is there
pub seen_at : (queues : List Queue) (signal : ℕ) → ((queue : Queue) × (slice_get queues signal ≡ Some queue) × (queue_of (map deque_items queues) signal ≡ queue.items)) ⊎ (queue_of (map deque_items queues) signal ≡ [])
seen_at [] signal = inr refl
seen_at (q ∷ qs) zero = inl (q, refl, refl)
seen_at (q ∷ qs) (suc signal) = seen_at qs signal

pub ordered_at : (room : ℕ) (queues : List Queue) → AreKept room queues → (signal : ℕ) → AreInOrder (map value_of (queue_of (map deque_items queues) signal))
ordered_at room queues h signal = elim (seen_at queues signal) [
  | inl s ↦ subst (λ (l : Signals). AreInOrder (map value_of l)) (sym s.2) (h signal s.0 s.1).order
  | inr e ↦ subst (λ (l : Signals). AreInOrder (map value_of l)) (sym e) tt
]

pub own_of : (room last : ℕ) (queues : List Queue) → AreKept room queues → AreSent last (map deque_items queues) → (signal : ℕ) (x : PendingSignal) → IsThere (queue_of (map deque_items queues) signal) x → (x.signal ≡ signal) × IsThere (sent_below (suc last) (joined (map deque_items queues))) x
own_of room last queues h sent signal x there = elim (seen_at queues signal) [
  | inl s ↦ (let at = subst (λ (l : Signals). IsThere l x) s.2 there in
      let all = joined_there (map deque_items queues) signal s.0.items x (slice_get-map deque_items queues signal ∙ ap (option_map deque_items) s.1) at in
      let e = sent.drawn x all in
      ((h signal s.0 s.1).own x at, there_below (suc last) (joined (map deque_items queues)) x (omega (arith, e)) all))
  | inr e ↦ absurd (let at = subst (λ (l : Signals). IsThere l x) e there in let f : ⊥ = let g = at.1 in cc in f)
]

mapped_some : (o : Option Queue) (items : Signals) → option_map deque_items o ≡ Some items → (queue : Queue) × (o ≡ Some queue) × (queue.items ≡ items)
mapped_some None items e = absurd (let f : ⊥ = cc in f)
mapped_some (Some queue) items e = (queue, refl, same_Some queue.items items e)

own_by : (room : ℕ) (queues : List Queue) (x : PendingSignal) → AreKept room queues → (s : StandsIn (map deque_items queues) x) → x.signal ≡ s.signal
own_by room queues x h s =
    let q = mapped_some (slice_get queues s.signal) s.queue (sym (slice_get-map deque_items queues s.signal) ∙ s.at) in
    (h s.signal q.0 q.1).own x (subst (λ (l : Signals). IsThere l x) (sym q.2) s.there)

pub each_of : (room last : ℕ) (queues : List Queue) → AreKept room queues → (x : PendingSignal) → IsThere (sent_below (suc last) (joined (map deque_items queues))) x → IsThere (queue_of (map deque_items queues) x.signal) x
each_of room last queues h x there =
    let all = map deque_items queues in
    let s = there_joined all x (below_there (suc last) (joined all) x there) in
    subst (λ (k : ℕ). IsThere (queue_of (map deque_items queues) k) x) (sym (own_by room queues x h s)) (subst (λ (l : Signals). IsThere l x) (sym (get_or_from_slice_get all s.signal s.queue [] s.at)) s.there)

-- one queue is changed
pub kept_set : (room : ℕ) (queues : List Queue) (signal : ℕ) (new : Queue) → IsKept room signal new → AreKept room queues → AreKept room (slice_set queues signal new)
kept_set room queues signal new kept h k q at = elim (written_or_old queues signal k new q at) [
  | inl here ↦ subst (λ (j : ℕ). IsKept room j q) (sym here.0) (subst (λ (r : Queue). IsKept room signal r) (sym here.1) kept)
  | inr old ↦ h k q old
]

-- one more queue has the room
pub kept_more : (n : ℕ) (queues : List Queue) (signal : ℕ) (old new : Queue) → slice_get queues signal ≡ Some old → IsKept n signal new → ((k : ℕ) (q : Queue) → k < signal → slice_get queues k ≡ Some q → IsKept n k q)
    → (k : ℕ) (q : Queue) → k < signal + 1 → slice_get (slice_set queues signal new) k ≡ Some q → IsKept n k q
kept_more n queues signal old new there kept before k q low at = elim (cases_eq k signal) [
  | inl same ↦ (let e : new ≡ q = same_Some new q (sym (written_here queues signal new old there) ∙ subst (λ (j : ℕ). slice_get (slice_set queues signal new) j ≡ Some q) same at) in subst (λ (j : ℕ). IsKept n j q) (sym same) (subst (λ (r : Queue). IsKept n signal r) e kept))
  | inr apart ↦ before k q (omega (arith, low, apart)) (sym (written_elsewhere queues signal k new apart) ∙ at)
]

-- one more queue
pub kept_push : (room : ℕ) (queues : List Queue) (new : Queue) → IsKept room (length queues) new → AreKept room queues → AreKept room (queues ++ new ∷ [])
kept_push room queues new kept h k q at = elim (pushed_or_old queues k new q at) [
  | inl last ↦ subst (λ (j : ℕ). IsKept room j q) (sym last.0) (subst (λ (r : Queue). IsKept room (length queues) r) (sym last.1) kept)
  | inr old ↦ h k q old
]

-- a signal is put into its queue
module _ (queues : List Queue) (k : ℕ) (old new : Queue) (place : ℕ) (x : PendingSignal) (at : slice_get queues k ≡ Some old) (is : new.items ≡ insert old.items place x) where
  between_put : Between (joined (map deque_items queues)) (joined (map deque_items (slice_set queues k new))) x
  between_put =
      subst (λ (l : List Signals). Between (joined (map deque_items queues)) (joined l) x) (sym (map-set deque_items queues k new ∙ ap (λ (l : Signals). slice_set (map deque_items queues) k l) is))
      (inserted_at (map deque_items queues) k place old.items x (slice_get-map deque_items queues k ∙ ap (option_map deque_items) at))

  pub put_pending : (last : ℕ) → last < x.value.send → AreSent last (map deque_items queues) → sent_below (suc x.value.send) (joined (map deque_items (slice_set queues k new))) ≡ sent_below (suc last) (joined (map deque_items queues)) ++ x ∷ []
  put_pending last low sent = sent_last (joined (map deque_items queues)) (joined (map deque_items (slice_set queues k new))) x last between_put low sent.drawn

  pub put_sent : (last : ℕ) → last < x.value.send → AreSent last (map deque_items queues) → AreSent x.value.send (map deque_items (slice_set queues k new))
  put_sent last low sent = record {
    once = once_more (joined (map deque_items queues)) (joined (map deque_items (slice_set queues k new))) x last between_put low sent.drawn sent.once;
    drawn = λ y h. elim (more_there (joined (map deque_items queues)) (joined (map deque_items (slice_set queues k new))) x y between_put h) [
      | inl same ↦ omega (arith, ap send_of same)
      | inr there ↦ (let e = sent.drawn y there in omega (arith, e, low))
    ];
  }

  pub put_own : x.signal ≡ k → ((y : PendingSignal) → IsThere old.items y → y.signal ≡ k) → (y : PendingSignal) → IsThere new.items y → y.signal ≡ k
  put_own here own y h = elim (more_there old.items new.items x y (record { front = take place old.items; back = drop place old.items; less_is = sym (take-append-drop place old.items); more_is = is }) h) [
    | inl same ↦ ap (λ (z : PendingSignal). z.signal) (sym same) ∙ here
    | inr there ↦ own y there
  ]

-- a signal is taken out of its queue
module _ (queues : List Queue) (k : ℕ) (old new : Queue) (place : ℕ) (x : PendingSignal) (at : slice_get queues k ≡ Some old) (there : slice_get old.items place ≡ Some x) (is : new.items ≡ remove old.items place) where
  between_take : Between (joined (map deque_items (slice_set queues k new))) (joined (map deque_items queues)) x
  between_take =
      subst (λ (l : List Signals). Between (joined l) (joined (map deque_items queues)) x) (sym (map-set deque_items queues k new ∙ ap (λ (l : Signals). slice_set (map deque_items queues) k l) is))
      (removed_at (map deque_items queues) k place old.items x (slice_get-map deque_items queues k ∙ ap (option_map deque_items) at) there)

  but_taken : (last : ℕ) → AreSent last (map deque_items queues) → signals_but x.value.send (joined (map deque_items queues)) ≡ joined (map deque_items (slice_set queues k new))
  but_taken last sent = but_more (joined (map deque_items (slice_set queues k new))) (joined (map deque_items queues)) x between_take sent.once

  pub take_pending : (last : ℕ) → AreSent last (map deque_items queues) → sent_below (suc last) (joined (map deque_items (slice_set queues k new))) ≡ signals_but x.value.send (sent_below (suc last) (joined (map deque_items queues)))
  take_pending last sent = ap (sent_below (suc last)) (sym (but_taken last sent)) ∙ sym (but_below (λ s. not (s.value.send == x.value.send)) (suc last) (joined (map deque_items queues)))

  pub take_sent : (last : ℕ) → AreSent last (map deque_items queues) → AreSent last (map deque_items (slice_set queues k new))
  take_sent last sent = record {
    once = subst (λ (l : Signals). AreOnce send_of l) (but_taken last sent) (once_others send_of (joined (map deque_items queues)) x.value.send sent.once);
    drawn = λ y h. sent.drawn y (less_there (joined (map deque_items (slice_set queues k new))) (joined (map deque_items queues)) x y between_take h);
  }

  pub take_own : ((y : PendingSignal) → IsThere old.items y → y.signal ≡ k) → (y : PendingSignal) → IsThere new.items y → y.signal ≡ k
  take_own own y h = own y (less_there new.items old.items x y (record { front = take place old.items; back = drop (suc place) old.items; less_is = is; more_is = split_at old.items place x there }) h)

  pub take_order : AreInOrder (map value_of old.items) → AreInOrder (map value_of new.items)
  take_order order = subst (λ (l : Signals). AreInOrder (map value_of l)) (sym is) (order_removed old.items place order)

-- nothing is there
pub none_there : {P : Type 0} (xs : Signals) (x : PendingSignal) → xs ≡ [] → IsThere xs x → P
none_there xs x e h = absurd (let at = subst (λ (l : Signals). IsThere l x) e h in let f : ⊥ = let g = at.1 in cc in f)

pub nothing_joined : (n : ℕ) → joined (replicate n []) ≡ []
nothing_joined zero = refl
nothing_joined (suc n) = nothing_joined n

pub nothing_sent : (last n : ℕ) → AreSent last (replicate n [])
nothing_sent last n = record {
  once = subst (AreOnce send_of) (sym (nothing_joined n)) tt;
  drawn = λ x h. none_there (joined (replicate n [])) x (nothing_joined n) h;
}

pub map_insert : (xs : Signals) (i : ℕ) (x : PendingSignal) → map value_of (insert xs i x) ≡ insert (map value_of xs) i x.value
map_insert [] zero x = refl
map_insert [] (suc i) x = refl
map_insert (z ∷ zs) zero x = refl
map_insert (z ∷ zs) (suc i) x = ap (λ (vs : List StoredValue). z.value ∷ vs) (map_insert zs i x)

pub sent_same : (last last' : ℕ) (queues queues' : List Signals) → last' ≡ last → queues' ≡ queues → AreSent last queues → AreSent last' queues'
sent_same last last' queues queues' el eq h = subst (λ (n : ℕ). AreSent n queues') (sym el) (subst (AreSent last) (sym eq) h)

-- less room is there as well
pub kept_fewer : (room fewer : ℕ) (queues : List Queue) → fewer ≤ room → AreKept room queues → AreKept fewer queues
kept_fewer room fewer queues low h k q at = let was = h k q at in record { fits = let e = was.fits in omega (arith, e, low); order = was.order; own = was.own }

-- a place of a queue is in a queue that is there
pub there_at : (queues : List Queue) (signal place : ℕ) → place < length (queue_of (map deque_items queues) signal) → signal < length queues
there_at [] signal place low = absurd (omega (arith, low))
there_at (q ∷ qs) zero place low = omega arith
there_at (q ∷ qs) (suc signal) place low = let e = there_at qs signal place low in omega (arith, e)

-- the queue of a signal that is there
pub queue_at : (queues : List Queue) (signal : ℕ) (queue : Queue) → slice_get queues signal ≡ Some queue → queue_of (map deque_items queues) signal ≡ queue.items
queue_at queues signal queue at = get_or_from_slice_get (map deque_items queues) signal queue.items [] (slice_get-map deque_items queues signal ∙ ap (option_map deque_items) at)

none_below : (n : ℕ) → sent_below n [] ≡ []
none_below zero = refl
none_below (suc n) = append-nil (sent_below n []) ∙ none_below n

pub nothing_pending : (last n : ℕ) (queues : List Signals) → queues ≡ replicate n [] → sent_below (suc last) (joined queues) ≡ []
nothing_pending last n queues is = ap (λ (qs : List Signals). sent_below (suc last) (joined qs)) is ∙ ap (sent_below (suc last)) (nothing_joined n) ∙ none_below (suc last)

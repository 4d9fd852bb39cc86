-- Where a value comes to stand among values in order, and the order that it leaves.
use Rattle.std.proofs.Common.{◌≡◌, ◌⊎◌, ℕ, zero, suc, ◌+◌, ◌<◌, ◌≤◌, List, [], ◌∷◌, ◌++◌, length, map, Bool, true, false, refl, sym, ap, ◌∙◌, inl, inr, arith, Some, slice_get, slice_set, subst}
use Rattle.std.specs.Prelude.{IsSome, if◌then◌else◌}
use Rattle.std.specs.List.{insert}
use Rattle.std.specs.VecDeque.{deque_items, deque_len, deque_capacity}
use Rattle.std.specs.declared.collections.VecDeque.{VecDeque}
use Rattle.std.specs.declared.alloc.Global.{Global}
use Rattle.std.proofs.lemmas.Bool.Decides.{nat_tests}
use Rattle.kernel_lists.specs.declared.best.Rank.{Rank}
use Rattle.kernel_lists.specs.Best.{precedes_in}
use Rattle.world_model.specs.declared.world.StoredValue.{StoredValue}
use Rattle.std.proofs.lemmas.Bool.{cases_eq}
use Rattle.std.proofs.lemmas.Option.{same_Some}
use Rattle.world_model.proofs.ChangedLists.{written_or_old, written_here, written_elsewhere, pushed_or_old}
use Rattle.value_queues.specs.Queues.{AreInOrder, IsPlaceFor, first_rank, placed, rank_of, values_in}

-- what doesn't go before the second, which doesn't go before the third, doesn't go before the third
pub lower : (a b r : Rank) → precedes_in a b ≡ false → precedes_in b r ≡ false → precedes_in a r ≡ false
lower a b r p q = grind (arith, nat_tests)

turned : (a r : Rank) → precedes_in a r ≡ true → precedes_in r a ≡ false
turned a r p = grind (arith, nat_tests)

turned_over : (a b r : Rank) → precedes_in a b ≡ true → precedes_in r b ≡ false → precedes_in r a ≡ false
turned_over a b r p q = grind (arith, nat_tests)

-- an item that a list has
some_at : {X : Type 0} (xs : List X) (k : ℕ) → k < length xs → (x : X) × (slice_get xs k ≡ Some x)
some_at [] k low = absurd (omega arith)
some_at (x ∷ xs) zero low = (x, refl)
some_at (x ∷ xs) (suc k) low = some_at xs k (omega arith)

-- a value that doesn't go before the one in front of its place doesn't go before the first
not_first : (rank : Rank) (x : StoredValue) (xs : List StoredValue) (p : ℕ) → AreInOrder (x ∷ xs) → IsPlaceFor rank (x ∷ xs) (suc p) → precedes_in rank (rank_of x) ≡ false
not_first rank x xs zero order h = h.front 0 x refl refl
not_first rank x xs (suc q) order h =
    let there = some_at xs q (let e = h.within in omega arith) in
    lower rank (rank_of there.0) (rank_of x) (h.front (suc q) there.0 (omega arith) there.1) (order.0 q there.0 there.1)

-- the place is where the value is placed
pub placed_here : (value : StoredValue) (values : List StoredValue) (place : ℕ) → AreInOrder values → IsPlaceFor (rank_of value) values place → insert values place value ≡ placed value values
placed_here value [] zero order h = refl
placed_here value [] (suc p) order h = absurd (let e = h.within in omega arith)
placed_here value (x ∷ xs) zero order h = let is : precedes_in (rank_of value) (rank_of x) ≡ true = h.behind 0 x (omega arith) refl in rw is refl
placed_here value (x ∷ xs) (suc p) order h =
    let fails = not_first (rank_of value) x xs p order h in
    rw fails (ap (λ (l : List StoredValue). x ∷ l) (placed_here value xs p order.1 (record {
      within = let e = h.within in omega arith;
      behind = λ k other low at. h.behind (suc k) other (omega arith) at;
      front = λ k other is at. h.front (suc k) other (omega arith) at;
    })))

-- what stands among the values once one is placed is that one, or stood there
old_by : (value x : StoredValue) (xs more : List StoredValue) (t : Bool) (k : ℕ) (other : StoredValue) → ((j : ℕ) → slice_get more j ≡ Some other → (other ≡ value) ⊎ ((i : ℕ) × (slice_get xs i ≡ Some other)))
    → slice_get (if t then value ∷ x ∷ xs else x ∷ more) k ≡ Some other → (other ≡ value) ⊎ ((i : ℕ) × (slice_get (x ∷ xs) i ≡ Some other))
old_by value x xs more true zero other before at = inl (let e : value ≡ other = cc in sym e)
old_by value x xs more true (suc k) other before at = inr (k, at)
old_by value x xs more false zero other before at = inr (0, at)
old_by value x xs more false (suc k) other before at = elim (before k at) [
  | inl same ↦ inl same
  | inr old ↦ inr (suc old.0, old.1)
]

pub placed_or_old : (value : StoredValue) (values : List StoredValue) (k : ℕ) (other : StoredValue) → slice_get (placed value values) k ≡ Some other → (other ≡ value) ⊎ ((j : ℕ) × (slice_get values j ≡ Some other))
placed_or_old value [] zero other at = inl (let e : value ≡ other = cc in sym e)
placed_or_old value [] (suc k) other at = absurd (let f : ⊥ = cc in f)
placed_or_old value (x ∷ xs) k other at = old_by value x xs (placed value xs) (precedes_in (rank_of value) (rank_of x)) k other (λ j. placed_or_old value xs j other) at

-- values in order stay in order once one is placed
first_by : (value x : StoredValue) (xs : List StoredValue) (k : ℕ) (other : StoredValue) → precedes_in (rank_of value) (rank_of x) ≡ true → AreInOrder (x ∷ xs) → slice_get (x ∷ xs) k ≡ Some other → precedes_in (rank_of other) (rank_of value) ≡ false
first_by value x xs zero other is order at = let e : x ≡ other = cc in rw (← e) (turned (rank_of value) (rank_of x) is)
first_by value x xs (suc k) other is order at = turned_over (rank_of value) (rank_of x) (rank_of other) is (order.0 k other at)

behind_by : (value x : StoredValue) (xs : List StoredValue) (k : ℕ) (other : StoredValue) → precedes_in (rank_of value) (rank_of x) ≡ false → AreInOrder (x ∷ xs) → slice_get (placed value xs) k ≡ Some other → precedes_in (rank_of other) (rank_of x) ≡ false
behind_by value x xs k other fails order at = elim (placed_or_old value xs k other at) [
  | inl same ↦ rw same fails
  | inr old ↦ order.0 old.0 other old.1
]

order_by : (value x : StoredValue) (xs : List StoredValue) (t : Bool) → precedes_in (rank_of value) (rank_of x) ≡ t → AreInOrder (x ∷ xs) → AreInOrder (placed value xs) → AreInOrder (if t then value ∷ x ∷ xs else x ∷ placed value xs)
order_by value x xs true is order rest = (λ k other at. first_by value x xs k other is order at, order)
order_by value x xs false is order rest = (λ k other at. behind_by value x xs k other is order at, rest)

pub placed_order : (value : StoredValue) (values : List StoredValue) → AreInOrder values → AreInOrder (placed value values)
placed_order value [] order = (λ k other at. absurd (let f : ⊥ = cc in f), tt)
placed_order value (x ∷ xs) order = order_by value x xs (precedes_in (rank_of value) (rank_of x)) refl order (placed_order value xs order.1)

-- the queues
abbrev pub Queue : Type 0
Queue = VecDeque StoredValue Global

-- there is room for so many more values, and they are in order
abbrev pub IsFit : ℕ → Queue → Type 0
IsFit room q = (deque_len q + room ≤ deque_capacity q) × AreInOrder q.items

abbrev pub AreFit : ℕ → List Queue → Type 0
AreFit room queues = (k : ℕ) (q : Queue) → slice_get queues k ≡ Some q → IsFit room q

pub ordered_at : (room : ℕ) (queues : List Queue) → AreFit room queues → (buffer : ℕ) → AreInOrder (values_in (map deque_items queues) buffer)
ordered_at room [] h buffer = tt
ordered_at room (q ∷ queues) h zero = (h 0 q refl).1
ordered_at room (q ∷ queues) h (suc buffer) = ordered_at room queues (λ k r at. h (suc k) r at) buffer

pub some_within : (queues : List Queue) (buffer : ℕ) → IsSome (first_rank (values_in (map deque_items queues) buffer)) → buffer < length queues
some_within [] buffer h = absurd (let f : ⊥ = cc in f)
some_within (q ∷ queues) zero h = omega arith
some_within (q ∷ queues) (suc buffer) h = let e = some_within queues buffer h in omega (arith, e)

-- one queue is changed
pub fit_set : (room : ℕ) (queues : List Queue) (buffer : ℕ) (new : Queue) → IsFit room new → AreFit room queues → AreFit room (slice_set queues buffer new)
fit_set room queues buffer new fit h k q at = elim (written_or_old queues buffer k new q at) [
  | inl here ↦ (let e : q ≡ new = here.1 in rw e fit)
  | inr old ↦ h k q old
]

-- one more queue has the room
pub fit_more : (n : ℕ) (queues : List Queue) (buffer : ℕ) (old new : Queue) → slice_get queues buffer ≡ Some old → IsFit n new → ((k : ℕ) (q : Queue) → k < buffer → slice_get queues k ≡ Some q → IsFit n q)
    → (k : ℕ) (q : Queue) → k < buffer + 1 → slice_get (slice_set queues buffer new) k ≡ Some q → IsFit n q
fit_more n queues buffer old new there fit before k q low at = elim (cases_eq k buffer) [
  | inl same ↦ (let e : new ≡ q = same_Some new q (sym (written_here queues buffer new old there) ∙ subst (λ (j : ℕ). slice_get (slice_set queues buffer new) j ≡ Some q) same at) in rw (← e) fit)
  | inr apart ↦ before k q (omega (arith, low, apart)) (sym (written_elsewhere queues buffer k new apart) ∙ at)
]

-- one more queue
pub fit_push : (room : ℕ) (queues : List Queue) (new : Queue) → IsFit room new → AreFit room queues → AreFit room (queues ++ new ∷ [])
fit_push room queues new fit h k q at = elim (pushed_or_old queues k new q at) [
  | inl last ↦ (let e : q ≡ new = last.1 in rw e fit)
  | inr old ↦ h k q old
]

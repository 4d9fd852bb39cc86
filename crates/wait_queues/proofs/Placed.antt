-- Where one that begins to wait comes to stand, and the order that it leaves.
use Rattle.std.proofs.Common.{◌≡◌, ◌⊎◌, ℕ, zero, suc, ◌+◌, ◌<◌, ◌≤◌, List, [], ◌∷◌, length, Bool, true, false, not, refl, sym, ap, ◌∙◌, inl, inr, arith, Some, None, Option, slice_get}
use Rattle.std.specs.Prelude.{if◌then◌else◌, nat_lt, ◌==◌}
use Rattle.std.specs.List.{insert, remove}
use Rattle.std.proofs.lemmas.Bool.{cases_Bool, eqb-true}
use Rattle.std.proofs.lemmas.Bool.Decides.{nat_tests}
use Rattle.world_model.proofs.Stores.{in_filter}
use Rattle.kernel_lists.specs.Once.{AreOnce, entry_of, others}
use Rattle.kernel_lists.specs.First.{IsFirst}
use Rattle.kernel_lists.proofs.Entries.{found_at, once_remove, others_all}
use Rattle.wait_queues.specs.declared.waiters.Waiter.{Waiter}
use Rattle.wait_queues.specs.Waiting.{AreInOrder, IsPlaceFor, is_of, placed, waiter_of}

is_below : (a b : ℕ) → a < b → nat_lt a b ≡ true
is_below a b low = grind (arith, nat_tests)

is_not_below : (a b : ℕ) → b ≤ a → nat_lt a b ≡ false
is_not_below a b high = grind (arith, nat_tests)

below : (a b : ℕ) → nat_lt a b ≡ true → a < b
below a b is = grind (arith, nat_tests)

not_below : (a b : ℕ) → nat_lt a b ≡ false → b ≤ a
not_below a b is = grind (arith, nat_tests)

-- an item that a list has
pub some_at : {X : Type 0} (xs : List X) (k : ℕ) → k < length xs → (x : X) × (slice_get xs k ≡ Some x)
some_at [] k low = absurd (omega arith)
some_at (x ∷ xs) zero low = (x, refl)
some_at (x ∷ xs) (suc k) low = some_at xs k (omega arith)

-- one that comes behind another comes behind the first
not_first : (priority : ℕ) (x : Waiter) (xs : List Waiter) (p : ℕ) → AreInOrder (x ∷ xs) → IsPlaceFor priority (x ∷ xs) (suc p) → priority ≤ x.priority
not_first priority x xs zero order h = h.front 0 x refl refl
not_first priority x xs (suc q) order h =
    let there = some_at xs q (let e = h.within in omega arith) in
    let a = h.front (suc q) there.0 (omega arith) there.1 in
    let b = order.0 q there.0 there.1 in
    omega (arith, a, b)

-- the place is where the waiter is placed
pub placed_here : (w : Waiter) (ws : List Waiter) (place : ℕ) → AreInOrder ws → IsPlaceFor w.priority ws place → insert ws place w ≡ placed w ws
placed_here w [] zero order h = refl
placed_here w [] (suc p) order h = absurd (let e = h.within in omega arith)
placed_here w (x ∷ xs) zero order h = rw (is_below x.priority w.priority (h.behind 0 x (omega arith) refl)) refl
placed_here w (x ∷ xs) (suc p) order h =
    rw (is_not_below x.priority w.priority (not_first w.priority x xs p order h)) (ap (λ (l : List Waiter). x ∷ l) (placed_here w xs p order.1 (record {
      within = let e = h.within in omega arith;
      behind = λ k other low at. h.behind (suc k) other (omega arith) at;
      front = λ k other is at. h.front (suc k) other (omega arith) at;
    })))

-- what stands there once one is placed is that one, or stood there
old_by : (w x : Waiter) (xs more : List Waiter) (t : Bool) (k : ℕ) (other : Waiter) → ((j : ℕ) → slice_get more j ≡ Some other → (other ≡ w) ⊎ ((i : ℕ) × (slice_get xs i ≡ Some other)))
    → slice_get (if t then w ∷ x ∷ xs else x ∷ more) k ≡ Some other → (other ≡ w) ⊎ ((i : ℕ) × (slice_get (x ∷ xs) i ≡ Some other))
old_by w x xs more true zero other before at = inl (let e : w ≡ other = cc in sym e)
old_by w x xs more true (suc k) other before at = inr (k, at)
old_by w x xs more false zero other before at = inr (0, at)
old_by w x xs more false (suc k) other before at = elim (before k at) [
  | inl same ↦ inl same
  | inr old ↦ inr (suc old.0, old.1)
]

placed_or_old : (w : Waiter) (ws : List Waiter) (k : ℕ) (other : Waiter) → slice_get (placed w ws) k ≡ Some other → (other ≡ w) ⊎ ((j : ℕ) × (slice_get ws j ≡ Some other))
placed_or_old w [] zero other at = inl (let e : w ≡ other = cc in sym e)
placed_or_old w [] (suc k) other at = absurd (let f : ⊥ = cc in f)
placed_or_old w (x ∷ xs) k other at = old_by w x xs (placed w xs) (nat_lt x.priority w.priority) k other (λ j. placed_or_old w xs j other) at

first_by : (w x : Waiter) (xs : List Waiter) (k : ℕ) (other : Waiter) → x.priority < w.priority → AreInOrder (x ∷ xs) → slice_get (x ∷ xs) k ≡ Some other → other.priority ≤ w.priority
first_by w x xs zero other low order at = let e : x ≡ other = cc in let p = ap (λ (y : Waiter). y.priority) e in omega (arith, low, p)
first_by w x xs (suc k) other low order at = let e = order.0 k other at in omega (arith, low, e)

behind_by : (w x : Waiter) (xs : List Waiter) (k : ℕ) (other : Waiter) → w.priority ≤ x.priority → AreInOrder (x ∷ xs) → slice_get (placed w xs) k ≡ Some other → other.priority ≤ x.priority
behind_by w x xs k other high order at = elim (placed_or_old w xs k other at) [
  | inl same ↦ (let p = ap (λ (y : Waiter). y.priority) same in omega (arith, high, p))
  | inr old ↦ order.0 old.0 other old.1
]

order_by : (w x : Waiter) (xs : List Waiter) (t : Bool) → nat_lt x.priority w.priority ≡ t → AreInOrder (x ∷ xs) → AreInOrder (placed w xs) → AreInOrder (if t then w ∷ x ∷ xs else x ∷ placed w xs)
order_by w x xs true is order rest = (λ k other at. first_by w x xs k other (below x.priority w.priority is) order at, order)
order_by w x xs false is order rest = (λ k other at. behind_by w x xs k other (not_below x.priority w.priority is) order at, rest)

pub placed_order : (w : Waiter) (ws : List Waiter) → AreInOrder ws → AreInOrder (placed w ws)
placed_order w [] order = (λ k other at. absurd (let f : ⊥ = cc in f), tt)
placed_order w (x ∷ xs) order = order_by w x xs (nat_lt x.priority w.priority) refl order (placed_order w xs order.1)

-- what is found once one is placed
passes_by : (x : Waiter) (rest : Option Waiter) (t : Bool) → (if t then Some x else rest) ≡ None → (t ≡ false) × (rest ≡ None)
passes_by x rest true e = cc
passes_by x rest false e = (refl, e)

turned : (a b c : ℕ) → a ≡ c → (a == b) ≡ false → (b == c) ≡ false
turned a b c same apart = grind (arith, nat_tests)

swapped : (x w : Waiter) (rest : Option Waiter) (who : ℕ) → (x.who == w.who) ≡ false → (if x.who == who then Some x else (if w.who == who then Some w else rest)) ≡ (if w.who == who then Some w else (if x.who == who then Some x else rest))
swapped x w rest who apart = elim (cases_Bool (x.who == who)) [
  | inl here ↦ (let own : x.who ≡ who = eqb-true x.who who here in
      let no : (w.who == who) ≡ false = turned x.who w.who who own apart in
      rw (here, no) refl)
  | inr other ↦ rw other refl
]

entry_by : (w x : Waiter) (xs more : List Waiter) (who : ℕ) (t : Bool) → (x.who == w.who) ≡ false → entry_of waiter_of more who ≡ (if w.who == who then Some w else entry_of waiter_of xs who)
    → entry_of waiter_of (if t then w ∷ x ∷ xs else x ∷ more) who ≡ (if w.who == who then Some w else entry_of waiter_of (x ∷ xs) who)
entry_by w x xs more who true apart rest = refl
entry_by w x xs more who false apart rest = ap (λ (o : Option Waiter). if x.who == who then Some x else o) rest ∙ swapped x w (entry_of waiter_of xs who) who apart

pub entry_placed : (w : Waiter) (ws : List Waiter) (who : ℕ) → entry_of waiter_of ws w.who ≡ None → entry_of waiter_of (placed w ws) who ≡ (if w.who == who then Some w else entry_of waiter_of ws who)
entry_placed w [] who none = refl
entry_placed w (x ∷ xs) who none =
    let here = passes_by x (entry_of waiter_of xs w.who) (x.who == w.who) none in
    entry_by w x xs (placed w xs) who (nat_lt x.priority w.priority) here.0 (entry_placed w xs who here.1)

-- each still stands once
swap_false : (a b : ℕ) → (a == b) ≡ false → (b == a) ≡ false
swap_false a b apart = grind (arith, nat_tests)

once_by : (w x : Waiter) (xs : List Waiter) (t : Bool) → entry_of waiter_of (x ∷ xs) w.who ≡ None → AreOnce waiter_of (x ∷ xs) → AreOnce waiter_of (placed w xs) → AreOnce waiter_of (if t then w ∷ x ∷ xs else x ∷ placed w xs)
once_by w x xs true none once rest = (none, once)
once_by w x xs false none once rest =
    let here = passes_by x (entry_of waiter_of xs w.who) (x.who == w.who) none in
    (entry_placed w xs x.who here.1 ∙ rw (swap_false x.who w.who here.0) once.0, rest)

pub placed_once : (w : Waiter) (ws : List Waiter) → entry_of waiter_of ws w.who ≡ None → AreOnce waiter_of ws → AreOnce waiter_of (placed w ws)
placed_once w [] none once = (refl, tt)
placed_once w (x ∷ xs) none once =
    let here = passes_by x (entry_of waiter_of xs w.who) (x.who == w.who) none in
    once_by w x xs (nat_lt x.priority w.priority) none once (placed_once w xs here.1 once.1)

-- how many there are
length_by : (w x : Waiter) (xs more : List Waiter) (t : Bool) → length more ≡ length xs + 1 → length (if t then w ∷ x ∷ xs else x ∷ more) ≡ length (x ∷ xs) + 1
length_by w x xs more true e = omega arith
length_by w x xs more false e = omega (arith, e)

pub length_placed : (w : Waiter) (ws : List Waiter) → length (placed w ws) ≡ length ws + 1
length_placed w [] = refl
length_placed w (x ∷ xs) = length_by w x xs (placed w xs) (nat_lt x.priority w.priority) (length_placed w xs)

-- without one
out_by : (x : Waiter) (xs : List Waiter) (who : ℕ) (t : Bool) → AreInOrder (x ∷ xs) → AreInOrder (others waiter_of xs who) → AreInOrder (if not t then x ∷ others waiter_of xs who else others waiter_of xs who)
out_by x xs who true order rest = rest
out_by x xs who false order rest = (λ k other at. let there = in_filter (λ (y : Waiter). not (y.who == who)) xs k other at in order.0 there.0 other there.1, rest)

pub others_order : (ws : List Waiter) (who : ℕ) → AreInOrder ws → AreInOrder (others waiter_of ws who)
others_order [] who order = tt
others_order (x ∷ xs) who order = out_by x xs who (x.who == who) order (others_order xs who order.1)

fewer_by : (x : Waiter) (xs : List Waiter) (who : ℕ) (w : Waiter) (t : Bool) → (x.who == who) ≡ t → entry_of waiter_of xs x.who ≡ None → (if t then Some x else entry_of waiter_of xs who) ≡ Some w
    → (entry_of waiter_of xs who ≡ Some w → length (others waiter_of xs who) + 1 ≡ length xs) → length (if not t then x ∷ others waiter_of xs who else others waiter_of xs who) + 1 ≡ length (x ∷ xs)
fewer_by x xs who w true is none found rest =
    let own : x.who ≡ who = eqb-true x.who who is in
    let all : others waiter_of xs who ≡ xs = others_all waiter_of xs who (ap (entry_of waiter_of xs) (sym own) ∙ none) in
    let e = ap length all in
    omega (arith, e)
fewer_by x xs who w false is none found rest = let e = rest found in omega (arith, e)

pub length_others : (ws : List Waiter) (who : ℕ) (w : Waiter) → AreOnce waiter_of ws → entry_of waiter_of ws who ≡ Some w → length (others waiter_of ws who) + 1 ≡ length ws
length_others [] who w once found = absurd (let f : ⊥ = cc in f)
length_others (x ∷ xs) who w once found = fewer_by x xs who w (x.who == who) refl once.0 found (length_others xs who w once.1)

-- nobody has a higher priority than the first
pub first_highest : (w : Waiter) (ws : List Waiter) (k : ℕ) (other : Waiter) → AreInOrder (w ∷ ws) → slice_get (w ∷ ws) k ≡ Some other → other.priority ≤ w.priority
first_highest w ws zero other order at = let e : w ≡ other = cc in let p = ap (λ (y : Waiter). y.priority) e in omega (arith, p)
first_highest w ws (suc k) other order at = order.0 k other at

-- the one that is found first is taken out
pub taken_out : (ws : List Waiter) (who place : ℕ) → IsFirst (is_of who) ws place → AreOnce waiter_of ws → remove ws place ≡ others waiter_of ws who
taken_out ws who place first once =
    let passes = (found_at (is_of who) ws first.item first.found).1 in
    once_remove waiter_of ws place first.item once first.at ∙ ap (λ (p : ℕ). others waiter_of ws p) (eqb-true first.item.who who passes)

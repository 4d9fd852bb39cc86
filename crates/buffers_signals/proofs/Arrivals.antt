-- How those that wait stand in queues, as one more comes and as one goes.
use Rattle.std.proofs.Common.{◌≡◌, ◌⊎◌, ℕ, zero, suc, ◌<◌, ◌≤◌, List, [], ◌∷◌, ◌++◌, Bool, true, false, not, cond, refl, sym, ap, ◌∙◌, subst, inl, inr, arith, Some, None, Option, slice_get, length}
use Rattle.std.specs.Prelude.{if◌then◌else◌, nat_lt, nat_eq, ◌==◌, is_some}
use Rattle.std.specs.Map.{lookup, remove_entry, values_of}
use Rattle.std.specs.Option.{option_and_then, option_map}
use Rattle.std.proofs.lemmas.Bool.{cases_Bool, eqb-true}
use Rattle.std.proofs.lemmas.Bool.Decides.{nat_tests}
use Rattle.std.proofs.lemmas.Option.{same_Some, slice_get_within}
use Rattle.kernel_base.specs.declared.request.Alternative.{Alternative}
use Rattle.world_model.specs.Lists.{number_for}
use Rattle.world_model.proofs.Stores.{in_filter}
use Rattle.kernel_lists.specs.Once.{AreOnce, entry_of, others}
use Rattle.kernel_lists.proofs.Entries.{once_others, once_push, others_all}
use Rattle.wait_queues.specs.declared.waiters.Waiter.{Waiter}
use Rattle.wait_queues.specs.Waiting.{AreInOrder, IsNowhere, Joins, Leaves, joined, left, placed, waiter_of}
use Rattle.wait_queues.proofs.Placed.{some_at}
use Rattle.buffers_signals.specs.Arrivals.{AreKeyed, AreListed, ahead, ahead_by, queue_at, waits_at}

-- one step of each
ahead_over : (h x : Waiter) (xs : List Waiter) → nat_lt h.priority x.priority ≡ true → ahead h (x ∷ xs) ≡ x ∷ ahead h xs
ahead_over h x xs is = rw is refl

ahead_here : (h x : Waiter) (xs : List Waiter) → nat_lt h.priority x.priority ≡ false → ahead h (x ∷ xs) ≡ h ∷ x ∷ xs
ahead_here h x xs is = rw is refl

placed_here : (w x : Waiter) (xs : List Waiter) → nat_lt x.priority w.priority ≡ true → placed w (x ∷ xs) ≡ w ∷ x ∷ xs
placed_here w x xs is = rw is refl

placed_over : (w x : Waiter) (xs : List Waiter) → nat_lt x.priority w.priority ≡ false → placed w (x ∷ xs) ≡ x ∷ placed w xs
placed_over w x xs is = rw is refl

kept : (x : Waiter) (xs : List Waiter) (p : ℕ) → (x.who == p) ≡ false → others waiter_of (x ∷ xs) p ≡ x ∷ others waiter_of xs p
kept x xs p is = rw is refl

dropped : (x : Waiter) (xs : List Waiter) (p : ℕ) → (x.who == p) ≡ true → others waiter_of (x ∷ xs) p ≡ others waiter_of xs p
dropped x xs p is = rw is refl

both_below : (a b c : ℕ) → nat_lt a b ≡ true → nat_lt b c ≡ true → nat_lt a c ≡ true
both_below a b c p q = grind (arith, nat_tests)

none_below : (a b c : ℕ) → nat_lt a b ≡ false → nat_lt b c ≡ false → nat_lt a c ≡ false
none_below a b c p q = grind (arith, nat_tests)

below : (a b : ℕ) → nat_lt a b ≡ true → a < b
below a b is = grind (arith, nat_tests)

not_below : (a b : ℕ) → nat_lt a b ≡ false → b ≤ a
not_below a b is = grind (arith, nat_tests)

is_not_below : (a b : ℕ) → b ≤ a → nat_lt a b ≡ false
is_not_below a b high = grind (arith, nat_tests)

-- one that came earlier and one that comes now may be put in by turns
turns : (w h x : Waiter) (xs : List Waiter) (a b c : Bool) → nat_lt h.priority x.priority ≡ a → nat_lt x.priority w.priority ≡ b → nat_lt h.priority w.priority ≡ c
    → placed w (ahead h xs) ≡ ahead h (placed w xs) → placed w (ahead h (x ∷ xs)) ≡ ahead h (placed w (x ∷ xs))
turns w h x xs true true c over here is rest =
    let both = both_below h.priority x.priority w.priority over here in
    ap (placed w) (ahead_over h x xs over) ∙ placed_here w x (ahead h xs) here ∙ sym (ap (ahead h) (placed_here w x xs here) ∙ ahead_over h w (x ∷ xs) both ∙ ap (λ (l : List Waiter). w ∷ l) (ahead_over h x xs over))
turns w h x xs true false c over here is rest =
    ap (placed w) (ahead_over h x xs over) ∙ placed_over w x (ahead h xs) here ∙ ap (λ (l : List Waiter). x ∷ l) rest ∙ sym (ap (ahead h) (placed_over w x xs here) ∙ ahead_over h x (placed w xs) over)
turns w h x xs false true true over here is rest =
    ap (placed w) (ahead_here h x xs over) ∙ placed_here w h (x ∷ xs) is ∙ sym (ap (ahead h) (placed_here w x xs here) ∙ ahead_over h w (x ∷ xs) is ∙ ap (λ (l : List Waiter). w ∷ l) (ahead_here h x xs over))
turns w h x xs false true false over here is rest =
    ap (placed w) (ahead_here h x xs over) ∙ placed_over w h (x ∷ xs) is ∙ ap (λ (l : List Waiter). h ∷ l) (placed_here w x xs here) ∙ sym (ap (ahead h) (placed_here w x xs here) ∙ ahead_here h w (x ∷ xs) is)
turns w h x xs false false c over here is rest =
    let none = none_below h.priority x.priority w.priority over here in
    ap (placed w) (ahead_here h x xs over) ∙ placed_over w h (x ∷ xs) none ∙ ap (λ (l : List Waiter). h ∷ l) (placed_over w x xs here) ∙ sym (ap (ahead h) (placed_over w x xs here) ∙ ahead_here h x (placed w xs) over)

placed_ahead : (w h : Waiter) (ws : List Waiter) → placed w (ahead h ws) ≡ ahead h (placed w ws)
placed_ahead w h [] = refl
placed_ahead w h (x ∷ xs) = turns w h x xs (nat_lt h.priority x.priority) (nat_lt x.priority w.priority) (nat_lt h.priority w.priority) refl refl refl (placed_ahead w h xs)

-- what stands in a queue with one more is that one, or stood there
old_by : (h x : Waiter) (xs more : List Waiter) (t : Bool) (k : ℕ) (other : Waiter) → ((j : ℕ) → slice_get more j ≡ Some other → (other ≡ h) ⊎ ((i : ℕ) × (slice_get xs i ≡ Some other)))
    → slice_get (if t then x ∷ more else h ∷ x ∷ xs) k ≡ Some other → (other ≡ h) ⊎ ((i : ℕ) × (slice_get (x ∷ xs) i ≡ Some other))
old_by h x xs more true zero other before at = inr (0, at)
old_by h x xs more true (suc k) other before at = elim (before k at) [
  | inl same ↦ inl same
  | inr old ↦ inr (suc old.0, old.1)
]
old_by h x xs more false zero other before at = inl (sym (same_Some h other at))
old_by h x xs more false (suc k) other before at = inr (k, at)

ahead_or_old : (h : Waiter) (ws : List Waiter) (k : ℕ) (other : Waiter) → slice_get (ahead h ws) k ≡ Some other → (other ≡ h) ⊎ ((j : ℕ) × (slice_get ws j ≡ Some other))
ahead_or_old h [] zero other at = inl (sym (same_Some h other at))
ahead_or_old h [] (suc k) other at = absurd (let f : ⊥ = cc in f)
ahead_or_old h (x ∷ xs) k other at = old_by h x xs (ahead h xs) (nat_lt h.priority x.priority) k other (λ j. ahead_or_old h xs j other) at

-- they stay in order
lower_all : (h x : Waiter) (xs : List Waiter) (k : ℕ) (other : Waiter) → x.priority ≤ h.priority → AreInOrder (x ∷ xs) → slice_get (x ∷ xs) k ≡ Some other → other.priority ≤ h.priority
lower_all h x xs zero other low order at = let p = ap (λ (y : Waiter). y.priority) (same_Some x other at) in omega (arith, low, p)
lower_all h x xs (suc k) other low order at = let e = order.0 k other at in omega (arith, low, e)

order_by : (h x : Waiter) (xs : List Waiter) (t : Bool) → nat_lt h.priority x.priority ≡ t → AreInOrder (x ∷ xs) → AreInOrder (ahead h xs) → AreInOrder (if t then x ∷ ahead h xs else h ∷ x ∷ xs)
order_by h x xs true is order rest = (
  λ k other at. elim (ahead_or_old h xs k other at) [
    | inl same ↦ (let p = ap (λ (y : Waiter). y.priority) same in let low = below h.priority x.priority is in omega (arith, p, low))
    | inr old ↦ order.0 old.0 other old.1
  ],
  rest,
)
order_by h x xs false is order rest = (λ k other at. lower_all h x xs k other (not_below h.priority x.priority is) order at, order)

ahead_order : (h : Waiter) (ws : List Waiter) → AreInOrder ws → AreInOrder (ahead h ws)
ahead_order h [] order = (λ k other at. absurd (let f : ⊥ = cc in f), tt)
ahead_order h (x ∷ xs) order = order_by h x xs (nat_lt h.priority x.priority) refl order (ahead_order h xs order.1)

order_if : (who priority : ℕ) (n : Option ℕ) (ws : List Waiter) → AreInOrder ws → AreInOrder (ahead_by who priority n ws)
order_if who priority None ws order = order
order_if who priority (Some n) ws order = ahead_order (record { who = who; number = n; priority = priority }) ws order

-- where nobody has a higher priority one that came earlier stands first
pub ahead_first : (h : Waiter) (ws : List Waiter) → ((k : ℕ) (other : Waiter) → slice_get ws k ≡ Some other → other.priority ≤ h.priority) → ahead h ws ≡ h ∷ ws
ahead_first h [] low = refl
ahead_first h (x ∷ xs) low = ahead_here h x xs (is_not_below h.priority x.priority (low 0 x refl))

-- without one, where another came earlier
out_by : (h x : Waiter) (xs : List Waiter) (p : ℕ) (a t : Bool) → nat_lt h.priority x.priority ≡ a → (x.who == p) ≡ t → (h.who == p) ≡ false → AreInOrder (x ∷ xs)
    → others waiter_of (ahead h xs) p ≡ ahead h (others waiter_of xs p) → others waiter_of (ahead h (x ∷ xs)) p ≡ ahead h (others waiter_of (x ∷ xs) p)
out_by h x xs p true true over is apart order rest =
    ap (λ (l : List Waiter). others waiter_of l p) (ahead_over h x xs over) ∙ dropped x (ahead h xs) p is ∙ rest ∙ ap (ahead h) (sym (dropped x xs p is))
out_by h x xs p true false over is apart order rest =
    ap (λ (l : List Waiter). others waiter_of l p) (ahead_over h x xs over) ∙ kept x (ahead h xs) p is ∙ ap (λ (l : List Waiter). x ∷ l) rest
    ∙ sym (ap (ahead h) (kept x xs p is) ∙ ahead_over h x (others waiter_of xs p) over)
out_by h x xs p false true over is apart order rest =
    let low = not_below h.priority x.priority over in
    let first = ahead_first h (others waiter_of xs p) (λ k other at. let there = in_filter (λ (y : Waiter). not (y.who == p)) xs k other at in lower_all h x xs (suc there.0) other low order there.1) in
    ap (λ (l : List Waiter). others waiter_of l p) (ahead_here h x xs over) ∙ kept h (x ∷ xs) p apart ∙ ap (λ (l : List Waiter). h ∷ l) (dropped x xs p is) ∙ sym (ap (ahead h) (dropped x xs p is) ∙ first)
out_by h x xs p false false over is apart order rest =
    ap (λ (l : List Waiter). others waiter_of l p) (ahead_here h x xs over) ∙ kept h (x ∷ xs) p apart ∙ ap (λ (l : List Waiter). h ∷ l) (kept x xs p is)
    ∙ sym (ap (ahead h) (kept x xs p is) ∙ ahead_here h x (others waiter_of xs p) over)

others_ahead : (h : Waiter) (ws : List Waiter) (p : ℕ) → (h.who == p) ≡ false → AreInOrder ws → others waiter_of (ahead h ws) p ≡ ahead h (others waiter_of ws p)
others_ahead h [] p apart order = rw apart refl
others_ahead h (x ∷ xs) p apart order = out_by h x xs p (nat_lt h.priority x.priority) (x.who == p) refl refl apart order (others_ahead h xs p apart order.1)

-- without the one that came earlier
own_by : (h x : Waiter) (xs : List Waiter) (p : ℕ) (t : Bool) → (h.who == p) ≡ true → others waiter_of (ahead h xs) p ≡ others waiter_of xs p → others waiter_of (if t then x ∷ ahead h xs else h ∷ x ∷ xs) p ≡ others waiter_of (x ∷ xs) p
own_by h x xs p true own rest = ap (λ (l : List Waiter). if not (x.who == p) then x ∷ l else l) rest
own_by h x xs p false own rest = dropped h (x ∷ xs) p own

others_own : (h : Waiter) (ws : List Waiter) (p : ℕ) → (h.who == p) ≡ true → others waiter_of (ahead h ws) p ≡ others waiter_of ws p
others_own h [] p own = rw own refl
others_own h (x ∷ xs) p own = own_by h x xs p (nat_lt h.priority x.priority) own (others_own h xs p own)

-- what is found with one more
passes_by : {X : Type 0} (x : X) (rest : Option X) (t : Bool) → (if t then Some x else rest) ≡ None → (t ≡ false) × (rest ≡ None)
passes_by x rest true e = cc
passes_by x rest false e = (refl, e)

turned : (a b c : ℕ) → a ≡ c → (a == b) ≡ false → (b == c) ≡ false
turned a b c same apart = grind (arith, nat_tests)

swapped : (x w : Waiter) (rest : Option Waiter) (who : ℕ) → (x.who == w.who) ≡ false → (if x.who == who then Some x else (if w.who == who then Some w else rest)) ≡ (if w.who == who then Some w else (if x.who == who then Some x else rest))
swapped x w rest who apart = elim (cases_Bool (x.who == who)) [
  | inl here ↦ (let own : x.who ≡ who = eqb-true x.who who here in
      let no : (w.who == who) ≡ false = turned x.who w.who who own apart in
      rw (here, no) refl)
  | inr other ↦ rw other refl
]

entry_by : (h x : Waiter) (xs more : List Waiter) (who : ℕ) (t : Bool) → (x.who == h.who) ≡ false → entry_of waiter_of more who ≡ (if h.who == who then Some h else entry_of waiter_of xs who)
    → entry_of waiter_of (if t then x ∷ more else h ∷ x ∷ xs) who ≡ (if h.who == who then Some h else entry_of waiter_of (x ∷ xs) who)
entry_by h x xs more who true apart rest = ap (λ (o : Option Waiter). if x.who == who then Some x else o) rest ∙ swapped x h (entry_of waiter_of xs who) who apart
entry_by h x xs more who false apart rest = refl

entry_ahead : (h : Waiter) (ws : List Waiter) (who : ℕ) → entry_of waiter_of ws h.who ≡ None → entry_of waiter_of (ahead h ws) who ≡ (if h.who == who then Some h else entry_of waiter_of ws who)
entry_ahead h [] who none = refl
entry_ahead h (x ∷ xs) who none =
    let here = passes_by x (entry_of waiter_of xs h.who) (x.who == h.who) none in
    entry_by h x xs (ahead h xs) who (nat_lt h.priority x.priority) here.0 (entry_ahead h xs who here.1)

-- one that has no number there changes nothing
joined_by : (q p : ℕ) (m : Option ℕ) (who priority : ℕ) (n : Option ℕ) (ws : List Waiter) → ahead_by q p m (joined who priority n ws) ≡ joined who priority n (ahead_by q p m ws)
joined_by q p None who priority n ws = refl
joined_by q p (Some m) who priority None ws = refl
joined_by q p (Some m) who priority (Some n) ws = sym (placed_ahead (record { who = who; number = n; priority = priority }) (record { who = q; number = m; priority = p }) ws)

alone : (who priority : ℕ) (n : Option ℕ) → ahead_by who priority n [] ≡ joined who priority n []
alone who priority None = refl
alone who priority (Some n) = refl

out_if : (q p : ℕ) (m : Option ℕ) (who : ℕ) (ws : List Waiter) → (q == who) ≡ false → AreInOrder ws → others waiter_of (ahead_by q p m ws) who ≡ ahead_by q p m (others waiter_of ws who)
out_if q p None who ws apart order = refl
out_if q p (Some m) who ws apart order = others_ahead (record { who = q; number = m; priority = p }) ws who apart order

own_if : (q p : ℕ) (m : Option ℕ) (who : ℕ) (ws : List Waiter) → (q == who) ≡ true → others waiter_of (ahead_by q p m ws) who ≡ others waiter_of ws who
own_if q p None who ws own = refl
own_if q p (Some m) who ws own = others_own (record { who = q; number = m; priority = p }) ws who own

entry_if : (q p : ℕ) (m : Option ℕ) (ws : List Waiter) (who : ℕ) → entry_of waiter_of ws q ≡ None
    → entry_of waiter_of (ahead_by q p m ws) who ≡ (if q == who then option_map (λ n. record { who = q; number = n; priority = p }) m else entry_of waiter_of ws who)
entry_if q p None ws who none = elim (cases_Bool (q == who)) [
  | inl here ↦ (let own : q ≡ who = eqb-true q who here in rw here (ap (entry_of waiter_of ws) (sym own) ∙ none))
  | inr apart ↦ rw apart refl
]
entry_if q p (Some m) ws who none = entry_ahead (record { who = q; number = m; priority = p }) ws who none

none_left : (who : ℕ) (listed : Bool) (ws : List Waiter) → (listed ≡ false → entry_of waiter_of ws who ≡ None) → left who listed ws ≡ others waiter_of ws who
none_left who true ws none = refl
none_left who false ws none = sym (others_all waiter_of ws who (none refl))

abbrev as_waiter : ℕ → ℕ → ℕ → Waiter
as_waiter who priority n = record { who = who; number = n; priority = priority }

unnumbered : (who priority : ℕ) (n : Option ℕ) → is_some n ≡ false → option_map (as_waiter who priority) n ≡ None
unnumbered who priority None none = refl
unnumbered who priority (Some n) none = absurd (let f : ⊥ = cc in f)

module _ {X : Type 0} (key priority : X → ℕ) (number : ℕ → X → Option ℕ) where
  abbrev Queue : ℕ → List X → List Waiter
  Queue place xs = queue_at key priority number place xs

  pub queue_order : (place : ℕ) (xs : List X) → AreInOrder (Queue place xs)
  queue_order place [] = tt
  queue_order place (x ∷ xs) = order_if (key x) (priority x) (number place x) (Queue place xs) (queue_order place xs)

  -- one more comes
  pub queue_push : (place : ℕ) (xs : List X) (x : X) → Queue place (xs ++ x ∷ []) ≡ joined (key x) (priority x) (number place x) (Queue place xs)
  queue_push place [] x = alone (key x) (priority x) (number place x)
  queue_push place (y ∷ ys) x = ap (ahead_by (key y) (priority y) (number place y)) (queue_push place ys x) ∙ joined_by (key y) (priority y) (number place y) (key x) (priority x) (number place x) (Queue place ys)

  -- one goes
  others_by : (place : ℕ) (y : X) (ys : List X) (who : ℕ) (t : Bool) → (key y == who) ≡ t → Queue place (others key ys who) ≡ others waiter_of (Queue place ys) who
      → Queue place (if not t then y ∷ others key ys who else others key ys who) ≡ others waiter_of (Queue place (y ∷ ys)) who
  others_by place y ys who true is rest = rest ∙ sym (own_if (key y) (priority y) (number place y) who (Queue place ys) is)
  others_by place y ys who false is rest = ap (ahead_by (key y) (priority y) (number place y)) rest ∙ sym (out_if (key y) (priority y) (number place y) who (Queue place ys) is (queue_order place ys))

  pub queue_others : (place : ℕ) (xs : List X) (who : ℕ) → Queue place (others key xs who) ≡ others waiter_of (Queue place xs) who
  queue_others place [] who = refl
  queue_others place (y ∷ ys) who = others_by place y ys who (key y == who) refl (queue_others place ys who)

  -- exactly those wait that are listed
  told_by : (place : ℕ) (y : X) (rest : Option X) (who : ℕ) (t : Bool) → (if t then waits_at key priority number place y else option_and_then (waits_at key priority number place) rest) ≡ option_and_then (waits_at key priority number place) (if t then Some y else rest)
  told_by place y rest who true = refl
  told_by place y rest who false = refl

  pub queue_entry : (place : ℕ) (xs : List X) (who : ℕ) → AreOnce key xs → entry_of waiter_of (Queue place xs) who ≡ option_and_then (waits_at key priority number place) (entry_of key xs who)
  queue_entry place [] who once = refl
  queue_entry place (y ∷ ys) who once =
      let none = queue_entry place ys (key y) once.1 ∙ ap (option_and_then (waits_at key priority number place)) once.0 in
      entry_if (key y) (priority y) (number place y) (Queue place ys) who none
      ∙ ap (λ (o : Option Waiter). if key y == who then waits_at key priority number place y else o) (queue_entry place ys who once.1)
      ∙ told_by place y (entry_of key ys who) who (key y == who)

  -- one goes from where it is listed
  pub queue_left : (place : ℕ) (xs : List X) (who : ℕ) (x : X) → AreOnce key xs → entry_of key xs who ≡ Some x → left who (is_some (number place x)) (Queue place xs) ≡ Queue place (others key xs who)
  queue_left place xs who x once found =
      none_left who (is_some (number place x)) (Queue place xs)
      (λ none. queue_entry place xs who once ∙ ap (option_and_then (waits_at key priority number place)) found ∙ unnumbered (key x) (priority x) (number place x) none)
      ∙ sym (queue_others place xs who)

  -- whoever waits there is listed
  pub record ComesFrom (place : ℕ) (xs : List X) (w : Waiter) : Type 0 where
    pub at : ℕ
    pub item : X
    pub there : slice_get xs at ≡ Some item
    pub waits : waits_at key priority number place item ≡ Some w

  from_by : (place : ℕ) (y : X) (ys : List X) (n : Option ℕ) (k : ℕ) (w : Waiter) → number place y ≡ n → ((j : ℕ) → slice_get (Queue place ys) j ≡ Some w → ComesFrom place ys w)
      → slice_get (ahead_by (key y) (priority y) n (Queue place ys)) k ≡ Some w → ComesFrom place (y ∷ ys) w
  from_by place y ys None k w is before at = let c = before k at in record { at = suc c.at; item = c.item; there = c.there; waits = c.waits }
  from_by place y ys (Some n) k w is before at = elim (ahead_or_old (record { who = key y; number = n; priority = priority y }) (Queue place ys) k w at) [
    | inl same ↦ record { at = 0; item = y; there = refl; waits = ap (option_map (λ m. record { who = key y; number = m; priority = priority y })) is ∙ ap Some (sym same) }
    | inr old ↦ (let c = before old.0 old.1 in record { at = suc c.at; item = c.item; there = c.there; waits = c.waits })
  ]

  pub queue_from : (place : ℕ) (xs : List X) (k : ℕ) (w : Waiter) → slice_get (Queue place xs) k ≡ Some w → ComesFrom place xs w
  queue_from place [] k w at = absurd (let f : ⊥ = cc in f)
  queue_from place (y ∷ ys) k w at = from_by place y ys (number place y) k w refl (λ j. queue_from place ys j w) at

-- Items that stand under who waits by them.
flipped : (a b : ℕ) → nat_eq a b ≡ (b == a)
flipped a b = elim (cases_Bool (b == a)) [
  | inl same ↦ (let e : b ≡ a = eqb-true b a same in let t : nat_eq a b ≡ true = grind (arith, nat_tests) in t ∙ sym same)
  | inr apart ↦ (let t : nat_eq a b ≡ false = grind (arith, nat_tests) in t ∙ sym apart)
]

module _ {X : Type 0} (key : X → ℕ) where
  found_by : (e : ℕ × X) (es : List (ℕ × X)) (who : ℕ) (rest : Option X) → e.0 ≡ key e.1 → lookup (nat_eq who) es ≡ rest → lookup (nat_eq who) (e ∷ es) ≡ (if key e.1 == who then Some e.1 else rest)
  found_by e es who rest own is = ap (λ (k : ℕ). cond (nat_eq who k) (Some e.1) (lookup (nat_eq who) es)) own ∙ ap (λ (t : Bool). cond t (Some e.1) (lookup (nat_eq who) es)) (flipped who (key e.1)) ∙ ap (λ (o : Option X). if key e.1 == who then Some e.1 else o) is

  pub keyed_lookup : (es : List (ℕ × X)) (who : ℕ) → AreKeyed key es → lookup (nat_eq who) es ≡ entry_of key (values_of es) who
  keyed_lookup [] who h = refl
  keyed_lookup (e ∷ es) who h = found_by e es who (entry_of key (values_of es) who) h.0 (keyed_lookup es who h.1)

  pub keyed_push : (es : List (ℕ × X)) (x : X) → AreKeyed key es → AreKeyed key (es ++ (key x, x) ∷ [])
  keyed_push [] x h = (refl, tt)
  keyed_push (e ∷ es) x h = (h.0, keyed_push es x h.1)

  pub values_push : (es : List (ℕ × X)) (k : ℕ) (x : X) → values_of (es ++ (k, x) ∷ []) ≡ values_of es ++ x ∷ []
  values_push [] k x = refl
  values_push (e ∷ es) k x = ap (λ (l : List X). e.1 ∷ l) (values_push es k x)

  removed_by : (e : ℕ × X) (es rest : List (ℕ × X)) (t : Bool) → e.0 ≡ key e.1 → AreKeyed key es → AreKeyed key rest → AreKeyed key (cond t es (e ∷ rest))
  removed_by e es rest true own all less = all
  removed_by e es rest false own all less = (own, less)

  pub keyed_removed : (es : List (ℕ × X)) (who : ℕ) → AreKeyed key es → AreKeyed key (remove_entry (nat_eq who) es)
  keyed_removed [] who h = tt
  keyed_removed (e ∷ es) who h = removed_by e es (remove_entry (nat_eq who) es) (nat_eq who e.0) h.0 h.1 (keyed_removed es who h.1)

  values_by : (e : ℕ × X) (es rest : List (ℕ × X)) (who : ℕ) (t : Bool) → (key e.1 == who) ≡ t → entry_of key (values_of es) (key e.1) ≡ None → values_of rest ≡ others key (values_of es) who
      → values_of (cond t es (e ∷ rest)) ≡ others key (values_of (e ∷ es)) who
  values_by e es rest who true is none less = let own : key e.1 ≡ who = eqb-true (key e.1) who is in rw is (sym (others_all key (values_of es) who (ap (entry_of key (values_of es)) (sym own) ∙ none)))
  values_by e es rest who false is none less = rw is (ap (λ (l : List X). e.1 ∷ l) less)

  pub values_removed : (es : List (ℕ × X)) (who : ℕ) → AreKeyed key es → AreOnce key (values_of es) → values_of (remove_entry (nat_eq who) es) ≡ others key (values_of es) who
  values_removed [] who h once = refl
  values_removed (e ∷ es) who h once =
      ap (λ (k : ℕ). values_of (cond (nat_eq who k) es (e ∷ remove_entry (nat_eq who) es))) h.0
      ∙ ap (λ (t : Bool). values_of (cond t es (e ∷ remove_entry (nat_eq who) es))) (flipped who (key e.1))
      ∙ values_by e es (remove_entry (nat_eq who) es) who (key e.1 == who) refl once.0 (values_removed es who h.1 once.1)

-- where a queue stood before
was_there : (old new : List (List Waiter)) (place : ℕ) (ws : List Waiter) → length new ≡ length old → slice_get new place ≡ Some ws → (was : List Waiter) × (slice_get old place ≡ Some was)
was_there old new place ws each at = let low = slice_get_within new place ws at in some_at old place (omega (arith, low, each))

module _ {X : Type 0} (key priority : X → ℕ) (number : ℕ → X → Option ℕ) where
  -- one that isn't listed waits nowhere
  pub nowhere : (entries : List (ℕ × X)) (waiting : List (List Waiter)) (who : ℕ) → AreListed key priority number entries waiting → entry_of key (values_of entries) who ≡ None → IsNowhere waiting who
  nowhere entries waiting who h none place ws at =
      ap (λ (l : List Waiter). entry_of waiter_of l who) (h.queues place ws at) ∙ queue_entry key priority number place (values_of entries) who h.once ∙ ap (option_and_then (waits_at key priority number place)) none

  -- one more comes
  pub listed_put : (entries entries' : List (ℕ × X)) (old new : List (List Waiter)) (x : X) (places : List Alternative) → AreListed key priority number entries old → entry_of key (values_of entries) (key x) ≡ None
      → ((place : ℕ) → number place x ≡ number_for places place) → entries' ≡ entries ++ (key x, x) ∷ [] → Joins (key x) (priority x) places old new → AreListed key priority number entries' new
  listed_put entries entries' old new x places h none listed is joins =
      let values : values_of entries' ≡ values_of entries ++ x ∷ [] = ap (λ (es : List (ℕ × X)). values_of es) is ∙ values_push key entries (key x) x in
      record {
        keyed = subst (λ (es : List (ℕ × X)). AreKeyed key es) (sym is) (keyed_push key entries x h.keyed);
        once = subst (λ (xs : List X). AreOnce key xs) (sym values) (once_push key (values_of entries) x h.once none);
        queues = λ place ws at.
            (let was = was_there old new place ws joins.each at in
            let now : joined (key x) (priority x) (number_for places place) was.0 ≡ ws = same_Some _ ws (sym (joins.at place was.0 was.1) ∙ at) in
            sym now ∙ ap (joined (key x) (priority x) (number_for places place)) (h.queues place was.0 was.1)
            ∙ ap (λ (n : Option ℕ). joined (key x) (priority x) n (queue_at key priority number place (values_of entries))) (sym (listed place))
            ∙ sym (queue_push key priority number place (values_of entries) x) ∙ ap (queue_at key priority number place) (sym values));
      }

  -- one goes
  pub listed_take : (entries entries' : List (ℕ × X)) (old new : List (List Waiter)) (who : ℕ) (x : X) (places : List Alternative) → AreListed key priority number entries old → entry_of key (values_of entries) who ≡ Some x
      → ((place : ℕ) → number place x ≡ number_for places place) → entries' ≡ remove_entry (nat_eq who) entries → Leaves who places old new → AreListed key priority number entries' new
  listed_take entries entries' old new who x places h found listed is leaves =
      let values : values_of entries' ≡ others key (values_of entries) who = ap (λ (es : List (ℕ × X)). values_of es) is ∙ values_removed key entries who h.keyed h.once in
      record {
        keyed = subst (λ (es : List (ℕ × X)). AreKeyed key es) (sym is) (keyed_removed key entries who h.keyed);
        once = subst (λ (xs : List X). AreOnce key xs) (sym values) (once_others key (values_of entries) who h.once);
        queues = λ place ws at.
            (let was = was_there old new place ws leaves.each at in
            let now : left who (is_some (number_for places place)) was.0 ≡ ws = same_Some _ ws (sym (leaves.at place was.0 was.1) ∙ at) in
            sym now ∙ ap (left who (is_some (number_for places place))) (h.queues place was.0 was.1)
            ∙ ap (λ (n : Option ℕ). left who (is_some n) (queue_at key priority number place (values_of entries))) (sym (listed place))
            ∙ queue_left key priority number place (values_of entries) who x h.once found ∙ ap (queue_at key priority number place) (sym values));
      }

-- Who came first of those that wait at a place, and whose value goes first.
use Rattle.std.proofs.Common.{◌≡◌, ℕ, zero, suc, ◌<◌, ◌≤◌, List, [], ◌∷◌, ◌++◌, Bool, true, false, not, refl, sym, ap, ◌∙◌, subst, inl, inr, arith, Some, None, Option, slice_get, eq-eqb}
use Rattle.std.specs.Prelude.{if◌then◌else◌, nat_lt, ◌==◌, ◌&&◌, is_some}
use Rattle.std.specs.List.{find}
use Rattle.std.specs.Option.{option_map}
use Rattle.std.proofs.lemmas.Bool.{eqb-true}
use Rattle.std.proofs.lemmas.Bool.Decides.{nat_tests}
use Rattle.std.proofs.lemmas.Option.{same_Some}
use Rattle.world_model.specs.Lists.{number_for}
use Rattle.world_model.proofs.Stores.{in_filter}
use Rattle.world_model.proofs.ChangedLists.{pushed_or_old}
use Rattle.kernel_lists.specs.Best.{precedes_in}
use Rattle.kernel_lists.specs.Once.{AreOnce, entry_of, others}
use Rattle.kernel_lists.proofs.Entries.{entry_at, found_at}
use Rattle.value_queues.specs.Queues.{rank_of}
use Rattle.wait_queues.specs.declared.waiters.Waiter.{Waiter}
use Rattle.wait_queues.specs.Waiting.{waiter_of}
use Rattle.buffers_signals.specs.declared.messages.Held.{Held}
use Rattle.buffers_signals.specs.declared.messages.Receiver.{Receiver}
use Rattle.buffers_signals.specs.Lists.{IsIn, lists, receiver_of, sender_of}
use Rattle.buffers_signals.specs.Arrivals.{AreBefore, AreRising, ahead, ahead_by, no_priority, priority_of, rank_in, receivers_at, receives_at, senders_at, sends_at}
use Rattle.buffers_signals.proofs.Arrivals.{ahead_first, queue_from}

-- receivers stand in the order in which they came
told_zero : (who : ℕ) (n : Option ℕ) (w : Waiter) → option_map (λ m. record { who = who; number = m; priority = 0 }) n ≡ Some w → w.priority ≤ 0
told_zero who None w told = absurd (let f : ⊥ = cc in f)
told_zero who (Some n) w told =
    let e : record { who = who; number = n; priority = 0 } ≡ w = same_Some _ w told in
    let p = ap (λ (x : Waiter). x.priority) e in omega (arith, p)

stands_first : (place : ℕ) (r : Receiver) (rs : List Receiver) (n : ℕ) → number_for r.things place ≡ Some n → receivers_at place (r ∷ rs) ≡ record { who = r.who; number = n; priority = 0 } ∷ receivers_at place rs
stands_first place r rs n is =
    ap (λ (o : Option ℕ). ahead_by r.who 0 o (receivers_at place rs)) is
    ∙ ahead_first (record { who = r.who; number = n; priority = 0 }) (receivers_at place rs) (λ k other at. let c = queue_from receiver_of no_priority receives_at place rs k other at in told_zero c.item.who (number_for c.item.things place) other c.waits)

found_by : (place : ℕ) (f : ℕ → Bool) (r : Receiver) (rs : List Receiver) (n : Option ℕ) (t : Bool) → number_for r.things place ≡ n → f r.who ≡ t
    → option_map waiter_of (find (λ w. f w.who) (receivers_at place rs)) ≡ option_map receiver_of (find (λ r. f r.who && lists place r) rs)
    → option_map waiter_of (find (λ w. f w.who) (receivers_at place (r ∷ rs))) ≡ option_map receiver_of (find (λ r. f r.who && lists place r) (r ∷ rs))
found_by place f r rs None t is passes rest =
    let fails : (f r.who && lists place r) ≡ false = ap (λ (o : Option ℕ). f r.who && is_some o) is ∙ never (f r.who) in
    ap (λ (o : Option ℕ). option_map waiter_of (find (λ (w : Waiter). f w.who) (ahead_by r.who 0 o (receivers_at place rs)))) is ∙ rest ∙ sym (skipped fails)
  where
    never : (b : Bool) → (b && false) ≡ false
    never true = refl
    never false = refl

    skipped : (f r.who && lists place r) ≡ false → option_map receiver_of (find (λ (r : Receiver). f r.who && lists place r) (r ∷ rs)) ≡ option_map receiver_of (find (λ (r : Receiver). f r.who && lists place r) rs)
    skipped fails = rw fails refl
found_by place f r rs (Some n) true is passes rest =
    let holds : (f r.who && lists place r) ≡ true = ap (λ (b : Bool). b && lists place r) passes ∙ ap (λ (o : Option ℕ). is_some o) is in
    ap (λ (ws : List Waiter). option_map waiter_of (find (λ (w : Waiter). f w.who) ws)) (stands_first place r rs n is) ∙ here passes ∙ sym (there holds)
  where
    here : f r.who ≡ true → option_map waiter_of (find (λ (w : Waiter). f w.who) (record { who = r.who; number = n; priority = 0 } ∷ receivers_at place rs)) ≡ Some r.who
    here p = rw p refl

    there : (f r.who && lists place r) ≡ true → option_map receiver_of (find (λ (r : Receiver). f r.who && lists place r) (r ∷ rs)) ≡ Some r.who
    there p = rw p refl
found_by place f r rs (Some n) false is passes rest =
    let fails : (f r.who && lists place r) ≡ false = ap (λ (b : Bool). b && lists place r) passes in
    ap (λ (ws : List Waiter). option_map waiter_of (find (λ (w : Waiter). f w.who) ws)) (stands_first place r rs n is) ∙ here passes ∙ rest ∙ sym (skipped fails)
  where
    here : f r.who ≡ false → option_map waiter_of (find (λ (w : Waiter). f w.who) (record { who = r.who; number = n; priority = 0 } ∷ receivers_at place rs)) ≡ option_map waiter_of (find (λ (w : Waiter). f w.who) (receivers_at place rs))
    here p = rw p refl

    skipped : (f r.who && lists place r) ≡ false → option_map receiver_of (find (λ (r : Receiver). f r.who && lists place r) (r ∷ rs)) ≡ option_map receiver_of (find (λ (r : Receiver). f r.who && lists place r) rs)
    skipped p = rw p refl

-- who passes first in the queue passes first of all
pub found_there : (place : ℕ) (f : ℕ → Bool) (rs : List Receiver) → option_map waiter_of (find (λ w. f w.who) (receivers_at place rs)) ≡ option_map receiver_of (find (λ r. f r.who && lists place r) rs)
found_there place f [] = refl
found_there place f (r ∷ rs) = found_by place f r rs (number_for r.things place) (f r.who) refl refl (found_there place f rs)

front_is : (ws : List Waiter) → option_map waiter_of (slice_get ws 0) ≡ option_map waiter_of (find (λ w. true) ws)
front_is [] = refl
front_is (w ∷ ws) = refl

pub first_there : (place : ℕ) (rs : List Receiver) → option_map waiter_of (slice_get (receivers_at place rs) 0) ≡ option_map receiver_of (find (lists place) rs)
first_there place rs = front_is (receivers_at place rs) ∙ found_there place (λ who. true) rs

-- send numbers go on rising
pub rising_push : (hs : List Held) (h : Held) → AreRising hs → AreBefore h.value.send hs → AreRising (hs ++ h ∷ [])
rising_push [] h rising before = (λ k later at. absurd (let f : ⊥ = cc in f), tt)
rising_push (x ∷ xs) h rising before = (
  λ k later at. elim (pushed_or_old xs k h later at) [
    | inl last ↦ (let e = ap (λ (y : Held). y.value.send) last.1 in let low = before 0 x refl in omega (arith, e, low))
    | inr old ↦ rising.0 k later old
  ],
  rising_push xs h rising.1 (λ k held at. before (suc k) held at),
)

rising_by : (x : Held) (xs ys : List Held) (t : Bool) → ((k : ℕ) (later : Held) → slice_get ys k ≡ Some later → x.value.send < later.value.send) → AreRising ys → AreRising (if t then x ∷ ys else ys)
rising_by x xs ys true low rest = (low, rest)
rising_by x xs ys false low rest = rest

pub rising_others : (hs : List Held) (who : ℕ) → AreRising hs → AreRising (others sender_of hs who)
rising_others [] who rising = tt
rising_others (x ∷ xs) who rising =
    rising_by x xs (others sender_of xs who) (not (x.value.sender == who)) (λ k later at. let there = in_filter (λ (y : Held). not (y.value.sender == who)) xs k later at in rising.0 there.0 later there.1) (rising_others xs who rising.1)

-- The value that goes first of those whose senders wait on a buffer.
abbrev waiter : Held → Waiter
waiter held = record { who = held.value.sender; number = held.value.send; priority = held.value.priority }

sends_here : (buffer : ℕ) (held : Held) (t : Bool) → (held.buffer == buffer) ≡ t → sends_at buffer held ≡ (if t then Some held.value.send else None)
sends_here buffer held t is = ap (λ (b : Bool). if b then Some held.value.send else None) is

with_own : (buffer : ℕ) (held : Held) (hs : List Held) → (held.buffer == buffer) ≡ true → senders_at buffer (held ∷ hs) ≡ ahead (waiter held) (senders_at buffer hs)
with_own buffer held hs is = ap (λ (o : Option ℕ). ahead_by held.value.sender held.value.priority o (senders_at buffer hs)) (sends_here buffer held true is)

without : (buffer : ℕ) (held : Held) (hs : List Held) → (held.buffer == buffer) ≡ false → senders_at buffer (held ∷ hs) ≡ senders_at buffer hs
without buffer held hs is = ap (λ (o : Option ℕ). ahead_by held.value.sender held.value.priority o (senders_at buffer hs)) (sends_here buffer held false is)

-- nothing goes before the first
pub record IsNotAhead (ws : List Waiter) (held : Held) : Type 0 where
  pub first : Waiter
  pub rest : List Waiter
  pub is : ws ≡ first ∷ rest
  pub behind : precedes_in (rank_of held.value) (rank_in first) ≡ false

not_itself : (h : Held) → precedes_in (rank_of h.value) (rank_in (waiter h)) ≡ false
not_itself h = grind (arith, nat_tests)

lower_first : (h : Held) (x : Waiter) → nat_lt h.value.priority x.priority ≡ true → precedes_in (rank_of h.value) (rank_in x) ≡ false
lower_first h x low = grind (arith, nat_tests)

later_one : (h o : Held) (x : Waiter) → nat_lt h.value.priority x.priority ≡ false → precedes_in (rank_of o.value) (rank_in x) ≡ false → h.value.send < o.value.send → precedes_in (rank_of o.value) (rank_in (waiter h)) ≡ false
later_one h o x high behind later = grind (arith, nat_tests)

own_first : (h : Held) (ws : List Waiter) → IsNotAhead (ahead (waiter h) ws) h
own_first h [] = record { first = waiter h; rest = []; is = refl; behind = not_itself h }
own_first h (x ∷ xs) = by (nat_lt h.value.priority x.priority) refl
  where
    by : (t : Bool) → nat_lt h.value.priority x.priority ≡ t → IsNotAhead (ahead (waiter h) (x ∷ xs)) h
    by true is = record { first = x; rest = ahead (waiter h) xs; is = rw is refl; behind = lower_first h x is }
    by false is = record { first = waiter h; rest = x ∷ xs; is = rw is refl; behind = not_itself h }

still_first : (h o : Held) (ws : List Waiter) → h.value.send < o.value.send → IsNotAhead ws o → IsNotAhead (ahead (waiter h) ws) o
still_first h o ws later n = subst (λ (l : List Waiter). IsNotAhead (ahead (waiter h) l) o) (sym n.is) (by (nat_lt h.value.priority n.first.priority) refl)
  where
    by : (t : Bool) → nat_lt h.value.priority n.first.priority ≡ t → IsNotAhead (ahead (waiter h) (n.first ∷ n.rest)) o
    by true is = record { first = n.first; rest = ahead (waiter h) n.rest; is = rw is refl; behind = n.behind }
    by false is = record { first = waiter h; rest = n.first ∷ n.rest; is = rw is refl; behind = later_one h o n.first is n.behind later }

either : (buffer : ℕ) (h o : Held) (hs : List Held) (t : Bool) → (h.buffer == buffer) ≡ t → h.value.send < o.value.send → IsNotAhead (senders_at buffer hs) o → IsNotAhead (senders_at buffer (h ∷ hs)) o
either buffer h o hs true is later n = subst (λ (l : List Waiter). IsNotAhead l o) (sym (with_own buffer h hs is)) (still_first h o (senders_at buffer hs) later n)
either buffer h o hs false is later n = subst (λ (l : List Waiter). IsNotAhead l o) (sym (without buffer h hs is)) n

pub not_ahead : (buffer : ℕ) (hs : List Held) (k : ℕ) (o : Held) → AreRising hs → slice_get hs k ≡ Some o → (o.buffer == buffer) ≡ true → IsNotAhead (senders_at buffer hs) o
not_ahead buffer [] k o rising at is = absurd (let f : ⊥ = cc in f)
not_ahead buffer (h ∷ hs) zero o rising at is =
    let e : h ≡ o = same_Some h o at in
    subst (λ (x : Held). IsNotAhead (senders_at buffer (h ∷ hs)) x) e (subst (λ (l : List Waiter). IsNotAhead l h) (sym (with_own buffer h hs (ap (λ (x : Held). x.buffer == buffer) e ∙ is))) (own_first h (senders_at buffer hs)))
not_ahead buffer (h ∷ hs) (suc k) o rising at is = either buffer h o hs (h.buffer == buffer) refl (rising.0 k o at) (not_ahead buffer hs k o rising.1 at is)

-- whose value it is
pub record Offers (hs : List Held) (buffer : ℕ) (w : Waiter) : Type 0 where
  pub at : ℕ
  pub held : Held
  pub there : slice_get hs at ≡ Some held
  pub here : held.buffer ≡ buffer
  pub who : held.value.sender ≡ w.who
  pub rank : rank_of held.value ≡ rank_in w

offers_by : (hs : List Held) (buffer : ℕ) (w : Waiter) (at : ℕ) (held : Held) (t : Bool) → (held.buffer == buffer) ≡ t → slice_get hs at ≡ Some held → option_map (λ n. record { who = held.value.sender; number = n; priority = held.value.priority }) (if t then Some held.value.send else None) ≡ Some w → Offers hs buffer w
offers_by hs buffer w at held true is there told =
    let e : waiter held ≡ w = same_Some (waiter held) w told in
    record { at = at; held = held; there = there; here = eqb-true held.buffer buffer is; who = ap waiter_of e; rank = ap rank_in e }
offers_by hs buffer w at held false is there told = absurd (let f : ⊥ = cc in f)

pub offers : (hs : List Held) (buffer k : ℕ) (w : Waiter) → slice_get (senders_at buffer hs) k ≡ Some w → Offers hs buffer w
offers hs buffer k w at =
    let c = queue_from sender_of priority_of sends_at buffer hs k w at in
    offers_by hs buffer w c.at c.item (c.item.buffer == buffer) refl c.there c.waits

-- the sender that waits first, and its value
pub record GoesFirst (hs : List Held) (buffer : ℕ) (w : Waiter) (offer : Held) : Type 0 where
  pub there : IsIn hs offer
  pub here : offer.buffer ≡ buffer
  pub who : offer.value.sender ≡ w.who
  pub best : (other : Held) → IsIn hs other → other.buffer ≡ buffer → precedes_in (rank_of other.value) (rank_of offer.value) ≡ false

first_same : (ws : List Waiter) (w first : Waiter) (rest : List Waiter) → slice_get ws 0 ≡ Some w → ws ≡ first ∷ rest → first ≡ w
first_same ws w first rest at is = same_Some first w (sym (ap (λ (l : List Waiter). slice_get l 0) is) ∙ at)

pub entry_offered : (hs : List Held) (buffer : ℕ) (w : Waiter) (o : Offers hs buffer w) → AreOnce sender_of hs → entry_of sender_of hs w.who ≡ Some o.held
entry_offered hs buffer w o once = ap (entry_of sender_of hs) (sym o.who) ∙ entry_at sender_of hs o.at o.held once o.there

pub goes_first : (hs : List Held) (buffer : ℕ) (w : Waiter) (offer : Held) → AreOnce sender_of hs → AreRising hs → slice_get (senders_at buffer hs) 0 ≡ Some w → entry_of sender_of hs w.who ≡ Some offer → GoesFirst hs buffer w offer
goes_first hs buffer w offer once rising first found =
    let o = offers hs buffer 0 w first in
    let same : o.held ≡ offer = same_Some o.held offer (sym (entry_offered hs buffer w o once) ∙ found) in
    record {
      there = (o.at, o.there ∙ ap Some same);
      here = ap (λ (h : Held). h.buffer) (sym same) ∙ o.here;
      who = ap sender_of (sym same) ∙ o.who;
      best = λ other in_list by.
          (let n = not_ahead buffer hs in_list.0 other rising in_list.1 (eq-eqb other.buffer buffer by) in
          ap (λ (h : Held). precedes_in (rank_of other.value) (rank_of h.value)) (sym same) ∙ ap (precedes_in (rank_of other.value)) o.rank
          ∙ ap (λ (x : Waiter). precedes_in (rank_of other.value) (rank_in x)) (sym (first_same (senders_at buffer hs) w n.first n.rest first n.is)) ∙ n.behind);
    }

-- where nobody waits first nobody waits
pub nobody_first : (hs : List Held) (buffer : ℕ) → AreRising hs → slice_get (senders_at buffer hs) 0 ≡ None → (held : Held) → IsIn hs held → held.buffer ≡ buffer → ⊥
nobody_first hs buffer rising none held there is =
    let n = not_ahead buffer hs there.0 held rising there.1 (eq-eqb held.buffer buffer is) in
    let clash : None ≡ Some n.first = sym none ∙ ap (λ (l : List Waiter). slice_get l 0) n.is in
    let f : ⊥ = cc in f

-- the receiver that came first waits
pub record ComesFirst (place : ℕ) (rs : List Receiver) (who : ℕ) (test : Receiver → Bool) : Type 0 where
  pub receiver : Receiver
  pub found : find test rs ≡ Some receiver
  pub own : receiver.who ≡ who
  pub waits : entry_of receiver_of rs who ≡ Some receiver
  pub passes : test receiver ≡ true

first_by : (place : ℕ) (rs : List Receiver) (who : ℕ) (test : Receiver → Bool) (o : Option Receiver) → AreOnce receiver_of rs → find test rs ≡ o → option_map receiver_of o ≡ Some who → ComesFirst place rs who test
first_by place rs who test None once is first = absurd (let f : ⊥ = cc in f)
first_by place rs who test (Some r) once is first =
    let own : r.who ≡ who = same_Some r.who who first in
    let there = found_at test rs r is in
    record { receiver = r; found = is; own = own; waits = ap (entry_of receiver_of rs) (sym own) ∙ entry_at receiver_of rs there.0.0 r once there.0.1; passes = there.1 }

pub comes_first : (place : ℕ) (rs : List Receiver) (who : ℕ) (test : Receiver → Bool) → AreOnce receiver_of rs → option_map receiver_of (find test rs) ≡ Some who → ComesFirst place rs who test
comes_first place rs who test once first = first_by place rs who test (find test rs) once refl first

pub nobody_comes : {X : Type 0} (key : X → ℕ) (o : Option X) → option_map key o ≡ None → o ≡ None
nobody_comes key None none = refl
nobody_comes key (Some x) none = absurd (let f : ⊥ = cc in f)

-- What the best of the values that go first in their buffers says of all that may be received.
use Rattle.std.proofs.Common.{◌≡◌, ℕ, zero, suc, ◌<◌, List, [], ◌∷◌, Bool, true, false, not, refl, sym, ap, ◌∙◌, slice_get, Option, Some, None, is_some, IsSome, arith, eq-eqb, get_or, subst, length}
use Rattle.std.specs.Prelude.{IsFalse, ◌==◌, ◌&&◌, if◌then◌else◌, slice_index_or}
use Rattle.std.proofs.lemmas.Bool.Decides.{nat_tests}
use Rattle.std.proofs.lemmas.Bool.{eqb-true}
use Rattle.std.specs.List.{remove, filter}
use Rattle.std.proofs.lemmas.Option.{same_Some}
use Rattle.std.specs.Option.{option_map}
use Rattle.world_model.proofs.ChangedLists.{read_is}
use Rattle.kernel_lists.specs.Once.{others, AreOnce, entry_of}
use Rattle.wait_queues.specs.declared.waiters.Waiter.{Waiter}
use Rattle.kernel_base.specs.declared.request.Alternative.{Alternative}
use Rattle.world_model.specs.Lists.{number_for}
use Rattle.kernel_lists.specs.declared.best.Rank.{Rank}
use Rattle.kernel_lists.specs.declared.best.Best.{Best}
use Rattle.kernel_lists.specs.Best.{precedes_in, IsBest, NoneRanked}
use Rattle.buffers_signals.specs.declared.messages.Held.{Held}
use Rattle.buffers_signals.specs.declared.messages.Received.{Received}
use Rattle.buffers_signals.specs.declared.messages.Received.TheVariants as receipts
use Rattle.world_model.specs.declared.world.StoredValue.{StoredValue}
use Rattle.value_queues.specs.Queues.{rank_of, AreInOrder, values_in, with_placed, first_rank}
use Rattle.value_queues.proofs.Ordered.{lower}
use Rattle.buffers_signals.specs.Lists.{IsIn, sender_of}
use Rattle.buffers_signals.specs.Buffers.{SeenBuffers, Values, IsCandidateOf, IsCandidate, NoCandidate, IsRefilled, Refills, ReceivesFrom}
use Rattle.buffers_signals.specs.Arrivals.{AreRising, rank_in, senders_at}
use Rattle.buffers_signals.specs.Steps.{GotFrom, values}
use Rattle.buffers_signals.specs.Ranks.{is_zero, is_unbuffered, is_listed, front_rank, offered_rank, IsFrontAt, IsOfferAt}
use Rattle.buffers_signals.proofs.Firsts.{entry_offered, goes_first, nobody_first, not_ahead, offers}

pub both : (a b : Bool) → (a && b) ≡ true → (a ≡ true) × (b ≡ true)
both true true e = (refl, refl)
both true false e = cc
both false b e = cc

pub joined : (a b : Bool) → a ≡ true → b ≡ true → (a && b) ≡ true
joined a b p q = rw (p, q) refl

-- the number of what is listed
pub numbered : (o : Option ℕ) → is_some o ≡ true → (n : ℕ) × (o ≡ Some n)
numbered None e = cc
numbered (Some n) e = (n, refl)

pub some_true : (o : Option ℕ) → IsSome o → is_some o ≡ true
some_true o h = h

not_listed : (o : Option ℕ) → is_some o ≡ false → o ≡ None
not_listed None e = refl
not_listed (Some n) e = cc

not_zero : (n : ℕ) → (suc n == 0) ≡ true → ⊥
not_zero n e = absurd (omega (arith, eqb-true (suc n) 0 e))

-- a candidate by the length of its buffer
offered_in : (length : Option ℕ) (b : SeenBuffers) (held : Held) → is_zero length ≡ true → IsCandidateOf length b held → IsIn b.senders held
offered_in None b held empty c = cc
offered_in (Some zero) b held empty c = c
offered_in (Some (suc n)) b held empty c = absurd (not_zero n empty)

abbrev Lies : SeenBuffers → Held → Type 0
Lies b held = IsIn (values_in b.stored held.buffer) held.value

stored_in : (length : Option ℕ) (b : SeenBuffers) (held : Held) → is_zero length ≡ false → IsCandidateOf length b held → Lies b held
stored_in None b held apart c = c
stored_in (Some zero) b held apart c = cc
stored_in (Some (suc n)) b held apart c = c

offered_may : (length : Option ℕ) (b : SeenBuffers) (held : Held) → is_zero length ≡ true → IsIn b.senders held → IsCandidateOf length b held
offered_may None b held empty c = cc
offered_may (Some zero) b held empty c = c
offered_may (Some (suc n)) b held empty c = absurd (not_zero n empty)

stored_may : (length : Option ℕ) (b : SeenBuffers) (held : Held) → is_zero length ≡ false → Lies b held → IsCandidateOf length b held
stored_may None b held apart c = c
stored_may (Some zero) b held apart c = cc
stored_may (Some (suc n)) b held apart c = c

pub not_itself : (a : Rank) → precedes_in a a ≡ false
not_itself a = grind (arith, nat_tests)

-- within a list an index needs no default
pub any_default : {X : Type 0} (xs : List X) (i : ℕ) (d e : X) → i < length xs → get_or xs i d ≡ get_or xs i e
any_default [] i d e low = absurd (omega arith)
any_default (x ∷ xs) zero d e low = refl
any_default (x ∷ xs) (suc i) d e low = any_default xs i d e (omega arith)

-- what is listed stands in the list, and what stands there is listed
thing_at_by : (a : Alternative) (buffers : List Alternative) (thing : ℕ) (t : Bool) → (a.thing == thing) ≡ t → is_some (if t then Some a.number else number_for buffers thing) ≡ true
    → (is_some (number_for buffers thing) ≡ true → (k : ℕ) × (x : Alternative) × (slice_get buffers k ≡ Some x) × (x.thing ≡ thing)) → (k : ℕ) × (x : Alternative) × (slice_get (a ∷ buffers) k ≡ Some x) × (x.thing ≡ thing)
thing_at_by a buffers thing true is some rest = (0, a, refl, eqb-true a.thing thing is)
thing_at_by a buffers thing false is some rest = let r = rest some in (suc r.0, r.1, r.2, r.3)

pub thing_at : (buffers : List Alternative) (thing : ℕ) → is_listed buffers thing ≡ true → (k : ℕ) × (x : Alternative) × (slice_get buffers k ≡ Some x) × (x.thing ≡ thing)
thing_at [] thing some = absurd (let f : ⊥ = cc in f)
thing_at (a ∷ buffers) thing some = thing_at_by a buffers thing (a.thing == thing) refl some (λ h. thing_at buffers thing h)

listed_by : (a : Alternative) (buffers : List Alternative) (thing : ℕ) (t : Bool) → is_some (number_for buffers thing) ≡ true → is_some (if t then Some a.number else number_for buffers thing) ≡ true
listed_by a buffers thing true h = refl
listed_by a buffers thing false h = h

pub listed_at : (buffers : List Alternative) (k : ℕ) (x : Alternative) → slice_get buffers k ≡ Some x → is_listed buffers x.thing ≡ true
listed_at [] k x at = absurd (let f : ⊥ = cc in f)
listed_at (a ∷ buffers) zero x at = let same : (a.thing == x.thing) ≡ true = eq-eqb a.thing x.thing (ap (λ (y : Alternative). y.thing) (same_Some a x at)) in rw same refl
listed_at (a ∷ buffers) (suc k) x at = listed_by a buffers x.thing (a.thing == x.thing) (listed_at buffers k x at)

-- the first value of a buffer, and one that lies in it
record FirstOf (values : List StoredValue) (value : StoredValue) : Type 0 where
  first : StoredValue
  rest : List StoredValue
  is : values ≡ first ∷ rest
  before : precedes_in (rank_of value) (rank_of first) ≡ false

first_of : (values : List StoredValue) (k : ℕ) (value : StoredValue) → AreInOrder values → slice_get values k ≡ Some value → FirstOf values value
first_of [] k value order at = absurd (let f : ⊥ = cc in f)
first_of (x ∷ xs) zero value order at = record { first = x; rest = xs; is = refl; before = let e : x ≡ value = same_Some x value at in rw e (not_itself (rank_of value)) }
first_of (x ∷ xs) (suc k) value order at = record { first = x; rest = xs; is = refl; before = order.0 k value at }

front_holds : (values : List StoredValue) (r : Rank) → first_rank values ≡ Some r → (first : StoredValue) × (rest : List StoredValue) × (values ≡ first ∷ rest) × (r ≡ rank_of first)
front_holds [] r is = absurd (let f : ⊥ = cc in f)
front_holds (first ∷ rest) r is = (first, rest, refl, sym (same_Some (rank_of first) r is))

-- who waits first on a buffer of length 0, by its rank
offer_holds : (o : Option Waiter) (r : Rank) → option_map rank_in o ≡ Some r → (w : Waiter) × (o ≡ Some w) × (rank_in w ≡ r)
offer_holds None r is = absurd (let f : ⊥ = cc in f)
offer_holds (Some w) r is = (w, refl, same_Some (rank_in w) r is)

branch_true : {X : Type 0} (t : Bool) (x y : X) → t ≡ true → (if t then x else y) ≡ x
branch_true t x y is = rw is refl

branch_false : {X : Type 0} (t : Bool) (x y : X) → t ≡ false → (if t then x else y) ≡ y
branch_false t x y is = rw is refl

module _ (b : SeenBuffers) (buffers : List Alternative) (order : (q : ℕ) → AreInOrder (values_in b.stored q)) (rising : AreRising b.senders) (once : AreOnce sender_of b.senders) where
  abbrev Front : Alternative → Option Rank
  Front a = front_rank b.lengths b.stored b.senders a.thing

  -- what may be received doesn't go before the first of its buffer
  record Ranked (other : Held) : Type 0 where
    rank : Rank
    at : front_rank b.lengths b.stored b.senders other.buffer ≡ Some rank
    behind : precedes_in (rank_of other.value) rank ≡ false

  ranked_by : (t : Bool) (other : Held) → is_unbuffered b.lengths other.buffer ≡ t → IsCandidate b other → Ranked other
  ranked_by true other is c =
      let there = offered_in (slice_index_or b.lengths other.buffer None) b other is c in
      let n = not_ahead other.buffer b.senders there.0 other rising there.1 (eq-eqb other.buffer other.buffer refl) in
      record {
        rank = rank_in n.first;
        at = branch_true (is_unbuffered b.lengths other.buffer) (offered_rank b.senders other.buffer) (first_rank (values_in b.stored other.buffer)) is ∙ ap (λ (ws : List Waiter). option_map rank_in (slice_get ws 0)) n.is;
        behind = n.behind;
      }
  ranked_by false other is c =
      let lies = stored_in (slice_index_or b.lengths other.buffer None) b other is c in
      let f = first_of (values_in b.stored other.buffer) lies.0 other.value (order other.buffer) lies.1 in
      record {
        rank = rank_of f.first;
        at = branch_false (is_unbuffered b.lengths other.buffer) (offered_rank b.senders other.buffer) (first_rank (values_in b.stored other.buffer)) is ∙ ap first_rank f.is;
        behind = f.before;
      }

  ranked : (other : Held) → IsCandidate b other → Ranked other
  ranked other c = ranked_by (is_unbuffered b.lengths other.buffer) other refl c

  -- nothing that may be received goes before the best
  behind_best : (best : Best) → IsBest Front buffers best → (other : Held) → IsCandidate b other → IsSome (number_for buffers other.buffer) → IsFalse (precedes_in (rank_of other.value) best.rank)
  behind_best best is other c listed =
      let there = thing_at buffers other.buffer (some_true (number_for buffers other.buffer) listed) in
      let r = ranked other c in
      lower (rank_of other.value) r.rank best.rank r.behind (is.highest there.0 there.1 r.rank there.2 (ap (front_rank b.lengths b.stored b.senders) there.3 ∙ r.at))

  nothing_by : (l : Bool) → NoneRanked Front buffers → (held : Held) → is_listed buffers held.buffer ≡ l → IsCandidate b held → number_for buffers held.buffer ≡ None
  nothing_by false none held listed c = not_listed (number_for buffers held.buffer) listed
  nothing_by true none held listed c =
      let there = thing_at buffers held.buffer listed in
      let r = ranked held c in
      let clash : None ≡ Some r.rank = sym (none there.0 there.1 there.2) ∙ ap (front_rank b.lengths b.stored b.senders) there.3 ∙ r.at in absurd (let f : ⊥ = cc in f)

  nothing_there : NoneRanked Front buffers → NoCandidate b buffers
  nothing_there none held c = nothing_by (is_listed buffers held.buffer) none held refl c

  stored_choice : (best : Best) (is : IsBest Front buffers best) → is_unbuffered b.lengths is.item.thing ≡ false → IsFrontAt b buffers best.place
  stored_choice best is apart =
      let holds = front_holds (values_in b.stored is.item.thing) best.rank (sym (branch_false (is_unbuffered b.lengths is.item.thing) (offered_rank b.senders is.item.thing) (first_rank (values_in b.stored is.item.thing)) apart) ∙ is.ranked) in
      let number = numbered (number_for buffers is.item.thing) (listed_at buffers best.place is.item is.at) in
      let held : Held = record { buffer = is.item.thing; value = holds.0 } in
      record {
        listed = is.item;
        at = is.at;
        value = holds.0;
        rest = holds.1;
        first = holds.2;
        choice = record {
          candidate = stored_may (slice_index_or b.lengths is.item.thing None) b held apart (0, ap (λ (vs : List StoredValue). slice_get vs 0) holds.2);
          alternative = number.0;
          listed = number.1;
          best = subst (λ (r : Rank). (other : Held) → IsCandidate b other → IsSome (number_for buffers other.buffer) → IsFalse (precedes_in (rank_of other.value) r)) holds.3 (behind_best best is);
        };
        length = apart;
      }

  offered_choice : (best : Best) (is : IsBest Front buffers best) → is_unbuffered b.lengths is.item.thing ≡ true → IsOfferAt b buffers best.place
  offered_choice best is empty =
      let holds = offer_holds (slice_get (senders_at is.item.thing b.senders) 0) best.rank (sym (branch_true (is_unbuffered b.lengths is.item.thing) (offered_rank b.senders is.item.thing) (first_rank (values_in b.stored is.item.thing)) empty) ∙ is.ranked) in
      let o = offers b.senders is.item.thing 0 holds.0 holds.1 in
      let number = numbered (number_for buffers o.held.buffer) (ap (is_listed buffers) o.here ∙ listed_at buffers best.place is.item is.at) in
      let empty' : is_unbuffered b.lengths o.held.buffer ≡ true = ap (is_unbuffered b.lengths) o.here ∙ empty in
      record {
        listed = is.item;
        at = is.at;
        first = holds.0;
        stands = holds.1;
        held = o.held;
        found = entry_offered b.senders is.item.thing holds.0 o once;
        choice = record {
          candidate = offered_may (slice_index_or b.lengths o.held.buffer None) b o.held empty' (o.at, o.there);
          alternative = number.0;
          listed = number.1;
          best = subst (λ (r : Rank). (other : Held) → IsCandidate b other → IsSome (number_for buffers other.buffer) → IsFalse (precedes_in (rank_of other.value) r)) (sym (o.rank ∙ holds.2)) (behind_best best is);
        };
        length = empty';
      }

-- for lists that are those of the buffers
module _ (b : SeenBuffers) (buffers : List Alternative) (lengths : List (Option ℕ)) (stored : List (List StoredValue)) (senders : List Held) (el : lengths ≡ b.lengths) (es : stored ≡ b.stored) (eo : senders ≡ b.senders)
    (order : (q : ℕ) → AreInOrder (values_in stored q)) (rising : AreRising senders) (once : AreOnce sender_of senders) where
  order_in : (q : ℕ) → AreInOrder (values_in b.stored q)
  order_in = subst (λ (l : List (List StoredValue)). (q : ℕ) → AreInOrder (values_in l q)) es order

  rising_in : AreRising b.senders
  rising_in = subst (λ (hs : List Held). AreRising hs) eo rising

  once_in : AreOnce sender_of b.senders
  once_in = subst (λ (hs : List Held). AreOnce sender_of hs) eo once

  abbrev FrontOf : List (Option ℕ) → List (List StoredValue) → List Held → Alternative → Option Rank
  FrontOf l s h a = front_rank l s h a.thing

  best_in : (best : Best) → IsBest (FrontOf lengths stored senders) buffers best → IsBest (FrontOf b.lengths b.stored b.senders) buffers best
  best_in best is =
      subst (λ (l : List (Option ℕ)). IsBest (FrontOf l b.stored b.senders) buffers best) el
      (subst (λ (s : List (List StoredValue)). IsBest (FrontOf lengths s b.senders) buffers best) es
      (subst (λ (h : List Held). IsBest (FrontOf lengths stored h) buffers best) eo is))

  none_in : NoneRanked (FrontOf lengths stored senders) buffers → NoneRanked (FrontOf b.lengths b.stored b.senders) buffers
  none_in none =
      subst (λ (l : List (Option ℕ)). NoneRanked (FrontOf l b.stored b.senders) buffers) el
      (subst (λ (s : List (List StoredValue)). NoneRanked (FrontOf lengths s b.senders) buffers) es
      (subst (λ (h : List Held). NoneRanked (FrontOf lengths stored h) buffers) eo none))

  at_best : (best : Best) (is : IsBest (FrontOf b.lengths b.stored b.senders) buffers best) (d : Alternative) (t : Bool) → is_unbuffered lengths (slice_index_or buffers best.place d).thing ≡ t → is_unbuffered b.lengths is.item.thing ≡ t
  at_best best is d t e = ap (λ (a : Alternative). is_unbuffered b.lengths a.thing) (sym (read_is buffers best.place d is.item is.at)) ∙ ap (λ (l : List (Option ℕ)). is_unbuffered l (slice_index_or buffers best.place d).thing) (sym el) ∙ e

  pub offered_for : (best : Best) (d : Alternative) → IsBest (FrontOf lengths stored senders) buffers best → is_unbuffered lengths (slice_index_or buffers best.place d).thing ≡ true → IsOfferAt b buffers best.place
  offered_for best d is e = let is' = best_in best is in offered_choice b buffers order_in rising_in once_in best is' (at_best best is' d true e)

  pub stored_for : (best : Best) (d : Alternative) → IsBest (FrontOf lengths stored senders) buffers best → is_unbuffered lengths (slice_index_or buffers best.place d).thing ≡ false → IsFrontAt b buffers best.place
  stored_for best d is e = let is' = best_in best is in stored_choice b buffers order_in rising_in once_in best is' (at_best best is' d false e)

  pub nothing_for : NoneRanked (FrontOf lengths stored senders) buffers → NoCandidate b buffers
  nothing_for none = nothing_there b buffers order_in rising_in once_in (none_in none)

-- nobody waits to send to a buffer that has a length
pub not_refilled : (length : Option ℕ) (v : Values) (buffer by : ℕ) → is_zero length ≡ false → AreRising v.senders → slice_get (senders_at buffer v.senders) 0 ≡ None → Refills length v v buffer by None
not_refilled None v buffer by apart rising none = (refl, refl)
not_refilled (Some zero) v buffer by apart rising none = cc
not_refilled (Some (suc n)) v buffer by apart rising none = (nobody_first v.senders buffer rising none, refl)

-- the one that waits first to send stores its value
pub refilled : (stored : List (List StoredValue)) (senders : List Held) (stored' : List (List StoredValue)) (senders' : List Held) (buffer : ℕ) (first : Waiter) (offer : Held) → AreOnce sender_of senders → AreRising senders → buffer < length stored → slice_get (senders_at buffer senders) 0 ≡ Some first
    → entry_of sender_of senders first.who ≡ Some offer → stored' ≡ with_placed stored buffer offer.value → senders' ≡ others sender_of senders first.who → IsRefilled (values stored senders) (values stored' senders') buffer first.who
refilled stored senders stored' senders' buffer first offer once rising there is found pushed removed =
    let g = goes_first senders buffer first offer once rising is found in
    record {
      offer = offer;
      waits = g.there;
      buffer_is = g.here;
      sender_is = g.who;
      best = λ other in_list by. g.best other in_list by;
      there = there;
      stored = pushed;
      senders = removed;
    }

pub refills_some : (length : Option ℕ) (n : ℕ) (old new : Values) (buffer by sender : ℕ) → length ≡ Some n → is_zero length ≡ false → IsRefilled old new buffer sender → Refills length old new buffer by (Some sender)
refills_some None n old new buffer by sender there apart h = cc
refills_some (Some zero) n old new buffer by sender there apart h = cc
refills_some (Some (suc m)) n old new buffer by sender there apart h = h

-- a value that is taken is one of what comes of a receive
pub got_any : (old new : SeenBuffers) (who process : ℕ) (buffers : List Alternative) (otherwise : Bool) (received : Received) → GotFrom old new buffers received → ReceivesFrom old new who process buffers otherwise received
got_any old new who process buffers otherwise (receipts.Got answer refill) h = h
got_any old new who process buffers otherwise receipts.Otherwise h = absurd h
got_any old new who process buffers otherwise receipts.Delayed h = absurd h

-- what a filter leaves out it leaves out of the rest as well
remove_by : {X : Type 0} (p : X → Bool) (y : X) (ys zs : List X) (t : Bool) → p y ≡ t → filter p zs ≡ filter p ys → filter p (y ∷ zs) ≡ (if t then y ∷ filter p ys else filter p ys)
remove_by {X = X} p y ys zs true is e = rw is (ap (λ (ws : List X). y ∷ ws) e)
remove_by p y ys zs false is e = rw is e

pub filter_remove : {X : Type 0} (p : X → Bool) (xs : List X) (i : ℕ) (x : X) → slice_get xs i ≡ Some x → p x ≡ false → filter p (remove xs i) ≡ filter p xs
filter_remove p [] i x at fails = cc
filter_remove p (y ∷ ys) zero x at fails = let none : p y ≡ false = ap p (same_Some y x at) ∙ fails in rw none refl
filter_remove p (y ∷ ys) (suc i) x at fails = remove_by p y ys (remove ys i) (p y) refl (filter_remove p ys i x at fails)

pub same_send : (send : ℕ) → not (send == send) ≡ false
same_send send = let same : (send == send) ≡ true = eq-eqb send send refl in rw same refl

-- of a buffer of length 0 the sender of the value that was taken is chosen
pub refills_zero : (length : Option ℕ) (stored : List (List StoredValue)) (senders : List Held) (stored' : List (List StoredValue)) (senders' : List Held) (buffer by : ℕ) (refill : Option ℕ) → is_zero length ≡ true → refill ≡ Some by → stored' ≡ stored → senders' ≡ others sender_of senders by
    → Refills length (values stored senders) (values stored' senders') buffer by refill
refills_zero None stored senders stored' senders' buffer by refill empty is es eo = cc
refills_zero (Some zero) stored senders stored' senders' buffer by refill empty is es eo = (is, ap (λ (xs : List (List StoredValue)). values xs senders') es ∙ ap (λ (xs : List Held). values stored xs) eo)
refills_zero (Some (suc n)) stored senders stored' senders' buffer by refill empty is es eo = absurd (not_zero n empty)

pub refills_like : (l l' : Option ℕ) (stored stored' : List (List StoredValue)) (senders senders' : List Held) (new : Values) (buffer buffer' by : ℕ) (refill : Option ℕ) → l ≡ l' → stored ≡ stored' → senders ≡ senders' → buffer ≡ buffer'
    → Refills l (values stored senders) new buffer by refill → Refills l' (values stored' senders') new buffer' by refill
refills_like l l' stored stored' senders senders' new buffer buffer' by refill el es eo eb h =
    subst (λ (x : Option ℕ). Refills x (values stored' senders') new buffer' by refill) el
    (subst (λ (b : ℕ). Refills l (values stored' senders') new b by refill) eb
    (subst (λ (xs : List Held). Refills l (values stored' xs) new buffer by refill) eo
    (subst (λ (xs : List (List StoredValue)). Refills l (values xs senders) new buffer by refill) es h)))

-- How those that wait at each place change, as one joins or leaves one listed place after another.
use Rattle.std.proofs.Common.{◌≡◌, ℕ, zero, suc, ◌+◌, ◌<◌, ◌≤◌, List, [], ◌∷◌, ◌++◌, length, map, take, get_or, Bool, true, false, refl, sym, ap, ◌∙◌, subst, inl, inr, arith, Some, None, Option, slice_get, slice_set, length-set, eq-eqb}
use Rattle.std.specs.Prelude.{if◌then◌else◌, ◌==◌, is_some}
use Rattle.std.proofs.lemmas.Bool.{cases_Bool, eqb-true}
use Rattle.std.proofs.lemmas.List.{take_more, length-map}
use Rattle.std.proofs.lemmas.Option.{same_Some, slice_get_within}
use Rattle.kernel_base.specs.declared.request.Alternative.{Alternative}
use Rattle.world_model.proofs.ChangedLists.{written_elsewhere, written_here}
use Rattle.world_model.specs.Lists.{number_for}
use Rattle.kernel_lists.specs.Once.{entry_of, others}
use Rattle.kernel_lists.proofs.Entries.{entry_gone, others_all}
use Rattle.wait_queues.specs.declared.waiters.Waiter.{Waiter}
use Rattle.wait_queues.specs.Waiting.{HaveRoom, IsNowhere, Joins, Leaves, SeenWaiters, joined, left, placed, those_of, waiter_of}
use Rattle.wait_queues.specs.Steps.{HasJoined, HasLeft, IsUnseen, JoinsAt, JoinsSeen, LeavesAt, LeavesSeen, MayJoin, room_of}
use Rattle.wait_queues.proofs.Placed.{some_at}

-- the number that the first alternatives give, or this one
abbrev pub or_in : Option ℕ → Alternative → ℕ → Option ℕ
or_in (Some number) a place = Some number
or_in None a place = if a.thing == place then Some a.number else None

number_by : (b a : Alternative) (things : List Alternative) (more : Option ℕ) (place : ℕ) (t : Bool) → more ≡ or_in (number_for things place) a place → (if t then Some b.number else more) ≡ or_in (if t then Some b.number else number_for things place) a place
number_by b a things more place true e = refl
number_by b a things more place false e = e

number_push : (things : List Alternative) (a : Alternative) (place : ℕ) → number_for (things ++ a ∷ []) place ≡ or_in (number_for things place) a place
number_push [] a place = refl
number_push (b ∷ things) a place = number_by b a things (number_for (things ++ a ∷ []) place) place (b.thing == place) (number_push things a place)

pub number_more : (things : List Alternative) (i : ℕ) (d : Alternative) (place : ℕ) → i < length things → number_for (take (i + 1) things) place ≡ or_in (number_for (take i things) place) (get_or things i d) place
number_more things i d place low = ap (λ (xs : List Alternative). number_for xs place) (take_more things i d low) ∙ number_push (take i things) (get_or things i d) place

-- an alternative for another place gives no number here
elsewhere_by : (n : Option ℕ) (a : Alternative) (place : ℕ) → (a.thing == place) ≡ false → or_in n a place ≡ n
elsewhere_by (Some n) a place apart = refl
elsewhere_by None a place apart = rw apart refl

here_by : (n : Option ℕ) (a : Alternative) → n ≡ None → or_in n a a.thing ≡ Some a.number
here_by n a none = let own : (a.thing == a.thing) ≡ true = eq-eqb a.thing a.thing refl in rw (none, own) refl

again_by : (n : Option ℕ) (a : Alternative) (place : ℕ) → is_some n ≡ true → or_in n a place ≡ n
again_by (Some n) a place some = refl
again_by None a place some = absurd (let f : ⊥ = cc in f)

-- one that was read before gives nothing new
seen_before : (things : List Alternative) (a : Alternative) (place : ℕ) → is_some (number_for things a.thing) ≡ true → or_in (number_for things place) a place ≡ number_for things place
seen_before things a place some = elim (cases_Bool (a.thing == place)) [
  | inl here ↦ (let own : a.thing ≡ place = eqb-true a.thing place here in
      again_by (number_for things place) a place (ap (λ p. is_some (number_for things p)) (sym own) ∙ some))
  | inr other ↦ elsewhere_by (number_for things place) a place other
]

apart_of : (k place : ℕ) → (place == k) ≡ false → k ≡ place → ⊥
apart_of k place other same = let t : (place == k) ≡ true = eq-eqb place k (sym same) in let f : ⊥ = cc in f

module _ (who priority : ℕ) (things : List Alternative) (i : ℕ) (d : Alternative) where
  abbrev pub now : Alternative
  now = get_or things i d

  -- a place that was listed before is passed over
  pub join_again : (old new : List SeenWaiters) → i < length things → is_some (number_for (take i things) now.thing) ≡ true → JoinsSeen who priority (take i things) old new → JoinsSeen who priority (take (i + 1) things) old new
  join_again old new low some h = record {
    each = h.each;
    at = λ k q at. subst (λ (n : Option ℕ). HasJoined who priority n q new k) (sym (number_more things i d k low ∙ seen_before (take i things) now k some)) (h.at k q at);
  }

  -- there is room at a place that is listed for the first time
  pub may_join : (old new : List SeenWaiters) → HaveRoom 1 old → IsUnseen old who → number_for (take i things) now.thing ≡ None → JoinsSeen who priority (take i things) old new → MayJoin now.thing who new
  may_join old new room nowhere none h q at =
      let within : now.thing < length new = slice_get_within new now.thing q at in
      let each : length new ≡ length old = h.each in
      let there = some_at old now.thing (omega (arith, within, each)) in
      let j = h.at now.thing there.0 there.1 in
      let same : j.seen ≡ q = same_Some j.seen q (sym j.at ∙ at) in
      let kept : j.seen.waiters ≡ there.0.waiters = j.waiters ∙ ap (λ (n : Option ℕ). joined who priority n there.0.waiters) none in
      let left = ap room_of none in
      let r = j.room in
      let one = room now.thing there.0 there.1 in
      let rooms = ap (λ (s : SeenWaiters). s.room) same in
      (omega (arith, left, r, one, rooms), ap (λ (s : SeenWaiters). entry_of waiter_of s.waiters who) (sym same) ∙ ap (λ (ws : List Waiter). entry_of waiter_of ws who) kept ∙ nowhere now.thing there.0 there.1)

  -- one joins the next place
  join_here : (mid new : List SeenWaiters) (q : SeenWaiters) → number_for (take i things) now.thing ≡ None → JoinsAt now.thing (record { who = who; number = now.number; priority = priority }) mid new → HasJoined who priority (number_for (take i things) now.thing) q mid now.thing → HasJoined who priority (or_in (number_for (take i things) now.thing) now now.thing) q new now.thing
  join_here mid new q none s j =
      let here = s.here j.seen j.at in
      let kept : j.seen.waiters ≡ q.waiters = j.waiters ∙ ap (λ (n : Option ℕ). joined who priority n q.waiters) none in
      let left = ap room_of none in
      let r = j.room in
      let more = here.room in
      subst (λ (n : Option ℕ). HasJoined who priority n q new now.thing) (sym (here_by (number_for (take i things) now.thing) now none)) (record {
        seen = here.seen;
        at = here.at;
        waiters = here.waiters ∙ ap (placed (record { who = who; number = now.number; priority = priority })) kept;
        room = omega (arith, left, r, more);
      })

  join_at_by : (mid new : List SeenWaiters) (k : ℕ) (q : SeenWaiters) → number_for (take i things) now.thing ≡ None → JoinsAt now.thing (record { who = who; number = now.number; priority = priority }) mid new → HasJoined who priority (number_for (take i things) k) q mid k → HasJoined who priority (or_in (number_for (take i things) k) now k) q new k
  join_at_by mid new k q none s j = elim (cases_Bool (now.thing == k)) [
    | inl here ↦ (let own : now.thing ≡ k = eqb-true now.thing k here in
        subst (λ (p : ℕ). HasJoined who priority (or_in (number_for (take i things) p) now p) q new p) own
        (join_here mid new q none s (subst (λ (p : ℕ). HasJoined who priority (number_for (take i things) p) q mid p) (sym own) j)))
    | inr other ↦ subst (λ (n : Option ℕ). HasJoined who priority n q new k) (sym (elsewhere_by (number_for (take i things) k) now k other)) (record {
      seen = j.seen;
      at = s.elsewhere k (apart_of k now.thing other) ∙ j.at;
      waiters = j.waiters;
      room = j.room;
    })
  ]

  pub join_next : (old mid new : List SeenWaiters) → i < length things → number_for (take i things) now.thing ≡ None → JoinsAt now.thing (record { who = who; number = now.number; priority = priority }) mid new → JoinsSeen who priority (take i things) old mid → JoinsSeen who priority (take (i + 1) things) old new
  join_next old mid new low none s h = record {
    each = s.each ∙ h.each;
    at = λ k q at. subst (λ (n : Option ℕ). HasJoined who priority n q new k) (sym (number_more things i d k low)) (join_at_by mid new k q none s (h.at k q at));
  }

  -- one leaves the next place
  left_here : (listed : Bool) (ws : List Waiter) → others waiter_of (left who listed ws) who ≡ others waiter_of ws who
  left_here true ws = others_all waiter_of (others waiter_of ws who) who (entry_gone waiter_of ws who)
  left_here false ws = refl

  some_here : (n : Option ℕ) (a : Alternative) → is_some (or_in n a a.thing) ≡ true
  some_here (Some n) a = refl
  some_here None a = let own : (a.thing == a.thing) ≡ true = eq-eqb a.thing a.thing refl in rw own refl

  leave_here : (mid new : List SeenWaiters) (q : SeenWaiters) → LeavesAt now.thing who mid new → HasLeft who (is_some (number_for (take i things) now.thing)) q mid now.thing → HasLeft who (is_some (or_in (number_for (take i things) now.thing) now now.thing)) q new now.thing
  leave_here mid new q s j =
      let here = s.here j.seen j.at in
      let r = j.room in
      let more = here.room in
      subst (λ (b : Bool). HasLeft who b q new now.thing) (sym (some_here (number_for (take i things) now.thing) now)) (record {
        seen = here.seen;
        at = here.at;
        waiters = here.waiters ∙ ap (λ (ws : List Waiter). others waiter_of ws who) j.waiters ∙ left_here (is_some (number_for (take i things) now.thing)) q.waiters;
        room = omega (arith, r, more);
      })

  leave_at_by : (mid new : List SeenWaiters) (k : ℕ) (q : SeenWaiters) → LeavesAt now.thing who mid new → HasLeft who (is_some (number_for (take i things) k)) q mid k → HasLeft who (is_some (or_in (number_for (take i things) k) now k)) q new k
  leave_at_by mid new k q s j = elim (cases_Bool (now.thing == k)) [
    | inl here ↦ (let own : now.thing ≡ k = eqb-true now.thing k here in
        subst (λ (p : ℕ). HasLeft who (is_some (or_in (number_for (take i things) p) now p)) q new p) own
        (leave_here mid new q s (subst (λ (p : ℕ). HasLeft who (is_some (number_for (take i things) p)) q mid p) (sym own) j)))
    | inr other ↦ subst (λ (n : Option ℕ). HasLeft who (is_some n) q new k) (sym (elsewhere_by (number_for (take i things) k) now k other)) (record {
      seen = j.seen;
      at = s.elsewhere k (apart_of k now.thing other) ∙ j.at;
      waiters = j.waiters;
      room = j.room;
    })
  ]

  pub leave_next : (old mid new : List SeenWaiters) → i < length things → LeavesAt now.thing who mid new → LeavesSeen who (take i things) old mid → LeavesSeen who (take (i + 1) things) old new
  leave_next old mid new low s h = record {
    each = s.each ∙ h.each;
    at = λ k q at. subst (λ (n : Option ℕ). HasLeft who (is_some n) q new k) (sym (number_more things i d k low)) (leave_at_by mid new k q s (h.at k q at));
  }

-- before the first place nothing has changed
pub join_none : (who priority : ℕ) (old : List SeenWaiters) → JoinsSeen who priority [] old old
join_none who priority old = record { each = refl; at = λ k q at. record { seen = q; at = at; waiters = refl; room = omega arith } }

pub leave_none : (who : ℕ) (old : List SeenWaiters) → LeavesSeen who [] old old
leave_none who old = record { each = refl; at = λ k q at. record { seen = q; at = at; waiters = refl; room = omega arith } }

-- those that wait, without the room
pub those_at : (queues : List SeenWaiters) (k : ℕ) (q : SeenWaiters) → slice_get queues k ≡ Some q → slice_get (map those_of queues) k ≡ Some q.waiters
those_at [] k q at = absurd (let f : ⊥ = cc in f)
those_at (x ∷ queues) zero q at = let e : x ≡ q = cc in ap (λ (s : SeenWaiters). Some s.waiters) e
those_at (x ∷ queues) (suc k) q at = those_at queues k q at

pub seen_at : (queues : List SeenWaiters) (k : ℕ) (ws : List Waiter) → slice_get (map those_of queues) k ≡ Some ws → (q : SeenWaiters) × (slice_get queues k ≡ Some q) × (q.waiters ≡ ws)
seen_at [] k ws at = absurd (let f : ⊥ = cc in f)
seen_at (x ∷ queues) zero ws at = (x, refl, same_Some x.waiters ws at)
seen_at (x ∷ queues) (suc k) ws at = seen_at queues k ws at

pub unseen : (queues : List SeenWaiters) (who : ℕ) → IsNowhere (map those_of queues) who → IsUnseen queues who
unseen queues who nowhere k q at = nowhere k q.waiters (those_at queues k q at)

pub joins_of : (who priority : ℕ) (things : List Alternative) (old new : List SeenWaiters) → JoinsSeen who priority things old new → Joins who priority things (map those_of old) (map those_of new)
joins_of who priority things old new h = record {
  each = length-map new those_of ∙ h.each ∙ sym (length-map old those_of);
  at = λ k ws at.
      let q = seen_at old k ws at in
      let j = h.at k q.0 q.1 in
      those_at new k j.seen j.at ∙ ap Some (j.waiters ∙ ap (joined who priority (number_for things k)) q.2);
}

pub leaves_of : (who : ℕ) (things : List Alternative) (old new : List SeenWaiters) → LeavesSeen who things old new → Leaves who things (map those_of old) (map those_of new)
leaves_of who things old new h = record {
  each = length-map new those_of ∙ h.each ∙ sym (length-map old those_of);
  at = λ k ws at.
      let q = seen_at old k ws at in
      let j = h.at k q.0 q.1 in
      those_at new k j.seen j.at ∙ ap Some (j.waiters ∙ ap (left who (is_some (number_for things k))) q.2);
}

room_below : (n : Option ℕ) → room_of n ≤ 1
room_below None = omega arith
room_below (Some n) = omega arith

pub room_joined : (who priority room : ℕ) (things : List Alternative) (old new : List SeenWaiters) → HaveRoom (room + 1) old → JoinsSeen who priority things old new → HaveRoom room new
room_joined who priority room things old new has h k q at =
    let within = slice_get_within new k q at in
    let each : length new ≡ length old = h.each in
    let there = some_at old k (omega (arith, within, each)) in
    let j = h.at k there.0 there.1 in
    let same = ap (λ (s : SeenWaiters). s.room) (same_Some j.seen q (sym j.at ∙ at)) in
    let r = j.room in
    let one = room_below (number_for things k) in
    let was = has k there.0 there.1 in
    omega (arith, same, r, one, was)

pub room_left : (who room : ℕ) (things : List Alternative) (old new : List SeenWaiters) → HaveRoom room old → LeavesSeen who things old new → HaveRoom room new
room_left who room things old new has h k q at =
    let within = slice_get_within new k q at in
    let each : length new ≡ length old = h.each in
    let there = some_at old k (omega (arith, within, each)) in
    let j = h.at k there.0 there.1 in
    let same = ap (λ (s : SeenWaiters). s.room) (same_Some j.seen q (sym j.at ∙ at)) in
    let r = j.room in
    let was = has k there.0 there.1 in
    omega (arith, same, r, was)

-- one step at a place that is there, and at one that isn't
same_queue : (queues : List SeenWaiters) (place : ℕ) (q old : SeenWaiters) → slice_get queues place ≡ Some old → slice_get queues place ≡ Some q → old ≡ q
same_queue queues place q old was at = same_Some old q (sym was ∙ at)

pub joins_here : (queues : List SeenWaiters) (place : ℕ) (w : Waiter) (old new : SeenWaiters) → slice_get queues place ≡ Some old → new.waiters ≡ placed w old.waiters → old.room ≤ new.room + 1 → JoinsAt place w queues (slice_set queues place new)
joins_here queues place w old new was is room = record {
  each = length-set queues place new;
  here = λ q at.
      let same = same_queue queues place q old was at in
      let rooms = ap (λ (s : SeenWaiters). s.room) same in
      record { seen = new; at = written_here queues place new old was; waiters = is ∙ ap (λ (s : SeenWaiters). placed w s.waiters) same; room = omega (arith, room, rooms) };
  elsewhere = λ k apart. written_elsewhere queues place k new apart;
}

none_past : (queues : List SeenWaiters) (place : ℕ) (q : SeenWaiters) → length queues ≤ place → slice_get queues place ≡ Some q → ⊥
none_past queues place q past at = let low = slice_get_within queues place q at in omega (arith, past, low)

pub joins_not : (queues : List SeenWaiters) (place : ℕ) (w : Waiter) → length queues ≤ place → JoinsAt place w queues queues
joins_not queues place w past = record { each = refl; here = λ q at. absurd (none_past queues place q past at); elsewhere = λ k apart. refl }

pub leaves_here : (queues : List SeenWaiters) (place who : ℕ) (old new : SeenWaiters) → slice_get queues place ≡ Some old → new.waiters ≡ others waiter_of old.waiters who → old.room ≤ new.room → LeavesAt place who queues (slice_set queues place new)
leaves_here queues place who old new was is room = record {
  each = length-set queues place new;
  here = λ q at.
      let same = same_queue queues place q old was at in
      let rooms = ap (λ (s : SeenWaiters). s.room) same in
      record { seen = new; at = written_here queues place new old was; waiters = is ∙ ap (λ (s : SeenWaiters). others waiter_of s.waiters who) same; room = omega (arith, room, rooms) };
  elsewhere = λ k apart. written_elsewhere queues place k new apart;
}

pub leaves_not : (queues : List SeenWaiters) (place who : ℕ) → length queues ≤ place → LeavesAt place who queues queues
leaves_not queues place who past = record { each = refl; here = λ q at. absurd (none_past queues place q past at); elsewhere = λ k apart. refl }

-- what a test tells
pub none_of : (n : Option ℕ) → is_some n ≡ false → n ≡ None
none_of None is = refl
none_of (Some n) is = absurd (let f : ⊥ = cc in f)

-- The pending signals in the order in which they were sent, once one is put into a queue or taken out.
use Rattle.std.proofs.Common.{◌≡◌, ◌⊎◌, ℕ, zero, suc, ◌+◌, ◌-◌, ◌<◌, ◌≤◌, List, [], ◌∷◌, ◌++◌, map, take, drop, Bool, true, false, refl, sym, ap, ◌∙◌, subst, inl, inr, arith, append_assoc, append-nil, eq-eqb, Option, Some, None, slice_get, slice_set}
use Rattle.std.specs.Prelude.{◌==◌, if◌then◌else◌, IsFalse}
use Rattle.std.specs.List.{filter, insert, remove}
use Rattle.std.proofs.lemmas.Bool.{cases_eq}
use Rattle.std.proofs.lemmas.Bool.Decides.{nat_tests}
use Rattle.std.proofs.lemmas.List.{take-append-drop}
use Rattle.std.proofs.lemmas.List.Elements.{filter-append}
use Rattle.std.proofs.lemmas.Option.{same_Some}
use Rattle.world_model.specs.declared.world.PendingSignal.{PendingSignal}
use Rattle.world_model.specs.World.{signals_but}
use Rattle.kernel_lists.specs.Once.{AreOnce, entry_of}
use Rattle.kernel_lists.proofs.Entries.{others_all}
use Rattle.kernel_lists.specs.Best.{precedes_in}
use Rattle.world_model.specs.declared.world.StoredValue.{StoredValue}
use Rattle.value_queues.specs.Queues.{AreInOrder, rank_of}
use Rattle.signal_queues.specs.Pending.{IsThere, is_sent, joined, send_of, sent_below, value_of}

abbrev Signals : Type 0
Signals = List PendingSignal

-- where one stands in a list of several
pub there_left : (xs ys : Signals) (x : PendingSignal) → IsThere xs x → IsThere (xs ++ ys) x
there_left [] ys x h = absurd (let f : ⊥ = let e = h.1 in cc in f)
there_left (z ∷ zs) ys x (zero, at) = (zero, at)
there_left (z ∷ zs) ys x (suc k, at) = let r = there_left zs ys x (k, at) in (suc r.0, r.1)

pub there_right : (xs ys : Signals) (x : PendingSignal) → IsThere ys x → IsThere (xs ++ ys) x
there_right [] ys x h = h
there_right (z ∷ zs) ys x h = let r = there_right zs ys x h in (suc r.0, r.1)

there_either : (xs ys : Signals) (x : PendingSignal) → IsThere (xs ++ ys) x → IsThere xs x ⊎ IsThere ys x
there_either [] ys x h = inr h
there_either (z ∷ zs) ys x (zero, at) = inl (zero, at)
there_either (z ∷ zs) ys x (suc k, at) = elim (there_either zs ys x (k, at)) [
  | inl left ↦ inl (suc left.0, left.1)
  | inr right ↦ inr right
]

filtered_by : (p : PendingSignal → Bool) (z : PendingSignal) (zs : Signals) (x : PendingSignal) (t : Bool) → IsThere zs x → IsThere (if t then z ∷ zs else zs) x
filtered_by p z zs x true h = (suc h.0, h.1)
filtered_by p z zs x false h = h

there_filtered : (p : PendingSignal → Bool) (xs : Signals) (x : PendingSignal) → p x ≡ true → IsThere xs x → IsThere (filter p xs) x
there_filtered p [] x passes h = h
there_filtered p (z ∷ zs) x passes (zero, at) = let is : p z ≡ true = ap p (same_Some z x at) ∙ passes in rw is (zero, at)
there_filtered p (z ∷ zs) x passes (suc k, at) = filtered_by p z (filter p zs) x (p z) (there_filtered p zs x passes (k, at))

unfiltered_by : (z : PendingSignal) (zs ys : Signals) (x : PendingSignal) (t : Bool) → (IsThere zs x → IsThere ys x) → IsThere (if t then z ∷ zs else zs) x → IsThere (z ∷ ys) x
unfiltered_by z zs ys x true before (zero, at) = (zero, at)
unfiltered_by z zs ys x true before (suc k, at) = let r = before (k, at) in (suc r.0, r.1)
unfiltered_by z zs ys x false before h = let r = before h in (suc r.0, r.1)

there_unfiltered : (p : PendingSignal → Bool) (xs : Signals) (x : PendingSignal) → IsThere (filter p xs) x → IsThere xs x
there_unfiltered p [] x h = h
there_unfiltered p (z ∷ zs) x h = unfiltered_by z (filter p zs) zs x (p z) (there_unfiltered p zs x) h

-- what is sent below a number
pub there_below : (n : ℕ) (xs : Signals) (x : PendingSignal) → x.value.send < n → IsThere xs x → IsThere (sent_below n xs) x
there_below zero xs x low h = absurd (let f : ⊥ = omega (arith, low) in f)
there_below (suc m) xs x low h = elim (cases_eq x.value.send m) [
  | inl same ↦ there_right (sent_below m xs) (filter (is_sent m) xs) x (there_filtered (is_sent m) xs x (eq-eqb x.value.send m same) h)
  | inr other ↦ there_left (sent_below m xs) (filter (is_sent m) xs) x (there_below m xs x (omega (arith, low, other)) h)
]

pub below_there : (n : ℕ) (xs : Signals) (x : PendingSignal) → IsThere (sent_below n xs) x → IsThere xs x
below_there zero xs x h = absurd (let f : ⊥ = let e = h.1 in cc in f)
below_there (suc m) xs x h = elim (there_either (sent_below m xs) (filter (is_sent m) xs) x h) [
  | inl left ↦ below_there m xs x left
  | inr right ↦ there_unfiltered (is_sent m) xs x right
]

-- two filters in either order
apart_by : (q : PendingSignal → Bool) (z : PendingSignal) (us vs : Signals) (s t : Bool) → q z ≡ t → filter q us ≡ vs → filter q (if s then z ∷ us else us) ≡ (if t then (if s then z ∷ vs else vs) else vs)
apart_by q z us vs true true is e = rw is (ap (λ (ws : Signals). z ∷ ws) e)
apart_by q z us vs true false is e = rw is e
apart_by q z us vs false true is e = e
apart_by q z us vs false false is e = e

turned_by : (p : PendingSignal → Bool) (z : PendingSignal) (vs ws : Signals) (s t : Bool) → p z ≡ s → filter p vs ≡ ws → (if t then (if s then z ∷ ws else ws) else ws) ≡ filter p (if t then z ∷ vs else vs)
turned_by p z vs ws true true is e = rw is (ap (λ (us : Signals). z ∷ us) (sym e))
turned_by p z vs ws false true is e = rw is (sym e)
turned_by p z vs ws s false is e = sym e

filters_turn : (p q : PendingSignal → Bool) (xs : Signals) → filter q (filter p xs) ≡ filter p (filter q xs)
filters_turn p q [] = refl
filters_turn p q (z ∷ zs) =
    apart_by q z (filter p zs) (filter q (filter p zs)) (p z) (q z) refl refl
    ∙ turned_by p z (filter q zs) (filter q (filter p zs)) (p z) (q z) refl (sym (filters_turn p q zs))

pub but_below : (p : PendingSignal → Bool) (n : ℕ) (xs : Signals) → filter p (sent_below n xs) ≡ sent_below n (filter p xs)
but_below p zero xs = refl
but_below p (suc m) xs =
    filter-append p (sent_below m xs) (filter (is_sent m) xs) ∙ ap (λ (ys : Signals). ys ++ filter p (filter (is_sent m) xs)) (but_below p m xs)
    ∙ ap (λ (ys : Signals). sent_below m (filter p xs) ++ ys) (filters_turn (is_sent m) p xs)

-- one more in a list
pub record Between (less more : Signals) (x : PendingSignal) : Type 0 where
  pub front : Signals
  pub back : Signals
  pub less_is : less ≡ front ++ back
  pub more_is : more ≡ front ++ x ∷ back

-- a queue among all
record Parts (queues : List Signals) (k : ℕ) (queue : Signals) : Type 0 where
  front : Signals
  back : Signals
  was : joined queues ≡ front ++ (queue ++ back)
  set : (new : Signals) → joined (slice_set queues k new) ≡ front ++ (new ++ back)

parts_at : (queues : List Signals) (k : ℕ) (queue : Signals) → slice_get queues k ≡ Some queue → Parts queues k queue
parts_at [] k queue at = absurd (let f : ⊥ = cc in f)
parts_at (q ∷ qs) zero queue at = record { front = []; back = joined qs; was = ap (λ (ys : Signals). ys ++ joined qs) (same_Some q queue at); set = λ new. refl }
parts_at (q ∷ qs) (suc k) queue at =
    let r = parts_at qs k queue at in
    record {
      front = q ++ r.front;
      back = r.back;
      was = ap (λ (ys : Signals). q ++ ys) r.was ∙ sym (append_assoc q r.front (queue ++ r.back));
      set = λ new. ap (λ (ys : Signals). q ++ ys) (r.set new) ∙ sym (append_assoc q r.front (new ++ r.back));
    }

moved : (front one two back : Signals) → front ++ ((one ++ two) ++ back) ≡ (front ++ one) ++ (two ++ back)
moved front one two back = ap (λ (ys : Signals). front ++ ys) (append_assoc one two back) ∙ sym (append_assoc front one (two ++ back))

pub inserted_at : (queues : List Signals) (k i : ℕ) (queue : Signals) (x : PendingSignal) → slice_get queues k ≡ Some queue → Between (joined queues) (joined (slice_set queues k (insert queue i x))) x
inserted_at queues k i queue x at =
    let r = parts_at queues k queue at in
    record {
      front = r.front ++ take i queue;
      back = drop i queue ++ r.back;
      less_is = r.was ∙ ap (λ (ys : Signals). r.front ++ (ys ++ r.back)) (sym (take-append-drop i queue)) ∙ moved r.front (take i queue) (drop i queue) r.back;
      more_is = r.set (insert queue i x) ∙ moved r.front (take i queue) (x ∷ drop i queue) r.back;
    }

pub split_at : (queue : Signals) (i : ℕ) (x : PendingSignal) → slice_get queue i ≡ Some x → queue ≡ take i queue ++ x ∷ drop (suc i) queue
split_at [] i x at = absurd (let f : ⊥ = cc in f)
split_at (q ∷ qs) zero x at = ap (λ (y : PendingSignal). y ∷ qs) (same_Some q x at)
split_at (q ∷ qs) (suc i) x at = ap (λ (ys : Signals). q ∷ ys) (split_at qs i x at)

pub removed_at : (queues : List Signals) (k i : ℕ) (queue : Signals) (x : PendingSignal) → slice_get queues k ≡ Some queue → slice_get queue i ≡ Some x → Between (joined (slice_set queues k (remove queue i))) (joined queues) x
removed_at queues k i queue x at there =
    let r = parts_at queues k queue at in
    record {
      front = r.front ++ take i queue;
      back = drop (suc i) queue ++ r.back;
      less_is = r.set (remove queue i) ∙ moved r.front (take i queue) (drop (suc i) queue) r.back;
      more_is = r.was ∙ ap (λ (ys : Signals). r.front ++ (ys ++ r.back)) (split_at queue i x there) ∙ moved r.front (take i queue) (x ∷ drop (suc i) queue) r.back;
    }

-- what stands in the longer list stands in the shorter, or is the one more
pub less_there : (less more : Signals) (x y : PendingSignal) → Between less more x → IsThere less y → IsThere more y
less_there less more x y b h = elim (there_either b.front b.back y (subst (λ (l : Signals). IsThere l y) b.less_is h)) [
  | inl left ↦ subst (λ (l : Signals). IsThere l y) (sym b.more_is) (there_left b.front (x ∷ b.back) y left)
  | inr right ↦ subst (λ (l : Signals). IsThere l y) (sym b.more_is) (there_right b.front (x ∷ b.back) y (suc right.0, right.1))
]

head_or_tail : (x y : PendingSignal) (zs : Signals) → IsThere (x ∷ zs) y → (x ≡ y) ⊎ IsThere zs y
head_or_tail x y zs (zero, at) = inl (same_Some x y at)
head_or_tail x y zs (suc k, at) = inr (k, at)

pub more_there : (less more : Signals) (x y : PendingSignal) → Between less more x → IsThere more y → (x ≡ y) ⊎ IsThere less y
more_there less more x y b h = elim (there_either b.front (x ∷ b.back) y (subst (λ (l : Signals). IsThere l y) b.more_is h)) [
  | inl left ↦ inr (subst (λ (l : Signals). IsThere l y) (sym b.less_is) (there_left b.front b.back y left))
  | inr right ↦ elim (head_or_tail x y b.back right) [
    | inl same ↦ inl same
    | inr tail ↦ inr (subst (λ (l : Signals). IsThere l y) (sym b.less_is) (there_right b.front b.back y tail))
  ]
]

-- the numbers below the one more are as before
skip_by : (p : PendingSignal → Bool) (front back : Signals) (x : PendingSignal) → p x ≡ false → filter p (front ++ x ∷ back) ≡ filter p (front ++ back)
skip_by p [] back x fails = rw fails refl
skip_by p (z ∷ zs) back x fails = ap (λ (ys : Signals). if p z then z ∷ ys else ys) (skip_by p zs back x fails)

pub skipped : (p : PendingSignal → Bool) (less more : Signals) (x : PendingSignal) → Between less more x → p x ≡ false → filter p more ≡ filter p less
skipped p less more x b fails = ap (filter p) b.more_is ∙ skip_by p b.front b.back x fails ∙ ap (filter p) (sym b.less_is)

not_sent : (a b : ℕ) → b < a → (a == b) ≡ false
not_sent a b low = grind (arith, nat_tests)

below_same : (n : ℕ) (less more : Signals) (x : PendingSignal) → Between less more x → n ≤ x.value.send → sent_below n more ≡ sent_below n less
below_same zero less more x b low = refl
below_same (suc m) less more x b low =
    ap (λ (ys : Signals). ys ++ filter (is_sent m) more) (below_same m less more x b (omega (arith, low)))
    ∙ ap (λ (ys : Signals). sent_below m less ++ ys) (skipped (is_sent m) less more x b (not_sent x.value.send m (omega (arith, low))))

-- those that were sent up to a number
abbrev pub Drawn : ℕ → Signals → Type 0
Drawn last xs = (x : PendingSignal) → IsThere xs x → x.value.send ≤ last

none_by : (p : PendingSignal → Bool) (z : PendingSignal) (zs : Signals) → p z ≡ false → filter p zs ≡ [] → filter p (z ∷ zs) ≡ []
none_by p z zs fails e = rw fails e

none_sent : (n last : ℕ) (xs : Signals) → last < n → Drawn last xs → filter (is_sent n) xs ≡ []
none_sent n last [] low drawn = refl
none_sent n last (z ∷ zs) low drawn =
    none_by (is_sent n) z zs (let e = drawn z (0, refl) in let f : (z.value.send == n) ≡ false = unlike z.value.send n (omega (arith, low, e)) in f) (none_sent n last zs low (λ x h. drawn x (suc h.0, h.1)))
  where
    unlike : (a b : ℕ) → a < b → (a == b) ≡ false
    unlike a b less = grind (arith, nat_tests)

reached : (d last : ℕ) (xs : Signals) → Drawn last xs → sent_below (d + suc last) xs ≡ sent_below (suc last) xs
reached zero last xs drawn = ap (λ (n : ℕ). sent_below n xs) (let e : zero + suc last ≡ suc last = omega arith in e)
reached (suc d) last xs drawn =
    ap (λ (n : ℕ). sent_below n xs) (let e : suc d + suc last ≡ suc (d + suc last) = omega arith in e)
    ∙ ap (λ (ys : Signals). sent_below (d + suc last) xs ++ ys) (none_sent (d + suc last) last xs (omega arith) drawn)
    ∙ append-nil (sent_below (d + suc last) xs) ∙ reached d last xs drawn

-- one is sent behind all others
one_sent : (front back : Signals) (x : PendingSignal) (last : ℕ) → last < x.value.send → Drawn last (front ++ back) → filter (is_sent x.value.send) (front ++ x ∷ back) ≡ x ∷ []
one_sent front back x last low drawn =
    let n = x.value.send in
    filter-append (is_sent x.value.send) front (x ∷ back)
    ∙ ap (λ (ys : Signals). ys ++ filter (is_sent x.value.send) (x ∷ back)) (none_sent n last front low (λ y h. drawn y (there_left front back y h)))
    ∙ (rw (eq-eqb x.value.send x.value.send refl) (ap (λ (ys : Signals). x ∷ ys) (none_sent n last back low (λ y h. drawn y (there_right front back y h)))))

pub sent_last : (less more : Signals) (x : PendingSignal) (last : ℕ) → Between less more x → last < x.value.send → Drawn last less → sent_below (suc x.value.send) more ≡ sent_below (suc last) less ++ x ∷ []
sent_last less more x last b low drawn =
    let n = x.value.send in
    let d = x.value.send - suc last in
    let far : x.value.send ≡ x.value.send - suc last + suc last = omega (arith, low) in
    ap (λ (ys : Signals). ys ++ filter (is_sent x.value.send) more) (below_same n less more x b (omega arith) ∙ ap (λ (m : ℕ). sent_below m less) far ∙ reached d last less drawn)
    ∙ ap (λ (ys : Signals). sent_below (suc last) less ++ ys) (ap (filter (is_sent x.value.send)) b.more_is ∙ one_sent b.front b.back x last low (subst (Drawn last) b.less_is drawn))

-- no two have one number
once_in : (front back : Signals) (x : PendingSignal) (n : ℕ) → entry_of send_of (front ++ back) n ≡ None → (x.value.send == n) ≡ false → entry_of send_of (front ++ x ∷ back) n ≡ None
once_in [] back x n none other = rw other none
once_in (z ∷ zs) back x n none other = once_by (z.value.send == n) z (entry_of send_of (zs ++ back) n) (entry_of send_of (zs ++ x ∷ back) n) none (λ e. once_in zs back x n e other)
  where
    once_by : (t : Bool) (z : PendingSignal) (less more : Option PendingSignal) → (if t then Some z else less) ≡ None → (less ≡ None → more ≡ None) → (if t then Some z else more) ≡ None
    once_by true z less more e f = cc
    once_by false z less more e f = f e

pub nobody : (n last : ℕ) (xs : Signals) → last < n → Drawn last xs → entry_of send_of xs n ≡ None
nobody n last [] low drawn = refl
nobody n last (z ∷ zs) low drawn =
    let e = drawn z (0, refl) in
    let fails : (z.value.send == n) ≡ false = unlike z.value.send n (omega (arith, low, e)) in
    rw fails (nobody n last zs low (λ x h. drawn x (suc h.0, h.1)))
  where
    unlike : (a b : ℕ) → a < b → (a == b) ≡ false
    unlike a b less = grind (arith, nat_tests)

once_put : (front back : Signals) (x : PendingSignal) (last : ℕ) → last < x.value.send → Drawn last (front ++ back) → AreOnce send_of (front ++ back) → AreOnce send_of (front ++ x ∷ back)
once_put [] back x last low drawn once = (nobody x.value.send last back low drawn, once)
once_put (z ∷ zs) back x last low drawn once =
    let e = drawn z (0, refl) in
    (once_in zs back x z.value.send once.0 (not_sent x.value.send z.value.send (omega (arith, low, e))), once_put zs back x last low (λ y h. drawn y (suc h.0, h.1)) once.1)

pub once_more : (less more : Signals) (x : PendingSignal) (last : ℕ) → Between less more x → last < x.value.send → Drawn last less → AreOnce send_of less → AreOnce send_of more
once_more less more x last b low drawn once = subst (AreOnce send_of) (sym b.more_is) (once_put b.front b.back x last low (subst (Drawn last) b.less_is drawn) (subst (AreOnce send_of) b.less_is once))

found_by : (t : Bool) (z : PendingSignal) (rest : Option PendingSignal) → (if t then Some z else rest) ≡ None → (t ≡ false) × (rest ≡ None)
found_by true z rest e = cc
found_by false z rest e = (refl, e)

-- one that is there is found
found : (front back : Signals) (x : PendingSignal) (n : ℕ) → entry_of send_of (front ++ x ∷ back) n ≡ None → (x.value.send == n) ≡ false
found [] back x n none = (found_by (x.value.send == n) x (entry_of send_of back n) none).0
found (z ∷ zs) back x n none = found zs back x n (found_by (z.value.send == n) z (entry_of send_of (zs ++ x ∷ back) n) none).1

turned_apart : (a b : ℕ) → (a == b) ≡ false → (b == a) ≡ false
turned_apart a b e = grind (arith, nat_tests)

-- all but the one
but_one : (front back : Signals) (x : PendingSignal) → AreOnce send_of (front ++ x ∷ back) → signals_but x.value.send (front ++ x ∷ back) ≡ front ++ back
but_one [] back x once = rw (eq-eqb x.value.send x.value.send refl) (others_all send_of back x.value.send once.0)
but_one (z ∷ zs) back x once =
    let fails : (z.value.send == x.value.send) ≡ false = turned_apart x.value.send z.value.send (found zs back x z.value.send once.0) in
    rw fails (ap (λ (ys : Signals). z ∷ ys) (but_one zs back x once.1))

pub but_more : (less more : Signals) (x : PendingSignal) → Between less more x → AreOnce send_of more → signals_but x.value.send more ≡ less
but_more less more x b once = ap (signals_but x.value.send) b.more_is ∙ but_one b.front b.back x (subst (AreOnce send_of) b.more_is once) ∙ sym b.less_is

-- all that are in queues
pub joined_there : (queues : List Signals) (k : ℕ) (queue : Signals) (x : PendingSignal) → slice_get queues k ≡ Some queue → IsThere queue x → IsThere (joined queues) x
joined_there [] k queue x at h = absurd (let f : ⊥ = cc in f)
joined_there (q ∷ qs) zero queue x at h = there_left q (joined qs) x (subst (λ (l : Signals). IsThere l x) (sym (same_Some q queue at)) h)
joined_there (q ∷ qs) (suc k) queue x at h = there_right q (joined qs) x (joined_there qs k queue x at h)

-- where one stands of all that are in queues
pub record StandsIn (queues : List Signals) (x : PendingSignal) : Type 0 where
  pub signal : ℕ
  pub queue : Signals
  pub at : slice_get queues signal ≡ Some queue
  pub there : IsThere queue x

pub there_joined : (queues : List Signals) (x : PendingSignal) → IsThere (joined queues) x → StandsIn queues x
there_joined [] x h = absurd (let f : ⊥ = let e = h.1 in cc in f)
there_joined (q ∷ qs) x h = elim (there_either q (joined qs) x h) [
  | inl left ↦ record { signal = 0; queue = q; at = refl; there = left }
  | inr right ↦ (let r = there_joined qs x right in record { signal = suc r.signal; queue = r.queue; at = r.at; there = r.there })
]

-- values in order stay in order once one is taken out
value_there : (xs : Signals) (k : ℕ) (v : StoredValue) → slice_get (map value_of xs) k ≡ Some v → (x : PendingSignal) × (slice_get xs k ≡ Some x) × (x.value ≡ v)
value_there [] k v at = absurd (let f : ⊥ = cc in f)
value_there (x ∷ xs) zero v at = (x, refl, same_Some x.value v at)
value_there (x ∷ xs) (suc k) v at = value_there xs k v at

there_value : (xs : Signals) (x : PendingSignal) → (h : IsThere xs x) → slice_get (map value_of xs) h.0 ≡ Some x.value
there_value [] x h = absurd (let f : ⊥ = let e = h.1 in cc in f)
there_value (z ∷ zs) x (zero, at) = ap (λ (y : PendingSignal). Some y.value) (same_Some z x at)
there_value (z ∷ zs) x (suc k, at) = there_value zs x (k, at)

kept_there : (xs : Signals) (i : ℕ) (x : PendingSignal) → IsThere (remove xs i) x → IsThere xs x
kept_there [] zero x h = h
kept_there [] (suc i) x h = h
kept_there (z ∷ zs) zero x h = (suc h.0, h.1)
kept_there (z ∷ zs) (suc i) x (zero, at) = (zero, at)
kept_there (z ∷ zs) (suc i) x (suc k, at) = let r = kept_there zs i x (k, at) in (suc r.0, r.1)

pub order_removed : (xs : Signals) (i : ℕ) → AreInOrder (map value_of xs) → AreInOrder (map value_of (remove xs i))
order_removed [] zero order = tt
order_removed [] (suc i) order = tt
order_removed (z ∷ zs) zero order = order.1
order_removed (z ∷ zs) (suc i) order = (
  λ k v at. let t = value_there (remove zs i) k v at in let s = kept_there zs i t.0 (k, t.1) in subst (λ (w : StoredValue). IsFalse (precedes_in (rank_of w) (rank_of z.value))) t.2 (order.0 s.0 t.0.value (there_value zs t.0 s)),
  order_removed zs i order.1,
)

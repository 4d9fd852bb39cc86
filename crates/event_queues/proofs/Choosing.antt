-- Whom CONTINUE chooses, by those that wait on the event and what is listed of each.
use Rattle.std.proofs.Common.{◌≡◌, ℕ, ◌≤◌, List, [], ◌∷◌, refl, sym, ap, ◌∙◌, subst, arith, Some, None, Option, replicate, slice_get, eq-eqb}
use Rattle.std.specs.Prelude.{◌==◌, true, IfNone, IsSome, if◌then◌else◌}
use Rattle.std.specs.Option.{option_and_then, option_map}
use Rattle.std.proofs.lemmas.Option.{same_Some}
use Rattle.kernel_base.specs.declared.request.Alternative.{Alternative}
use Rattle.world_model.specs.Lists.{number_for}
use Rattle.kernel_lists.specs.Once.{entry_of}
use Rattle.kernel_lists.proofs.Entries.{found_at}
use Rattle.wait_queues.specs.declared.waiters.Waiter.{Waiter}
use Rattle.wait_queues.specs.Waiting.{AreOrdered, AreTied, Leaves, waiter_of}
use Rattle.wait_queues.proofs.Fits.{empty_at}
use Rattle.wait_queues.proofs.Placed.{first_highest}
use Rattle.wait_queues.proofs.Ties.{out_of_all, waiter}
use Rattle.event_queues.specs.declared.sets.Delayed.{Delayed}
use Rattle.event_queues.specs.Delayed.{NobodyOn, Sets, Wakes, delayed_on, listed_in}

-- one of whom something is told is listed
told_some : {X Y : Type 0} (f : X → Option Y) (o : Option X) (y : Y) → option_and_then f o ≡ Some y → (x : X) × (o ≡ Some x) × (f x ≡ Some y)
told_some f None y told = absurd (let e : ⊥ = cc in e)
told_some f (Some x) y told = (x, refl, told)

-- what is told of one that waits under a number
pub record IsTold (n : Option ℕ) (priority : ℕ) (w : Waiter) : Type 0 where
  pub number : n ≡ Some w.number
  pub same : w.priority ≡ priority

told_number : (who priority : ℕ) (n : Option ℕ) (w : Waiter) → option_map (waiter who priority) n ≡ Some w → IsTold n priority w
told_number who priority None w told = absurd (let e : ⊥ = cc in e)
told_number who priority (Some n) w told =
    let e : record { who = who; number = n; priority = priority } ≡ w = cc in
    record { number = ap (λ (x : Waiter). Some x.number) e; same = sym (ap (λ (x : Waiter). x.priority) e) }

own_entry : (first : Waiter) (rest : List Waiter) → entry_of waiter_of (first ∷ rest) first.who ≡ Some first
own_entry first rest = let own : (first.who == first.who) ≡ true = eq-eqb first.who first.who refl in rw own refl

-- what is listed of the first
pub record IsListed (delayed : List (ℕ × Delayed)) (event : ℕ) (first : Waiter) : Type 0 where
  pub item : Delayed
  pub at : listed_in delayed first.who ≡ Some item
  pub told : IsTold (number_for item.events event) item.priority first

pub first_listed : (delayed : List (ℕ × Delayed)) (waiting : List (List Waiter)) (event : ℕ) (first : Waiter) (rest : List Waiter) → AreTied delayed_on delayed waiting → slice_get waiting event ≡ Some (first ∷ rest) → IsListed delayed event first
first_listed delayed waiting event first rest tied at =
    let x = told_some (delayed_on event first.who) (listed_in delayed first.who) first (sym (tied event (first ∷ rest) at first.who) ∙ own_entry first rest) in
    record { item = x.0; at = x.1; told = told_number first.who x.0.priority (number_for x.0.events event) first x.2 }

-- nobody that is delayed on the event has a higher priority than the first
below_first : (delayed : List (ℕ × Delayed)) (waiting : List (List Waiter)) (event : ℕ) (first : Waiter) (rest : List Waiter) (other : ℕ) (d : Delayed) (n : Option ℕ) → AreTied delayed_on delayed waiting → AreOrdered waiting → slice_get waiting event ≡ Some (first ∷ rest) → listed_in delayed other ≡ Some d
    → number_for d.events event ≡ n → IsSome n → d.priority ≤ first.priority
below_first delayed waiting event first rest other d None tied order at is number some = absurd (let f : ⊥ = cc in f)
below_first delayed waiting event first rest other d (Some n) tied order at is number some =
    let entry : entry_of waiter_of (first ∷ rest) other ≡ Some (waiter other d.priority n) = tied event (first ∷ rest) at other ∙ ap (option_and_then (delayed_on event other)) is ∙ ap (option_map (waiter other d.priority)) number in
    let there = (found_at (λ (w : Waiter). w.who == other) (first ∷ rest) (waiter other d.priority n) entry).0 in
    first_highest first rest there.0 (waiter other d.priority n) (order event (first ∷ rest) at).0 there.1

pub wakes : (old new : Sets) (event : ℕ) (first : Waiter) (rest : List Waiter) (item : Delayed) → AreTied delayed_on old.delayed old.waiting → AreOrdered old.waiting → slice_get old.waiting event ≡ Some (first ∷ rest) → listed_in old.delayed first.who ≡ Some item
    → ((q : ℕ) → listed_in new.delayed q ≡ (if first.who == q then None else listed_in old.delayed q)) → Leaves first.who item.events old.waiting new.waiting → Wakes event old new (record { thing = first.who; number = first.number })
wakes old new event first rest item tied order at is gone leaves =
    let l = first_listed old.delayed old.waiting event first rest tied at in
    let same : l.item ≡ item = same_Some l.item item (sym l.at ∙ is) in
    let told : IsTold (number_for item.events event) item.priority first = subst (λ (d : Delayed). IsTold (number_for d.events event) d.priority first) same l.told in
    record {
      first = first;
      rest = rest;
      stood = at;
      who = refl;
      number_is = refl;
      item = item;
      was = is;
      number = told.number;
      highest = λ other d there some. (let low = below_first old.delayed old.waiting event first rest other d (number_for d.events event) tied order at there refl some in let p = told.same in omega (arith, low, p));
      goes = record { listed = gone; each = leaves.each; waiting = out_of_all delayed_on old.delayed old.waiting new.waiting first.who item.priority item.events item tied is (λ place. refl) leaves };
    }

-- nobody stands first: nobody is delayed there
pub none_first : (ws : List Waiter) → slice_get ws 0 ≡ None → ws ≡ []
none_first [] none = refl
none_first (w ∷ ws) none = absurd (let e : ⊥ = cc in e)

pub some_first : (ws : List Waiter) (first : Waiter) → slice_get ws 0 ≡ Some first → (rest : List Waiter) × (ws ≡ first ∷ rest)
some_first [] first some = absurd (let e : ⊥ = cc in e)
some_first (w ∷ ws) first some = (ws, ap (λ (x : Waiter). x ∷ ws) (same_Some w first some))

unnumbered : (who priority : ℕ) (n : Option ℕ) → option_map (waiter who priority) n ≡ None → n ≡ None
unnumbered who priority None none = refl
unnumbered who priority (Some n) none = absurd (let e : ⊥ = cc in e)

pub nobody : (delayed : List (ℕ × Delayed)) (waiting : List (List Waiter)) (event : ℕ) → AreTied delayed_on delayed waiting → slice_get waiting event ≡ Some [] → NobodyOn event delayed
nobody delayed waiting event tied at who d is = unnumbered who d.priority (number_for d.events event) (sym (tied event [] at who ∙ ap (option_and_then (delayed_on event who)) is))

pub empty_tied : (n : ℕ) → AreTied delayed_on [] (replicate n [])
empty_tied n place ws at who = ap (λ (l : List Waiter). entry_of waiter_of l who) (empty_at n place ws at)

pub if_none : (o : Option Alternative) (P : Type 0) → P → IfNone o P
if_none None P p = p
if_none (Some x) P p = tt

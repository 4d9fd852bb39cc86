-- What is kept of instances and regions, and the world, change together.
use Rattle.std.proofs.Common.{◌≡◌, ◌≢◌, ◌⊎◌, ℕ, zero, suc, ◌<◌, true, false, not, List, [], ◌∷◌, ◌++◌, length, map, length-set, refl, sym, ap, ◌∙◌, inl, inr, arith, Option, Some, None, slice_get, slice_set, subst, eq-eqb}
use Rattle.std.specs.Prelude.{if◌then◌else◌, ◌==◌, slice_index_or}
use Rattle.std.specs.List.{filter}
use Rattle.std.proofs.lemmas.Bool.{cases_Bool, eqb-true}
use Rattle.kernel_base.specs.declared.request.Request.{Request}
use Rattle.kernel_base.specs.declared.answer.Answer.{Answer}
use Rattle.kernel_base.specs.declared.ends.How.TheVariants.{Normal}
use Rattle.world_model.specs.declared.world.Phase.{Phase}
use Rattle.world_model.specs.declared.world.Phase.TheVariants.{Waiting, Chosen, Ended}
use Rattle.world_model.specs.declared.world.World.{World}
use Rattle.world_model.specs.Lists.{without}
use Rattle.world_model.specs.Waiting.{phase_of}
use Rattle.world_model.specs.World as worlds
use Rattle.world_model.specs.World.{with_phase, locked, freed}
use Rattle.world_model.proofs.ChangedLists.{written_elsewhere, read_elsewhere}
use Rattle.region_kernel.specs.declared.regions.Lock.{Lock}
use Rattle.region_kernel.specs.Regions.{held_by, is_lock, locks_but, queue_of}
use Rattle.kernel_steps.specs.declared.seats.Seats.{Seats}
use Rattle.kernel_steps.specs.Seated.{AreQueuedBy, kind_of, twice, Placed}
use Rattle.kernel_steps.proofs.Queueing.{queues_same}

-- what stands at q after a write at i
pub set_cases : {X : Type 0} (xs : List X) (i q : ℕ) (new y : X) → slice_get (slice_set xs i new) q ≡ Some y → ((q ≡ i) × (y ≡ new)) ⊎ ((q ≢ i) × (slice_get xs q ≡ Some y))
set_cases [] i q new y at = absurd (let f : ⊥ = cc in f)
set_cases (x ∷ xs) zero zero new y at = inl (refl, let e : y ≡ new = cc in e)
set_cases (x ∷ xs) zero (suc q) new y at = inr ((λ e. let f : ⊥ = cc in f), at)
set_cases (x ∷ xs) (suc i) zero new y at = inr ((λ e. let f : ⊥ = cc in f), at)
set_cases (x ∷ xs) (suc i) (suc q) new y at = elim (set_cases xs i q new y at) [
  | inl here ↦ inl (ap suc here.0, here.1)
  | inr there ↦ inr ((λ e. there.0 (let d : q ≡ i = cc in d)), there.1)
]

pub map_set : {X Y : Type 0} (f : X → Y) (xs : List X) (i : ℕ) (new : X) → map f (slice_set xs i new) ≡ slice_set (map f xs) i (f new)
map_set f [] i new = refl
map_set f (x ∷ xs) zero new = refl
map_set f (x ∷ xs) (suc i) new = ap (λ l. f x ∷ l) (map_set f xs i new)

pub set_set : {X : Type 0} (xs : List X) (i : ℕ) (a b : X) → slice_set (slice_set xs i a) i b ≡ slice_set xs i b
set_set [] i a b = refl
set_set (x ∷ xs) zero a b = refl
set_set (x ∷ xs) (suc i) a b = ap (λ l. x ∷ l) (set_set xs i a b)

pub within : {X : Type 0} (xs : List X) (i : ℕ) (x : X) → slice_get xs i ≡ Some x → i < length xs
within [] i x at = absurd (let f : ⊥ = cc in f)
within (y ∷ xs) zero x at = omega arith
within (y ∷ xs) (suc i) x at = omega (arith, within xs i x at)

-- a list that is read where it was written
pub read_written : {X : Type 0} (xs : List X) (i : ℕ) (new d : X) → i < length xs → slice_index_or (slice_set xs i new) i d ≡ new
read_written [] i new d low = absurd (omega arith)
read_written (x ∷ xs) zero new d low = refl
read_written (x ∷ xs) (suc i) new d low = read_written xs i new d (omega arith)

-- the same where there may be nothing to write to
pub read_changed : {X : Type 0} (f : X → X) (xs : List X) (i : ℕ) (d : X) → f d ≡ d → slice_index_or (slice_set xs i (f (slice_index_or xs i d))) i d ≡ f (slice_index_or xs i d)
read_changed f [] i d none = sym none
read_changed f (x ∷ xs) zero d none = refl
read_changed f (x ∷ xs) (suc i) d none = read_changed f xs i d none

-- the world's lists are others that are the same
pub placed_same : (w w' : World) (s : Seats) → w'.processes ≡ w.processes → w'.phases ≡ w.phases → w'.occupants ≡ w.occupants → w'.held ≡ w.held → Placed w s → Placed w' s
placed_same w w' s p ph o h k = record {
  processes = k.processes ∙ sym p;
  phases = k.phases ∙ sym (ap (map kind_of) ph);
  occupants = k.occupants ∙ sym o;
  held = λ who. k.held who ∙ sym (ap (λ (hs : List (List ℕ)). slice_index_or hs who []) h);
  queues = subst (λ (phases : List Phase). AreQueuedBy s.regions.queues phases) (sym ph) k.queues;
  backs = λ who request send back at. k.backs who request send back (ap (λ (l : List Phase). slice_get l who) (sym ph) ∙ at);
  there = λ who request send region at. rw o (k.there who request send region (ap (λ (l : List Phase). slice_get l who) (sym ph) ∙ at));
  answers = λ who answer back at. k.answers who answer back (ap (λ (l : List Phase). slice_get l who) (sym ph) ∙ at);
  zeroth = ap (λ (l : List Phase). slice_get l 0) ph ∙ k.zeroth;
  held_each = ap length h ∙ k.held_each ∙ sym (ap length ph);
  back_each = k.back_each ∙ sym (ap length ph);
  answer_each = k.answer_each ∙ sym (ap length ph);
  fetch_each = k.fetch_each ∙ sym (ap length ph);
}

-- one that isn't instance 0
pub some_instance : (w : World) (s : Seats) (who : ℕ) (phase : Phase) → Placed w s → phase_of w who ≡ Some phase → (phase ≡ Ended Normal → ⊥) → 0 < who
some_instance w s zero phase k at live = absurd (live (let e : phase ≡ Ended Normal = let z = k.zeroth in cc in e))
some_instance w s (suc n) phase k at live = omega arith

-- what a change of the phase of `who` is kept as
pub record Rewrites (w : World) (s s' : Seats) (who : ℕ) (new : Phase) : Type 0 where
  pub processes : s'.instances.processes ≡ s.instances.processes
  pub phases : s'.instances.phases ≡ slice_set s.instances.phases who (kind_of new)
  pub occupants : s'.regions.occupants ≡ s.regions.occupants
  pub locks : s'.regions.locks ≡ s.regions.locks
  pub queues : AreQueuedBy s'.regions.queues (slice_set w.phases who new)
  pub backs : (q : ℕ) → q ≢ who → slice_get s'.backs.items q ≡ slice_get s.backs.items q
  pub back : (request : Request) (send back : Option ℕ) → new ≡ Waiting request send back → slice_get s'.backs.items who ≡ Some back
  pub there : (request : Request) (send : Option ℕ) (region : ℕ) → new ≡ Waiting request send (Some region) → region < length w.occupants
  pub answers : (q : ℕ) → q ≢ who → slice_get s'.chosen.items q ≡ slice_get s.chosen.items q
  pub answer : (a : Answer) (back : Option ℕ) → new ≡ Chosen a back → slice_get s'.chosen.items who ≡ Some (Some (twice a))
  pub back_each : length s'.backs.items ≡ length s.backs.items
  pub answer_each : length s'.chosen.items ≡ length s.chosen.items
  pub fetch_each : length s'.unfetched.items ≡ length s.unfetched.items

pub placed_phase : (w : World) (s s' : Seats) (who : ℕ) (new : Phase) → 0 < who → Rewrites w s s' who new → Placed w s → Placed (with_phase w who new) s'
placed_phase w s s' who new some r k = record {
  processes = r.processes ∙ k.processes;
  phases = r.phases ∙ ap (λ l. slice_set l who (kind_of new)) k.phases ∙ sym (map_set kind_of w.phases who new);
  occupants = r.occupants ∙ k.occupants;
  held = λ q. ap (λ l. held_by l q) r.locks ∙ k.held q;
  queues = r.queues;
  backs = λ q request send back at. elim (set_cases w.phases who q new (Waiting request send back) at) [
    | inl here ↦ ap (slice_get s'.backs.items) here.0 ∙ r.back request send back (sym here.1)
    | inr there ↦ r.backs q there.0 ∙ k.backs q request send back there.1
  ];
  there = λ q request send region at. elim (set_cases w.phases who q new (Waiting request send (Some region)) at) [
    | inl here ↦ r.there request send region (sym here.1)
    | inr there ↦ k.there q request send region there.1
  ];
  answers = λ q a back at. elim (set_cases w.phases who q new (Chosen a back) at) [
    | inl here ↦ ap (slice_get s'.chosen.items) here.0 ∙ r.answer a back (sym here.1)
    | inr there ↦ r.answers q there.0 ∙ k.answers q a back there.1
  ];
  zeroth = written_elsewhere w.phases who 0 new (λ e. let f : ⊥ = omega (arith, e, some) in f) ∙ k.zeroth;
  held_each = k.held_each ∙ sym (length-set w.phases who new);
  back_each = r.back_each ∙ k.back_each ∙ sym (length-set w.phases who new);
  answer_each = r.answer_each ∙ k.answer_each ∙ sym (length-set w.phases who new);
  fetch_each = r.fetch_each ∙ k.fetch_each ∙ sym (length-set w.phases who new);
}

-- the lists by instance stay
pub record Stays (s s' : Seats) : Type 0 where
  pub processes : s'.instances.processes ≡ s.instances.processes
  pub phases : s'.instances.phases ≡ s.instances.phases
  pub backs : s'.backs.items ≡ s.backs.items
  pub chosen : s'.chosen.items ≡ s.chosen.items
  pub fetch_each : length s'.unfetched.items ≡ length s.unfetched.items

-- what each holds once one more region is locked
held_locked : (locks : List Lock) (region who q : ℕ) → held_by (locks ++ record { region = region; who = who } ∷ []) q ≡ (if who == q then held_by locks q ++ region ∷ [] else held_by locks q)
held_locked [] region who q = elim (cases_Bool (who == q)) [
  | inl same ↦ rw same refl
  | inr apart ↦ rw apart refl
]
held_locked (lock ∷ locks) region who q = elim (cases_Bool (lock.who == q)) [
  | inl mine ↦ rw mine (ap (λ l. lock.region ∷ l) (held_locked locks region who q) ∙ elim (cases_Bool (who == q)) [ inl same ↦ rw same refl | inr apart ↦ rw apart refl ])
  | inr other ↦ rw other (held_locked locks region who q)
]

pub placed_locked : (w : World) (s s' : Seats) (who region : ℕ) → who < length w.held → Stays s s' → s'.regions.occupants ≡ slice_set s.regions.occupants region (Some who) → s'.regions.locks ≡ s.regions.locks ++ record { region = region; who = who } ∷ [] → s'.regions.queues ≡ s.regions.queues → Placed w s → Placed (locked w who region) s'
placed_locked w s s' who region made t o l q k = record {
  processes = t.processes ∙ k.processes;
  phases = t.phases ∙ k.phases;
  occupants = o ∙ ap (λ os. slice_set os region (Some who)) k.occupants;
  held = λ p. ap (λ ls. held_by ls p) l ∙ held_locked s.regions.locks region who p ∙ elim (cases_Bool (who == p)) [
    | inl same ↦ (let e : who ≡ p = eqb-true who p same in
        rw same (ap (λ hs. hs ++ region ∷ []) (k.held p)
        ∙ sym (subst (λ (n : ℕ). slice_index_or (slice_set w.held who (worlds.held_by w who ++ region ∷ [])) n [] ≡ worlds.held_by w n ++ region ∷ []) e (read_written w.held who (worlds.held_by w who ++ region ∷ []) [] made))))
    | inr apart ↦ rw apart (k.held p ∙ sym (read_elsewhere w.held who p (worlds.held_by w who ++ region ∷ []) [] (λ e. let f : (who == p) ≡ true = eq-eqb who p (sym e) in let g : ⊥ = cc in g)))
  ];
  queues = subst (λ (qs : List (List ℕ)). AreQueuedBy qs w.phases) (sym q) k.queues;
  backs = λ p request send back at. ap (λ l. slice_get l p) t.backs ∙ k.backs p request send back at;
  there = λ p request send r at. rw length-set (k.there p request send r at);
  answers = λ p a back at. ap (λ l. slice_get l p) t.chosen ∙ k.answers p a back at;
  zeroth = k.zeroth;
  held_each = length-set w.held who (worlds.held_by w who ++ region ∷ []) ∙ k.held_each;
  back_each = ap length t.backs ∙ k.back_each;
  answer_each = ap length t.chosen ∙ k.answer_each;
  fetch_each = t.fetch_each ∙ k.fetch_each;
}

held_but_cons : (locks : List Lock) (lock : Lock) (region who q : ℕ) → held_by (filter (λ l. not (is_lock region who l)) locks) q ≡ (if who == q then without region (held_by locks q) else held_by locks q)
    → ((lock.region == region) ≡ true) ⊎ ((lock.region == region) ≡ false) → ((lock.who == who) ≡ true) ⊎ ((lock.who == who) ≡ false) → ((who == q) ≡ true) ⊎ ((who == q) ≡ false) → ((lock.who == q) ≡ true) ⊎ ((lock.who == q) ≡ false)
    → held_by (filter (λ l. not (is_lock region who l)) (lock ∷ locks)) q ≡ (if who == q then without region (held_by (lock ∷ locks) q) else held_by (lock ∷ locks) q)
held_but_cons locks lock region who q rest (inl here) (inl mine) (inl same) (inl own) = rw (here, mine, own) (rw same at rest ∙ sym (rw same (rw here refl)))
held_but_cons locks lock region who q rest (inl here) (inl mine) (inr apart) (inr other) = rw (here, mine, other) rest
held_but_cons locks lock region who q rest (inl here) (inr his) (inl same) (inr other) = rw (here, his, other) rest
held_but_cons locks lock region who q rest (inl here) (inr his) (inr apart) (inl own) = rw (here, his, own, apart) (ap (λ l. lock.region ∷ l) (rw apart at rest))
held_but_cons locks lock region who q rest (inl here) (inr his) (inr apart) (inr other) = rw (here, his, other) rest
held_but_cons locks lock region who q rest (inr there) m (inl same) (inl own) = rw (there, own, same) (ap (λ l. lock.region ∷ l) (rw same at rest) ∙ sym (rw there refl))
held_but_cons locks lock region who q rest (inr there) m (inr apart) (inl own) = rw (there, own, apart) (ap (λ l. lock.region ∷ l) (rw apart at rest))
held_but_cons locks lock region who q rest (inr there) m s (inr other) = rw (there, other) rest
held_but_cons locks lock region who q rest (inl here) (inl mine) (inl same) (inr other) = absurd (let a = eqb-true lock.who who mine in let b = eqb-true who q same in let t : (lock.who == q) ≡ true = eq-eqb lock.who q (a ∙ b) in let f : ⊥ = cc in f)
held_but_cons locks lock region who q rest (inl here) (inl mine) (inr apart) (inl own) = absurd (let a = eqb-true lock.who who mine in let b = eqb-true lock.who q own in let t : (who == q) ≡ true = eq-eqb who q (sym a ∙ b) in let f : ⊥ = cc in f)
held_but_cons locks lock region who q rest (inl here) (inr his) (inl same) (inl own) = absurd (let a = eqb-true who q same in let b = eqb-true lock.who q own in let t : (lock.who == who) ≡ true = eq-eqb lock.who who (b ∙ sym a) in let f : ⊥ = cc in f)

-- what each holds once a region isn't locked by its occupant any more
held_but : (locks : List Lock) (region who q : ℕ) → held_by (filter (λ lock. not (is_lock region who lock)) locks) q ≡ (if who == q then without region (held_by locks q) else held_by locks q)
held_but [] region who q = elim (cases_Bool (who == q)) [ inl same ↦ rw same refl | inr apart ↦ rw apart refl ]
held_but (lock ∷ locks) region who q = held_but_cons locks lock region who q (held_but locks region who q) (cases_Bool (lock.region == region)) (cases_Bool (lock.who == who)) (cases_Bool (who == q)) (cases_Bool (lock.who == q))

pub placed_freed : (w : World) (s s' : Seats) (who region : ℕ) → Stays s s' → s'.regions.occupants ≡ slice_set s.regions.occupants region None → s'.regions.locks ≡ locks_but s.regions.locks region (Some who) → ((r : ℕ) → queue_of s'.regions.queues r ≡ queue_of s.regions.queues r) → Placed w s → Placed (freed w who region) s'
placed_freed w s s' who region t o l q k = record {
  processes = t.processes ∙ k.processes;
  phases = t.phases ∙ k.phases;
  occupants = o ∙ ap (λ os. slice_set os region None) k.occupants;
  held = λ p. ap (λ ls. held_by ls p) l ∙ held_but s.regions.locks region who p ∙ elim (cases_Bool (who == p)) [
    | inl same ↦ (let e : who ≡ p = eqb-true who p same in
        rw same (ap (without region) (k.held p)
        ∙ sym (subst (λ (n : ℕ). slice_index_or (slice_set w.held who (without region (worlds.held_by w who))) n [] ≡ without region (worlds.held_by w n)) e (read_changed (without region) w.held who [] refl))))
    | inr apart ↦ rw apart (k.held p ∙ sym (read_elsewhere w.held who p (without region (worlds.held_by w who)) [] (λ e. let f : (who == p) ≡ true = eq-eqb who p (sym e) in let g : ⊥ = cc in g)))
  ];
  queues = queues_same s.regions.queues s'.regions.queues w.phases q k.queues;
  backs = λ p request send back at. ap (λ l. slice_get l p) t.backs ∙ k.backs p request send back at;
  there = λ p request send r at. rw length-set (k.there p request send r at);
  answers = λ p a back at. ap (λ l. slice_get l p) t.chosen ∙ k.answers p a back at;
  zeroth = k.zeroth;
  held_each = length-set w.held who (without region (worlds.held_by w who)) ∙ k.held_each;
  back_each = ap length t.backs ∙ k.back_each;
  answer_each = ap length t.chosen ∙ k.answer_each;
  fetch_each = t.fetch_each ∙ k.fetch_each;
}

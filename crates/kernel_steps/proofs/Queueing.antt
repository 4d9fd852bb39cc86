-- Who waits to lock each region, as phases change.
use Rattle.std.proofs.Common.{◌≡◌, ℕ, zero, suc, List, [], ◌∷◌, ◌++◌, length, replicate, true, false, refl, sym, ap, inl, inr, Some, None, slice_get, slice_set, subst, eq-eqb}
use Rattle.std.specs.Prelude.{◌==◌}
use Rattle.std.specs.Option.{option_and_then}
use Rattle.std.proofs.lemmas.Bool.{cases_Bool, eqb-true}
use Rattle.kernel_base.specs.declared.answer.Answer.{Answer}
use Rattle.world_model.specs.declared.world.Phase.{Phase}
use Rattle.kernel_base.specs.declared.ends.How.TheVariants.{Normal}
use Rattle.world_model.specs.declared.world.Phase.TheVariants.{Active, Chosen, Ended}
use Rattle.kernel_lists.specs.Once.{entry_of}
use Rattle.region_kernel.specs.Regions.{Changes, itself, queue_but, queue_of}
use Rattle.kernel_steps.specs.Keyed.{Mirrors}
use Rattle.kernel_steps.specs.Seated.{AreQueuedBy, queued_in, suspended_in, waits_for}
use Rattle.kernel_steps.proofs.Keyed.{mirror_begin, mirror_more, mirror_stay, mirror_stop}

-- a phase that tells nothing came in place of one that told nothing
pub queues_stay : (queues : List (List ℕ)) (phases : List Phase) (who : ℕ) (old new : Phase) → slice_get phases who ≡ Some old → suspended_in who old ≡ None → suspended_in who new ≡ None → AreQueuedBy queues phases → AreQueuedBy queues (slice_set phases who new)
queues_stay queues phases who old new at was is h region = mirror_stay itself (queued_in region) (queue_of queues region) phases who old new at (ap (waits_for region) was) (ap (waits_for region) is) (h region)

-- one that has this region to lock waits for no other
for_other : (region r who : ℕ) (answer : Answer) → (region == r) ≡ false → queued_in r who (Chosen answer (Some region)) ≡ None
for_other region r who answer apart = rw apart refl

for_this : (region who : ℕ) (answer : Answer) → queued_in region who (Chosen answer (Some region)) ≡ Some who
for_this region who answer = let own : (region == region) ≡ true = eq-eqb region region refl in rw own refl

not_same : (region r : ℕ) → (region == r) ≡ false → r ≡ region → ⊥
not_same region r apart same = let t : (region == r) ≡ true = eq-eqb region r (sym same) in let f : ⊥ = cc in f

-- one comes to wait, behind all others
pub queues_begin : (queues queues' : List (List ℕ)) (phases : List Phase) (who region : ℕ) (old : Phase) (answer : Answer) → Changes region (queue_of queues region ++ who ∷ []) queues queues' → slice_get phases who ≡ Some old → suspended_in who old ≡ None → AreQueuedBy queues phases
    → AreQueuedBy queues' (slice_set phases who (Chosen answer (Some region)))
queues_begin queues queues' phases who region old answer c at was h r = elim (cases_Bool (region == r)) [
  | inl here ↦ (let own : region ≡ r = eqb-true region r here in
      subst (λ (n : ℕ). Mirrors itself (queued_in n) (queue_of queues' n) (slice_set phases who (Chosen answer (Some region)))) own
      (subst (λ (xs : List ℕ). Mirrors itself (queued_in region) xs (slice_set phases who (Chosen answer (Some region)))) (sym c.here)
      (mirror_begin itself (queued_in region) (queue_of queues region) phases who old (Chosen answer (Some region)) who at (ap (waits_for region) was) (for_this region who answer) refl (h region))))
  | inr apart ↦ subst (λ (xs : List ℕ). Mirrors itself (queued_in r) xs (slice_set phases who (Chosen answer (Some region)))) (sym (c.elsewhere r (not_same region r apart)))
      (mirror_stay itself (queued_in r) (queue_of queues r) phases who old (Chosen answer (Some region)) at (ap (waits_for r) was) (for_other region r who answer apart) (h r))
]

-- one that waited locks its region
pub queues_stop : (queues queues' : List (List ℕ)) (phases : List Phase) (who region : ℕ) (answer : Answer) → Changes region (queue_but (queue_of queues region) (Some who)) queues queues' → slice_get phases who ≡ Some (Chosen answer (Some region)) → AreQueuedBy queues phases
    → AreQueuedBy queues' (slice_set phases who Active)
queues_stop queues queues' phases who region answer c at h r = elim (cases_Bool (region == r)) [
  | inl here ↦ (let own : region ≡ r = eqb-true region r here in
      subst (λ (n : ℕ). Mirrors itself (queued_in n) (queue_of queues' n) (slice_set phases who Active)) own
      (subst (λ (xs : List ℕ). Mirrors itself (queued_in region) xs (slice_set phases who Active)) (sym c.here)
      (mirror_stop itself (queued_in region) (queue_of queues region) phases who (Chosen answer (Some region)) Active at refl (h region))))
  | inr apart ↦ subst (λ (xs : List ℕ). Mirrors itself (queued_in r) xs (slice_set phases who Active)) (sym (c.elsewhere r (not_same region r apart)))
      (mirror_stay itself (queued_in r) (queue_of queues r) phases who (Chosen answer (Some region)) Active at (for_other region r who answer apart) refl (h r))
]

-- one more phase, which tells nothing
pub queues_more : (queues : List (List ℕ)) (phases : List Phase) (new : Phase) → suspended_in (length phases) new ≡ None → AreQueuedBy queues phases → AreQueuedBy queues (phases ++ new ∷ [])
queues_more queues phases new is h region = mirror_more itself (queued_in region) (queue_of queues region) phases new (ap (waits_for region) is) (h region)

-- a region that nobody waits for is freed
pub none_taken : (queues queues' : List (List ℕ)) (region : ℕ) → Changes region (queue_of queues region) queues queues' → (r : ℕ) → queue_of queues' r ≡ queue_of queues r
none_taken queues queues' region c r = elim (cases_Bool (region == r)) [
  | inl here ↦ (let own : region ≡ r = eqb-true region r here in subst (λ (n : ℕ). queue_of queues' n ≡ queue_of queues n) own c.here)
  | inr apart ↦ c.elsewhere r (not_same region r apart)
]

pub queues_same : (queues queues' : List (List ℕ)) (phases : List Phase) → ((r : ℕ) → queue_of queues' r ≡ queue_of queues r) → AreQueuedBy queues phases → AreQueuedBy queues' phases
queues_same queues queues' phases same h r = subst (λ (xs : List ℕ). Mirrors itself (queued_in r) xs phases) (sym (same r)) (h r)

-- before the first event nobody waits
empty_queue : (n region : ℕ) → queue_of (replicate n []) region ≡ []
empty_queue zero region = refl
empty_queue (suc n) zero = refl
empty_queue (suc n) (suc region) = empty_queue n region

nobody_queued : (region who : ℕ) → entry_of itself [] who ≡ option_and_then (queued_in region who) (slice_get (Ended Normal ∷ Active ∷ []) who)
nobody_queued region zero = refl
nobody_queued region (suc zero) = refl
nobody_queued region (suc (suc who)) = refl

pub queues_open : (n : ℕ) → AreQueuedBy (replicate n []) (Ended Normal ∷ Active ∷ [])
queues_open n region = subst (λ (xs : List ℕ). Mirrors itself (queued_in region) xs (Ended Normal ∷ Active ∷ [])) (sym (empty_queue n region)) (record { each = nobody_queued region; once = λ k x at. absurd (let f : ⊥ = cc in f) })

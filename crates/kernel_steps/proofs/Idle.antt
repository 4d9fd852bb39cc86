-- Who may go on, once regions were locked and freed and phases changed.
use Rattle.std.proofs.Common.{◌≡◌, ℕ, List, [], ◌∷◌, refl, sym, ap, ◌∙◌, inl, inr, Option, Some, None, slice_get, slice_set, eq-eqb}
use Rattle.std.specs.Prelude.{Bool, true, false, ◌==◌, if◌then◌else◌}
use Rattle.std.specs.Option.{option_and_then}
use Rattle.std.proofs.lemmas.Bool.{cases_eq, eqb-true}
use Rattle.kernel_base.specs.declared.answer.Answer.{Answer}
use Rattle.world_model.specs.declared.world.Phase.{Phase}
use Rattle.world_model.specs.declared.world.Phase.TheVariants.{Active, Waiting, Chosen, Ended}
use Rattle.world_model.specs.declared.world.World.{World}
use Rattle.world_model.specs.Waiting.{phase_of}
use Rattle.world_model.specs.World.{locked, freed}
use Rattle.world_model.specs.Allowed.{IsFree, MayLockBack}
use Rattle.world_model.proofs.ChangedLists.{written_elsewhere}
use Rattle.region_kernel.specs.Regions.{first_waiting, itself, queue_of}
use Rattle.kernel_lists.specs.Once.{entry_of}
use Rattle.kernel_steps.specs.declared.seats.Seats.{Seats}
use Rattle.kernel_steps.specs.Seated.{queued_in, Placed, IsIdle}
use Rattle.kernel_steps.proofs.Placed.{set_cases}

-- who may go on, with its region if it has one
may_lock : (w w' : World) (back : Option ℕ) → ((region : ℕ) → IsFree w region → IsFree w' region) → MayLockBack w back → MayLockBack w' back
may_lock w w' None all may = tt
may_lock w w' (Some region) all may = all region may

-- regions that are free now were free before, and whoever is chosen now was chosen before
pub idle_fewer : (w w' : World) → ((region : ℕ) → IsFree w' region → IsFree w region) → ((who : ℕ) (answer : Answer) (back : Option ℕ) → phase_of w' who ≡ Some (Chosen answer back) → phase_of w who ≡ Some (Chosen answer back)) → IsIdle w → IsIdle w'
idle_fewer w w' free chosen idle who answer may = idle who answer (record { back = may.back; chosen = chosen who answer may.back may.chosen; free = may_lock w' w may.back free may.free })

-- a phase that isn't chosen came in place of another
pub chosen_before : (phases : List Phase) (p : ℕ) (new : Phase) (who : ℕ) (answer : Answer) (back : Option ℕ) → (new ≡ Chosen answer back → ⊥) → slice_get (slice_set phases p new) who ≡ Some (Chosen answer back) → slice_get phases who ≡ Some (Chosen answer back)
chosen_before phases p new who answer back other at = elim (set_cases phases p who new (Chosen answer back) at) [
  | inl here ↦ absurd (other (sym here.1))
  | inr there ↦ there.1
]

-- a region that is free once it was locked is another one
pub free_apart : (w : World) (who region r : ℕ) → IsFree (locked w who region) r → IsFree w r
free_apart w who region r free = elim (set_cases w.occupants region r (Some who) None free) [
  | inl here ↦ absurd (let e : Some who ≡ None = sym here.1 in let f : ⊥ = cc in f)
  | inr there ↦ there.1
]

pub idle_locked : (w : World) (who region : ℕ) → IsIdle w → IsIdle (locked w who region)
idle_locked w who region idle = idle_fewer w (locked w who region) (free_apart w who region) (λ q a b at. at) idle

-- a region that is freed and locked again leaves nothing more free
pub free_swapped : (w : World) (who p region r : ℕ) → slice_get (slice_set (slice_set w.occupants region None) region (Some p)) r ≡ Some None → IsFree w r
free_swapped w who p region r free = elim (set_cases (slice_set w.occupants region None) region r (Some p) None free) [
  | inl here ↦ absurd (let e : Some p ≡ None = sym here.1 in let f : ⊥ = cc in f)
  | inr there ↦ elim (set_cases w.occupants region r None None there.1) [
    | inl same ↦ absurd (there.0 same.0)
    | inr old ↦ old.1
  ]
]

-- one that is queued was chosen, and has this region to lock again
pub record IsQueued (w : World) (region who : ℕ) : Type 0 where
  pub answer : Answer
  pub chosen : phase_of w who ≡ Some (Chosen answer (Some region))

this_region : (r region who : ℕ) (t : Bool) → (r == region) ≡ t → (if t then Some who else None) ≡ Some who → r ≡ region
this_region r region who true is told = eqb-true r region is
this_region r region who false is told = absurd (let f : ⊥ = cc in f)

told_region : (w : World) (region who : ℕ) (phase : Option Phase) → phase_of w who ≡ phase → option_and_then (queued_in region who) phase ≡ Some who → IsQueued w region who
told_region w region who None is told = absurd (let f : ⊥ = cc in f)
told_region w region who (Some Active) is told = absurd (let f : ⊥ = cc in f)
told_region w region who (Some (Waiting request send back)) is told = absurd (let f : ⊥ = cc in f)
told_region w region who (Some (Chosen answer None)) is told = absurd (let f : ⊥ = cc in f)
told_region w region who (Some (Chosen answer (Some r))) is told = record { answer = answer; chosen = is ∙ ap (λ (n : ℕ). Some (Chosen answer (Some n))) (this_region r region who (r == region) refl told) }
told_region w region who (Some (Ended how)) is told = absurd (let f : ⊥ = cc in f)

pub queued_is : (w : World) (s : Seats) (region who : ℕ) → first_waiting s.regions.queues region ≡ Some who → Placed w s → IsQueued w region who
queued_is w s region who first k = told_region w region who (phase_of w who) refl (sym ((k.queues region).each who) ∙ (k.queues region).once 0 who first)

-- where there is no first nobody waits
none_in : (queue : List ℕ) (q : ℕ) → slice_get queue 0 ≡ None → entry_of itself queue q ≡ None
none_in [] q none = refl
none_in (p ∷ queue) q none = absurd (let f : ⊥ = cc in f)

none_told : (region q : ℕ) (answer : Answer) → queued_in region q (Chosen answer (Some region)) ≡ None → ⊥
none_told region q answer none = let own : (region == region) ≡ true = eq-eqb region region refl in let h : Some q ≡ None = rw own at none in let f : ⊥ = cc in f

still_idle : (w : World) (s : Seats) (who region q : ℕ) (answer : Answer) (back : Option ℕ) → phase_of w q ≡ Some (Chosen answer back) → MayLockBack (freed w who region) back → first_waiting s.regions.queues region ≡ None → Placed w s → IsIdle w → ⊥
still_idle w s who region q answer None chosen free none k idle = idle q answer (record { back = None; chosen = chosen; free = tt })
still_idle w s who region q answer (Some r) chosen free none k idle = elim (cases_eq r region) [
  | inl same ↦ (let at : phase_of w q ≡ Some (Chosen answer (Some region)) = chosen ∙ ap (λ (n : ℕ). Some (Chosen answer (Some n))) same in
      none_told region q answer (sym ((k.queues region).each q ∙ ap (option_and_then (queued_in region q)) at) ∙ none_in (queue_of s.regions.queues region) q none))
  | inr apart ↦ idle q answer (record { back = Some r; chosen = chosen; free = sym (written_elsewhere w.occupants region r None apart) ∙ free })
]

-- nobody who waits for the region that becomes free: still nobody may go on
pub idle_freed : (w : World) (s : Seats) (who region : ℕ) → first_waiting s.regions.queues region ≡ None → Placed w s → IsIdle w → IsIdle (freed w who region)
idle_freed w s who region none k idle q answer may = still_idle w s who region q answer may.back may.chosen may.free none k idle

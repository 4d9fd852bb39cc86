-- A wait frees the region that was locked last, and the process locks it again before anything else.
use Rattle.std.proofs.Common.{◌≡◌, ℕ, zero, suc, List, [], ◌∷◌, ◌++◌, refl, sym, ap, ◌∙◌, subst, inl, inr, Option, Some, None, slice_get, slice_set}
use Rattle.std.specs.Prelude.{slice_index_or}
use Rattle.kernel_base.specs.declared.facts.Facts.{Facts}
use Rattle.kernel_base.specs.declared.request.Request.{Request}
use Rattle.kernel_base.specs.declared.request.Request.TheVariants.{Enter}
use Rattle.kernel_base.specs.declared.answer.Answer.{Answer}
use Rattle.kernel_base.specs.declared.event.Event.{Event}
use Rattle.kernel_base.specs.declared.event.Event.TheVariants.{Waits, Goes}
use Rattle.world_model.specs.declared.world.Phase.{Phase}
use Rattle.world_model.specs.declared.world.Phase.TheVariants.{Active, Waiting, Chosen}
use Rattle.world_model.specs.declared.world.World.{World}
use Rattle.world_model.specs.Lists.{last_of, without}
use Rattle.world_model.specs.Waiting.{phase_of, IsActive}
use Rattle.world_model.specs.World.{held_by, with_phase, locked_back, freed_last, drawn, with_drawn, after_waits, back_in, after, after_all, opening}
use Rattle.world_model.specs.Allowed.{IsPossible, IsRunFrom, MayGo, MayLockBack, IsFree, Occupies}
use Rattle.world_model.specs.Laws.{IsEnter, IsDoneBy, Locks, Frees, SomeLocksAgain, FreedRegionLaw}
use Rattle.world_model.proofs.RunParts.{front_runs, rest_runs}
use Rattle.world_model.proofs.ChangedLists.{written_here, last_is_in}
use Rattle.world_model.proofs.HeldIsOccupied.{HoldsOccupied, journal_holds}
use Rattle.world_model.proofs.Freeing.{BackIs, HasBack, step_kept, freeing_kept}

-- a list that isn't the default stands there, so a write is read back
read_back : {X : Type 0} (xs : List X) (i : ℕ) (new d : X) → (slice_index_or xs i d ≡ d → ⊥) → slice_index_or (slice_set xs i new) i d ≡ new
read_back [] i new d apart = absurd (apart refl)
read_back (x ∷ xs) zero new d apart = refl
read_back (x ∷ xs) (suc i) new d apart = read_back xs i new d apart

waits_is : (w : World) (who : ℕ) (request : Request) → (IsEnter request → ⊥) → after_waits w who request ≡ with_phase (freed_last (with_drawn w (drawn w request)) who (last_of (held_by w who))) who (Waiting request (drawn w request) (last_of (held_by w who)))
waits_is w who (Enter region) other = absurd (other tt)
waits_is w who request other = refl

freed_occupants : (w : World) (who : ℕ) (draws : Option ℕ) (region : ℕ) → (freed_last (with_drawn w draws) who (Some region)).occupants ≡ slice_set w.occupants region None
freed_occupants w who None region = refl
freed_occupants w who (Some send) region = refl

freed_held : (w : World) (who : ℕ) (draws : Option ℕ) (region : ℕ) → (freed_last (with_drawn w draws) who (Some region)).held ≡ slice_set w.held who (without region (held_by w who))
freed_held w who None region = refl
freed_held w who (Some send) region = refl

-- the world behind the wait, where `who` locked this region last
waits_at : (w : World) (who : ℕ) (request : Request) (region : ℕ) → (IsEnter request → ⊥) → last_of (held_by w who) ≡ Some region → after_waits w who request ≡ with_phase (freed_last (with_drawn w (drawn w request)) who (Some region)) who (Waiting request (drawn w request) (Some region))
waits_at w who request region other last =
    waits_is w who request other
    ∙ ap (λ (back : Option ℕ). with_phase (freed_last (with_drawn w (drawn w request)) who back) who (Waiting request (drawn w request) back)) last

goes_locks : (facts : Facts) (w : World) (who : ℕ) (answer : Answer) (region : ℕ) → MayGo w who answer → HasBack w.phases who region → Locks facts w (Goes who answer) who region
goes_locks facts w who answer region may has =
    let phase : has.phase ≡ Chosen answer may.back = let both : Some has.phase ≡ Some (Chosen answer may.back) = sym has.at ∙ may.chosen in cc in
    let back : may.back ≡ Some region = subst (λ (p : Phase). BackIs region p) phase has.back in
    let free : IsFree w region = subst (λ (o : Option ℕ). MayLockBack w o) back may.free in
    let in_phase : back_in (phase_of w who) ≡ Some region = ap back_in may.chosen ∙ back in
    record {
      not_before = λ occupies. let f : ⊥ = cc in f;
      behind = ap (λ (o : Option ℕ). slice_get (locked_back w who o).occupants region) in_phase ∙ written_here w.occupants region (Some who) None free;
    }

not_going : (who : ℕ) (answer : Answer) (event : Event) → event ≡ Goes who answer → IsDoneBy who event → ⊥
not_going who answer event is done = subst (λ (e : Event). IsDoneBy who e) is done

locks_again : (facts : Facts) (w : World) (front : List Event) (event : Event) (rest : List Event) (who region : ℕ) → IsRunFrom facts w (front ++ event ∷ rest) → HasBack w.phases who region → IsDoneBy who event → SomeLocksAgain facts w front who region
locks_again facts w [] event rest who region run has done = elim (step_kept facts w event who region run.0.possible has) [
  | inl kept ↦ absurd (kept.1 done)
  | inr goes ↦ absurd (not_going who goes.0 event goes.1 done)
]
locks_again facts w (e ∷ front) event rest who region run has done = elim (step_kept facts w e who region run.0.possible has) [
  | inl kept ↦ (let later = locks_again facts (after facts w e) front event rest who region run.1 kept.0 done in
      record { front = e ∷ later.front; answer = later.answer; rest = later.rest; parts = ap (λ (es : List Event). e ∷ es) later.parts; locks = later.locks })
  | inr goes ↦ record {
    front = [];
    answer = goes.0;
    rest = front;
    parts = ap (λ (x : Event). x ∷ front) goes.1;
    locks = goes_locks facts w who goes.0 region (subst (λ (x : Event). IsPossible facts w x) goes.1 run.0.possible) has;
  }
]

-- the occupant, the list and the phase behind the wait
waits_frees : (facts : Facts) (w : World) (who ticks : ℕ) (request : Request) (region : ℕ) → HoldsOccupied w → (IsEnter request → ⊥) → last_of (held_by w who) ≡ Some region → Frees facts w (Waits who ticks request) who region
waits_frees facts w who ticks request region holds other last =
    let occupied : Occupies w who region = holds.occupied who region (last_is_in (held_by w who) region last) in
    let is : (after_waits w who request).occupants ≡ slice_set w.occupants region None = ap (λ (x : World). x.occupants) (waits_at w who request region other last) ∙ freed_occupants w who (drawn w request) region in
    record {
      before = occupied;
      not_behind = λ occupies.
          let gone : Some None ≡ Some (Some who) = sym (written_here w.occupants region None (Some who) occupied) ∙ ap (λ (os : List (Option ℕ)). slice_get os region) (sym is) ∙ occupies in
          let f : ⊥ = cc in f;
    }

waits_leaves : (w : World) (who : ℕ) (request : Request) (region : ℕ) → (IsEnter request → ⊥) → last_of (held_by w who) ≡ Some region → held_by (after_waits w who request) who ≡ without region (held_by w who)
waits_leaves w who request region other last =
    let is : (after_waits w who request).held ≡ slice_set w.held who (without region (held_by w who)) = ap (λ (x : World). x.held) (waits_at w who request region other last) ∙ freed_held w who (drawn w request) region in
    ap (λ (hs : List (List ℕ)). slice_index_or hs who []) is
    ∙ read_back w.held who (without region (held_by w who)) [] (λ none. let e : None ≡ Some region = sym (ap last_of none) ∙ last in let f : ⊥ = cc in f)

waits_has_back : (w : World) (who : ℕ) (request : Request) (region : ℕ) → IsActive w who → (IsEnter request → ⊥) → last_of (held_by w who) ≡ Some region → HasBack (after_waits w who request).phases who region
waits_has_back w who request region active other last =
    let new : Phase = Waiting request (drawn w request) (Some region) in
    let is : (after_waits w who request).phases ≡ slice_set w.phases who new =
    ap (λ (x : World). x.phases) (waits_at w who request region other last) ∙ ap (λ (ps : List Phase). slice_set ps who new) (freeing_kept w who (drawn w request) (Some region)) in
    record { phase = new; at = ap (λ (ps : List Phase). slice_get ps who) is ∙ written_here w.phases who new Active active; back = refl }

pub freed_region_law : FreedRegionLaw
freed_region_law facts before who ticks request behind region run other last =
    let w : World = after_all facts (opening facts) before in
    let here = rest_runs facts (opening facts) before (Waits who ticks request ∷ behind) run in
    let holds = journal_holds facts before (front_runs facts (opening facts) before (Waits who ticks request ∷ behind) run) in
    let has = waits_has_back w who request region here.0.possible.0.active other last in
    record {
      frees = waits_frees facts w who ticks request region holds other last;
      leaves = waits_leaves w who request region other last;
      again = λ front event rest parts done. locks_again facts (after_waits w who request) front event rest who region (subst (λ (es : List Event). IsRunFrom facts (after_waits w who request) es) parts here.1) has done;
    }

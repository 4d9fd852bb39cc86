-- Where nothing can go on, somebody is active or the run is over.
use Rattle.std.proofs.Common.{◌≡◌, ◌⊎◌, ℕ, zero, suc, Bool, true, false, List, [], ◌∷◌, refl, inl, inr, Option, Some, None, slice_get, slice_index_or}
use Rattle.std.specs.Prelude.{IsSome, is_none, nat_le}
use Rattle.std.specs.List.{list_all}
use Rattle.std.proofs.lemmas.Bool.{cases_Bool}
use Rattle.kernel_base.specs.declared.answer.Answer.{Answer}
use Rattle.kernel_base.specs.Units.{units_of_all}
use Rattle.world_model.specs.declared.world.Phase.{Phase}
use Rattle.world_model.specs.declared.world.Phase.TheVariants.{Active, Waiting, Chosen, Ended}
use Rattle.world_model.specs.declared.world.World.{World}
use Rattle.world_model.specs.World.{world_of}
use Rattle.world_model.specs.Waiting.{IsActive}
use Rattle.world_model.specs.Allowed.{MayGo, MayLockBack}
use Rattle.world_model.specs.Over.{end_in, is_ended, is_stuck, may_lock_back}
use Rattle.world_model.specs.Laws.{OverLaw}

-- all pass, or there is one that doesn't
all_or_one : {X : Type 0} (p : X → Bool) (xs : List X) → (list_all p xs ≡ true) ⊎ ((k : ℕ) × (x : X) × (slice_get xs k ≡ Some x) × (p x ≡ false))
all_or_one p [] = inl refl
all_or_one p (x ∷ xs) = elim (cases_Bool (p x)) [
  | inl holds ↦ elim (all_or_one p xs) [
    | inl all ↦ inl (rw (holds, all) refl)
    | inr other ↦ inr (suc other.0, other.1, other.2, other.3)
  ]
  | inr fails ↦ inr (zero, x, refl, fails)
]

free_at : (occupants : List (Option ℕ)) (region : ℕ) → is_none (slice_index_or occupants region (Some 0)) ≡ true → slice_get occupants region ≡ Some None
free_at [] region may = absurd (let f : ⊥ = cc in f)
free_at (None ∷ occupants) zero may = refl
free_at (Some p ∷ occupants) zero may = absurd (let f : ⊥ = cc in f)
free_at (o ∷ occupants) (suc region) may = free_at occupants region may

free_back : (w : World) (back : Option ℕ) → may_lock_back w back ≡ true → MayLockBack w back
free_back w None may = tt
free_back w (Some region) may = free_at w.occupants region may

-- one that isn't stuck is active or may go on
not_stuck : (w : World) (k : ℕ) (phase : Phase) → slice_get w.phases k ≡ Some phase → is_stuck w phase ≡ false → IsActive w k ⊎ ((answer : Answer) × MayGo w k answer)
not_stuck w k Active at loose = inl at
not_stuck w k (Waiting request send back) at loose = absurd (let f : ⊥ = cc in f)
not_stuck w k (Chosen answer back) at loose = elim (cases_Bool (may_lock_back w back)) [
  | inl holds ↦ inr (answer, record { back = back; chosen = at; free = free_back w back holds })
  | inr stays ↦ absurd (let e : is_stuck w (Chosen answer back) ≡ true = rw stays refl in let f : ⊥ = cc in f)
]
not_stuck w k (Ended how) at loose = absurd (let f : ⊥ = cc in f)

still : (w : World) → list_all (is_stuck w) w.phases ≡ true → IsSome (end_in w)
still w all = elim (cases_Bool (list_all is_ended w.phases)) [
  | inl ended ↦ rw (ended) refl
  | inr not_ended ↦ rw (not_ended, all) refl
]

over_or_active : (w : World) → ((who : ℕ) (answer : Answer) → MayGo w who answer → ⊥) → ((who : ℕ) × IsActive w who) ⊎ IsSome (end_in w)
over_or_active w nobody = elim (all_or_one (is_stuck w) w.phases) [
  | inl all ↦ inr (still w all)
  | inr one ↦ elim (not_stuck w one.0 one.1 one.2 one.3) [
    | inl active ↦ inl (one.0, active)
    | inr goes ↦ absurd (nobody one.0 goes.0 goes.1)
  ]
]

pub over_law : OverLaw
over_law facts events nobody = elim (over_or_active (world_of facts events) nobody) [
  | inl active ↦ inl active
  | inr over ↦ elim (cases_Bool (nat_le facts.units (units_of_all events))) [
    | inl spent ↦ inr (rw spent refl)
    | inr left ↦ inr (rw left over)
  ]
]

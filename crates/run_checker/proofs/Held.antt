-- What a checker has come to, one event further, and what it tells in the end.
use Rattle.std.proofs.Common.{◌≡◌, ◌≢◌, ◌⊎◌, ℕ, zero, suc, ◌+◌, ◌≤◌, ◌<◌, Bool, true, false, List, [], ◌∷◌, ◌++◌, length, take, refl, sym, ap, ◌∙◌, subst, inl, inr, arith, append-nil, Option, Some, None, slice_get, add-one}
use Rattle.std.specs.Prelude.{nat_le, if◌then◌else◌, MatchBool, IsSome}
use Rattle.std.specs.List.{list_all}
use Rattle.std.proofs.lemmas.Bool.{cases_Bool}
use Rattle.std.proofs.lemmas.List.Sums.{sum_by-cons, sum_by_push, sum_by-take-le}
use Rattle.kernel_base.specs.declared.ends.Over.{Over}
use Rattle.kernel_base.specs.declared.ends.Over.TheVariants.{Spent}
use Rattle.kernel_base.specs.declared.facts.Facts.{Facts}
use Rattle.kernel_base.specs.declared.event.Event.{Event}
use Rattle.kernel_base.specs.declared.event.Event.TheVariants.{Did, Waits, Goes, Runs}
use Rattle.kernel_base.specs.Units.{units_of, units_of_all}
use Rattle.world_model.specs.declared.world.Phase.{Phase}
use Rattle.world_model.specs.declared.world.Phase.TheVariants.{Active}
use Rattle.world_model.specs.declared.world.World.{World}
use Rattle.world_model.specs.World.{after, world_of}
use Rattle.world_model.specs.Waiting.{IsActive}
use Rattle.world_model.specs.Allowed.{IsAllowed}
use Rattle.world_model.specs.Over.{IsNoGoing, IsComplete, end_in, is_ended, is_stuck, over_of}
use Rattle.run_checker.specs.Standing.{WasOpen, is_no_going}

take_suc : {X : Type 0} (xs : List X) (k : ℕ) (x : X) → slice_get xs k ≡ Some x → take (suc k) xs ≡ take k xs ++ x ∷ []
take_suc [] k x at = absurd (let f : ⊥ = cc in f)
take_suc (y ∷ xs) zero x at = let same : y ≡ x = cc in ap (λ z. z ∷ []) same
take_suc (y ∷ xs) (suc k) x at = ap (λ zs. y ∷ zs) (take_suc xs k x at)

pub take_next : {X : Type 0} (xs : List X) (k : ℕ) (x : X) → slice_get xs k ≡ Some x → take (k + 1) xs ≡ take k xs ++ x ∷ []
take_next xs k x at = ap (λ (n : ℕ). take n xs) (add-one k) ∙ take_suc xs k x at

-- where an event stands that comes before the last one, or is it
parted : (old : List Event) (next : Event) (before : List Event) (event : Event) (behind : List Event) → old ++ next ∷ [] ≡ before ++ event ∷ behind
    → ((rest : List Event) × (old ≡ before ++ event ∷ rest)) ⊎ ((before ≡ old) × (event ≡ next))
parted [] next [] event behind is = inr (refl, let e : event ≡ next = cc in e)
parted [] next (b ∷ []) event behind is = absurd (let f : ⊥ = cc in f)
parted [] next (b ∷ c ∷ before) event behind is = absurd (let f : ⊥ = cc in f)
parted (o ∷ old) next [] event behind is = inl (old, let e : o ≡ event = cc in ap (λ (x : Event). x ∷ old) e)
parted (o ∷ old) next (b ∷ before) event behind is =
    let head : o ≡ b = cc in
    elim (parted old next before event behind (let e : old ++ next ∷ [] ≡ before ++ event ∷ behind = cc in e)) [
      | inl (rest, same) ↦ inl (rest, ap (λ (x : Event). x ∷ old) head ∙ ap (λ (xs : List Event). b ∷ xs) same)
      | inr (same, one) ↦ inr (ap (λ (x : Event). x ∷ before) (sym head) ∙ ap (λ (xs : List Event). o ∷ xs) same, one)
    ]

going_is : (event : Event) → is_no_going event ≡ false → IsNoGoing event → ⊥
going_is (Goes who answer) is kind = kind
going_is (Did who ticks request answer refill) is kind = let f : ⊥ = cc in f
going_is (Waits who ticks request) is kind = let f : ⊥ = cc in f
going_is (Runs who ticks) is kind = let f : ⊥ = cc in f

kind_is : (event : Event) → is_no_going event ≡ true → IsNoGoing event
kind_is (Goes who answer) is = let f : ⊥ = cc in f
kind_is (Did who ticks request answer refill) is = tt
kind_is (Waits who ticks request) is = tt
kind_is (Runs who ticks) is = tt

open_more : (facts : Facts) (old : List Event) (next : Event) → WasOpen facts old → (IsNoGoing next → over_of facts old ≡ None) → WasOpen facts (old ++ next ∷ [])
open_more facts old next was goes before event behind is kind = elim (parted old next before event behind is) [
  | inl (rest, same) ↦ was before event rest same kind
  | inr (same, one) ↦ subst (λ (events : List Event). over_of facts events ≡ None) (sym same) (goes (subst IsNoGoing one kind))
]

open_less : (facts : Facts) (old : List Event) (next : Event) → WasOpen facts (old ++ next ∷ []) → WasOpen facts old
open_less facts old next was before event behind is kind = was before event (behind ++ next ∷ []) (ap (λ (xs : List Event). xs ++ next ∷ []) is ∙ append_behind before event behind (next ∷ [])) kind
  where
    append_behind : (before : List Event) (event : Event) (behind more : List Event) → (before ++ event ∷ behind) ++ more ≡ before ++ event ∷ (behind ++ more)
    append_behind [] event behind more = refl
    append_behind (b ∷ before) event behind more = ap (λ (xs : List Event). b ∷ xs) (append_behind before event behind more)

-- while one is active nobody else decides that the run is over
not_all : {X : Type 0} (test : X → Bool) (xs : List X) (k : ℕ) (x : X) → slice_get xs k ≡ Some x → test x ≡ false → list_all test xs ≡ false
not_all test [] k x at fails = absurd (let f : ⊥ = cc in f)
not_all test (y ∷ xs) zero x at fails = let same : y ≡ x = cc in let here : test y ≡ false = ap test same ∙ fails in rw here refl
not_all test (y ∷ xs) (suc k) x at fails = elim (cases_Bool (test y)) [
  | inl is ↦ rw (is, not_all test xs k x at fails) refl
  | inr other ↦ rw other refl
]

goes_on : (w : World) (who : ℕ) → IsActive w who → end_in w ≡ None
goes_on w who active = rw (not_all is_ended w.phases who Active active refl, not_all (is_stuck w) w.phases who Active active refl) refl

-- who did it was active
doer_active : (facts : Facts) (w : World) (event : Event) → IsAllowed facts w event → IsNoGoing event → (who : ℕ) × IsActive w who
doer_active facts w (Did who ticks request answer refill) may kind = (who, may.possible.0.active)
doer_active facts w (Waits who ticks request) may kind = (who, may.possible.0.active)
doer_active facts w (Goes who answer) may kind = absurd kind
doer_active facts w (Runs who ticks) may kind = (who, may.possible.0)

spent_by : (facts : Facts) (events : List Event) → nat_le facts.units (units_of_all events) ≡ true → over_of facts events ≡ Some Spent
spent_by facts events spent = rw spent refl

open_by : (facts : Facts) (events : List Event) → nat_le facts.units (units_of_all events) ≡ false → over_of facts events ≡ end_in (world_of facts events)
open_by facts events left = rw left refl

-- whether the run was open, one event further
abbrev pub IsOpen : Bool → Facts → List Event → Type 0
IsOpen late facts events = MatchBool late (WasOpen facts events → ⊥) (WasOpen facts events)

pub open_next : (facts : Facts) (events : List Event) (event : Event) (late now : Bool) → IsAllowed facts (world_of facts events) event → IsOpen late facts events
    → (now ≡ true → (late ≡ true) ⊎ ((is_no_going event ≡ true) × (nat_le facts.units (units_of_all events) ≡ true)))
    → (now ≡ false → (late ≡ false) × ((is_no_going event ≡ false) ⊎ (nat_le facts.units (units_of_all events) ≡ false)))
    → IsOpen now facts (events ++ event ∷ [])
open_next facts events event late true may was before_is left_is = elim (before_is refl) [
  | inl before ↦ (λ more. subst (λ (b : Bool). IsOpen b facts events) before was (open_less facts events event more))
  | inr (kind, spent) ↦ (λ more.
      let none : over_of facts events ≡ None = more events event [] refl (kind_is event kind) in
      let both : None ≡ Some Spent = sym none ∙ spent_by facts events spent in
      let f : ⊥ = cc in f)
]
open_next facts events event late false may was before_is left_is =
    let before : WasOpen facts events = subst (λ (b : Bool). IsOpen b facts events) (left_is refl).0 was in
    open_more facts events event before (λ kind. elim (left_is refl).1 [
      | inl going ↦ absurd (going_is event going kind)
      | inr left ↦ (let who = doer_active facts (world_of facts events) event may kind in open_by facts events left ∙ goes_on (world_of facts events) who.0 who.1)
    ])

pub open_none : (facts : Facts) → WasOpen facts []
open_none facts [] event behind is kind = absurd (let f : ⊥ = cc in f)
open_none facts (b ∷ before) event behind is kind = absurd (let f : ⊥ = cc in f)

-- the units of one event more
pub units_noted : (events : List Event) (event : Event) → units_of_all (events ++ event ∷ []) ≡ units_of_all events + units_of event
units_noted events event = sum_by_push units_of events event

-- a front has no more units
pub front_units : (events : List Event) (count : ℕ) → units_of_all (take count events) ≤ units_of_all events
front_units events count = sum_by-take-le units_of events count

-- each event has a unit
some_units : (event : Event) → 1 ≤ units_of event
some_units (Did who ticks request answer refill) = omega arith
some_units (Waits who ticks request) = omega arith
some_units (Goes who answer) = omega arith
some_units (Runs who ticks) = omega arith

pub few_events : (events : List Event) → length events ≤ units_of_all events
few_events [] = omega arith
few_events (e ∷ events) = let rest = few_events events in let one = some_units e in let sum = sum_by-cons units_of e events in omega (arith, rest, one, sum)

-- the units of an event are no more than those of all
pub its_units : (events : List Event) (place : ℕ) (event : Event) → slice_get events place ≡ Some event → units_of event ≤ units_of_all events
its_units [] place event at = absurd (let f : ⊥ = cc in f)
its_units (e ∷ events) zero event at = let same : e ≡ event = cc in let u = ap units_of same in let sum = sum_by-cons units_of e events in omega (arith, u, sum)
its_units (e ∷ events) (suc place) event at = let rest = its_units events place event at in let sum = sum_by-cons units_of e events in omega (arith, rest, sum)

-- a front with the event behind it has no more units
pub next_units : (events : List Event) (place : ℕ) (event : Event) → slice_get events place ≡ Some event → units_of_all (take place events) + units_of event ≤ units_of_all events
next_units events place event at =
    let more = ap units_of_all (take_next events place event at) in
    let sum = units_noted (take place events) event in
    let low = front_units events (place + 1) in
    omega (arith, more, sum, low)

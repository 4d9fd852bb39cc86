-- A signal pends for an instance exactly where there is an alternative for it.
use Rattle.std.proofs.Common.{◌≡◌, ℕ, ◌≤◌, ◌<◌, ℤ, List, length, refl, ap, ◌∙◌, arith, Some, None, Bool, true, false, inl, inr}
use Rattle.std.specs.Prelude.{if◌then◌else◌, slice_get}
use Rattle.std.specs.declared.option.Option.{Option}
use Rattle.std.proofs.lemmas.Bool.{cases_lt}
use Rattle.kernel_base.specs.declared.facts.Facts.{Facts}
use Rattle.kernel_base.specs.declared.request.Alternative.{Alternative}
use Rattle.world_model.specs.declared.world.PendingSignal.{PendingSignal}
use Rattle.world_model.specs.declared.world.World.{World}
use Rattle.world_model.specs.Lists.{number_for}
use Rattle.world_model.specs.Waiting.{may_receive}
use Rattle.world_model.specs.Allowed.{IsPendingFor, NoSignalPends, TakesSignal}
use Rattle.world_check.specs.Pending.{alternative_for, NoSignalAbove, MayTake}
use Rattle.world_check.proofs.Waiters.{nothing_behind}

chosen_if : (may : Bool) (listed : Option ℕ) (n : ℕ) → (if may then listed else None) ≡ Some n → (listed ≡ Some n) × (may ≡ true)
chosen_if true listed n is = (is, refl)
chosen_if false listed n is = absurd (let f : ⊥ = cc in f)

-- an alternative for a signal that stands among the pending ones
pub pends_at : (facts : Facts) (w : World) (who : ℕ) (signals : List Alternative) (n place : ℕ) (signal : PendingSignal)
    → slice_get w.pending place ≡ Some signal → alternative_for facts w who signals signal ≡ Some n → IsPendingFor facts w who signals n signal
pends_at facts w who signals n place signal at is =
    let both = chosen_if (may_receive facts w signal.signal signal.to who) (number_for signals signal.signal) n is in
    record { place = place; pends = at; listed = both.0; may = both.1 }

pub alternative_of_pending : (facts : Facts) (w : World) (who : ℕ) (signals : List Alternative) (n : ℕ) (signal : PendingSignal)
    → IsPendingFor facts w who signals n signal → alternative_for facts w who signals signal ≡ Some n
alternative_of_pending facts w who signals n signal pends =
    ap (λ (may : Bool). if may then number_for signals signal.signal else None) pends.may ∙ pends.listed

pub no_signal : (facts : Facts) (w : World) (who : ℕ) (signals : List Alternative) (count : ℕ) → length w.pending ≤ count
    → ((k : ℕ) (signal : PendingSignal) → k < count → slice_get w.pending k ≡ Some signal → alternative_for facts w who signals signal ≡ None) → NoSignalPends facts w who signals
no_signal facts w who signals count low below n signal pends =
    let is : alternative_for facts w who signals signal ≡ Some n = alternative_of_pending facts w who signals n signal pends in
    elim (cases_lt pends.place count) [
      | inl here ↦ (let none : alternative_for facts w who signals signal ≡ None = below pends.place signal here pends.pends in cc)
      | inr behind ↦ (let none : slice_get w.pending pends.place ≡ None = nothing_behind w.pending pends.place (omega arith) in let at : slice_get w.pending pends.place ≡ Some signal = pends.pends in cc)
    ]

pub none_above : (facts : Facts) (w : World) (who : ℕ) (signals : List Alternative) (priority count : ℕ) → length w.pending ≤ count
    → ((k n : ℕ) (signal : PendingSignal) → k < count → slice_get w.pending k ≡ Some signal → alternative_for facts w who signals signal ≡ Some n → signal.value.priority ≤ priority) → NoSignalAbove facts w who signals priority
none_above facts w who signals priority count low below n signal pends =
    let is : alternative_for facts w who signals signal ≡ Some n = alternative_of_pending facts w who signals n signal pends in
    elim (cases_lt pends.place count) [
      | inl here ↦ below pends.place n signal here pends.pends is
      | inr behind ↦ absurd (let none : slice_get w.pending pends.place ≡ None = nothing_behind w.pending pends.place (omega arith) in let at : slice_get w.pending pends.place ≡ Some signal = pends.pends in let f : ⊥ = cc in f)
    ]

pub takes_at : (facts : Facts) (w : World) (who : ℕ) (signals : List Alternative) (alternative send : ℕ) (scalars : List ℤ) (by place : ℕ) (signal : PendingSignal)
    → slice_get w.pending place ≡ Some signal → MayTake facts w who signals alternative send scalars by signal → TakesSignal facts w who signals alternative send scalars by
takes_at facts w who signals alternative send scalars by place signal at may =
    record { signal = signal; pends = pends_at facts w who signals alternative place signal at may.listed; is = may.is; highest = may.highest }

pub takes_none : (facts : Facts) (w : World) (who : ℕ) (signals : List Alternative) (alternative send : ℕ) (scalars : List ℤ) (by count : ℕ) → length w.pending ≤ count
    → ((k : ℕ) (signal : PendingSignal) → k < count → slice_get w.pending k ≡ Some signal → MayTake facts w who signals alternative send scalars by signal → ⊥)
    → TakesSignal facts w who signals alternative send scalars by → ⊥
takes_none facts w who signals alternative send scalars by count low below takes =
    let pends = takes.pends in
    let at : slice_get w.pending pends.place ≡ Some takes.signal = pends.pends in
    let may : MayTake facts w who signals alternative send scalars by takes.signal =
    record { listed = alternative_of_pending facts w who signals alternative takes.signal pends; is = takes.is; highest = takes.highest } in
    elim (cases_lt pends.place count) [
      | inl here ↦ below pends.place takes.signal here at may
      | inr behind ↦ (let none : slice_get w.pending pends.place ≡ None = nothing_behind w.pending pends.place (omega arith) in let f : ⊥ = cc in f)
    ]

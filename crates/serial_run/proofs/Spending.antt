-- Each event that is noted spends of the budget.
use Rattle.std.proofs.Common.{◌≡◌, ℕ, ◌-◌, ◌≤◌, ◌<◌, List, ◌∷◌, refl, ap, ◌∙◌, inl, inr, arith, Some, None}
use Rattle.std.specs.Prelude.{nat_le}
use Rattle.std.proofs.lemmas.Bool.{cases_Bool}
use Rattle.std.proofs.lemmas.List.Sums.{sum_by-append, sum_by-cons}
use Rattle.kernel_base.specs.declared.facts.Facts.{Facts}
use Rattle.kernel_base.specs.declared.ends.Over.TheVariants.{Spent}
use Rattle.kernel_base.specs.declared.event.Event.{Event}
use Rattle.kernel_base.specs.declared.event.Event.TheVariants.{Did, Waits, Goes, Runs}
use Rattle.kernel_base.specs.Units.{units_of, units_of_all}
use Rattle.world_model.specs.Over.{over_of}
use Rattle.code_types.specs.declared.code.Code.{Code}
use Rattle.kernel_steps.specs.View.{View}
use Rattle.serial_run.specs.Standing.{Advances, KeepsJournal, Spends}

pub spends : (event : Event) → 1 ≤ units_of event
spends (Did who ticks request answer refill) = omega arith
spends (Waits who ticks request) = omega arith
spends (Goes who answer) = omega arith
spends (Runs who ticks) = omega arith

pub left_open : (facts : Facts) (events : List Event) → over_of facts events ≡ None → units_of_all events < facts.units
left_open facts events is_open = elim (cases_Bool (nat_le facts.units (units_of_all events))) [
  | inl spent ↦ absurd (let e : over_of facts events ≡ Some Spent = rw spent refl in let f : ⊥ = cc in f)
  | inr left ↦ grind (arith, left)
]

-- less of the budget is left behind an event
pub spends_more : (code : Code) (old new : View) (who : ℕ) → Advances code old new who → new.facts.units - units_of_all new.events < old.facts.units - units_of_all old.events
spends_more code old new who a =
    let low = left_open old.facts old.events a.is_open in
    let u = ap units_of_all a.grows.events in
    let m = sum_by-append units_of old.events (a.event ∷ a.grows.goes) in
    let one = sum_by-cons units_of a.event a.grows.goes in
    let s = spends a.event in
    let f = ap (λ (x : Facts). x.units) a.grows.facts in
    omega (arith, low, u, m, one, s, f)

-- after a search that changed no event, and a burst that was committed
pub turn_spends : (code : Code) (old mid new : View) (who : ℕ) → KeepsJournal old mid → Advances code mid new who → Spends old new
turn_spends code old mid new who k a =
    let less = spends_more code mid new who a in
    let f = ap (λ (x : Facts). x.units) k.facts in
    let e = ap units_of_all k.events in
    record { facts = a.grows.facts ∙ k.facts; less = omega (arith, less, f, e) }

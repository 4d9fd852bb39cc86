-- The run wasn't over before any event but a going on.
use Rattle.std.proofs.Common.{◌≡◌, ◌⊎◌, List, [], ◌∷◌, ◌++◌, refl, sym, ap, ◌∙◌, subst, inl, inr, None}
use Rattle.std.specs.List.{AllByRecursion}
use Rattle.kernel_base.specs.declared.facts.Facts.{Facts}
use Rattle.kernel_base.specs.declared.event.Event.{Event}
use Rattle.kernel_base.specs.declared.event.Event.TheVariants.{Did, Waits, Goes, Runs}
use Rattle.world_model.specs.Over.{IsNoGoing, over_of}
use Rattle.kernel_steps.specs.View.{IsGoing}
use Rattle.serial_run.specs.Coming.{WasOpen}

no_going : (event : Event) → IsGoing event → IsNoGoing event → ⊥
no_going (Goes who answer) is kind = kind
no_going (Did who ticks request answer refill) is kind = is
no_going (Waits who ticks request) is kind = is
no_going (Runs who ticks) is kind = is

no_more_goings : (before : List Event) (event : Event) (behind goes : List Event) → goes ≡ before ++ event ∷ behind → AllByRecursion IsGoing goes → IsNoGoing event → ⊥
no_more_goings [] event behind [] is all kind = let f : ⊥ = cc in f
no_more_goings [] event behind (g ∷ goes) is all kind = let e : g ≡ event = cc in no_going event (subst IsGoing e all.0) kind
no_more_goings (b ∷ before) event behind [] is all kind = let f : ⊥ = cc in f
no_more_goings (b ∷ before) event behind (g ∷ goes) is all kind = no_more_goings before event behind goes (let e : goes ≡ before ++ event ∷ behind = cc in e) all.1 kind

-- where an event stands that is kind going on: among the old ones, or directly behind them
parted : (old : List Event) (next : Event) (goes before : List Event) (event : Event) (behind : List Event)
    → old ++ next ∷ goes ≡ before ++ event ∷ behind → AllByRecursion IsGoing goes → IsNoGoing event
    → ((rest : List Event) × (old ≡ before ++ event ∷ rest)) ⊎ (before ≡ old)
parted [] next goes [] event behind is all kind = inr refl
parted [] next goes (b ∷ before) event behind is all kind = absurd (no_more_goings before event behind goes (let e : goes ≡ before ++ event ∷ behind = cc in e) all kind)
parted (o ∷ old) next goes [] event behind is all kind = inl (old, let e : o ≡ event = cc in ap (λ (x : Event). x ∷ old) e)
parted (o ∷ old) next goes (b ∷ before) event behind is all kind =
    let head : o ≡ b = cc in
    elim (parted old next goes before event behind (let e : old ++ next ∷ goes ≡ before ++ event ∷ behind = cc in e) all kind) [
      | inl (rest, same) ↦ inl (rest, ap (λ (x : Event). x ∷ old) head ∙ ap (λ (xs : List Event). b ∷ xs) same)
      | inr same ↦ inr (ap (λ (x : Event). x ∷ before) (sym head) ∙ ap (λ (xs : List Event). o ∷ xs) same)
    ]

pub open_more : (facts : Facts) (old : List Event) (next : Event) (goes : List Event) → WasOpen facts old → over_of facts old ≡ None → AllByRecursion IsGoing goes → WasOpen facts (old ++ next ∷ goes)
open_more facts old next goes was is_open all before event behind is kind = elim (parted old next goes before event behind is all kind) [
  | inl (rest, same) ↦ was before event rest same kind
  | inr same ↦ subst (λ (events : List Event). over_of facts events ≡ None) (sym same) is_open
]

pub open_none : (facts : Facts) → WasOpen facts []
open_none facts [] event behind is kind = absurd (let f : ⊥ = cc in f)
open_none facts (b ∷ before) event behind is kind = absurd (let f : ⊥ = cc in f)

-- Nobody waits behind the instances that were made, and what a search among them finds.
use Rattle.std.proofs.Common.{◌≡◌, ℕ, zero, suc, ◌≤◌, ◌<◌, List, [], ◌∷◌, length, refl, ap, arith, Option, Some, None, inl, inr}
use Rattle.std.specs.Prelude.{IsTrue, ◌↔◌, slice_get, if◌then◌else◌, Bool, true, false}
use Rattle.std.specs.Option.{option_and_then}
use Rattle.std.proofs.lemmas.Bool.{cases_lt}
use Rattle.kernel_base.specs.declared.facts.Facts.{Facts}
use Rattle.world_model.specs.declared.world.World.{World}
use Rattle.world_model.specs.declared.waiting.Waiter.{Waiter}
use Rattle.kernel_base.specs.declared.ends.Exc.TheVariants.{Extinct}
use Rattle.world_model.specs.World.{refusal}
use Rattle.world_model.specs.Waiting.{is_live, sleeper, sleeper_in, buffer_receiver, buffer_receiver_in, signal_receiver, signal_receiver_in, may_receive, offer, offer_in}

pub nothing_behind : {X : Type 0} (xs : List X) (i : ℕ) → length xs ≤ i → slice_get xs i ≡ None
nothing_behind [] i low = refl
nothing_behind (x ∷ xs) zero low = absurd (let no : ⊥ = omega arith in no)
nothing_behind (x ∷ xs) (suc i) low = nothing_behind xs i (omega arith)

pub no_sleeper_behind : (w : World) (event p : ℕ) → length w.phases ≤ p → sleeper w event p ≡ None
no_sleeper_behind w event p low = ap (option_and_then (sleeper_in event)) (nothing_behind w.phases p low)

pub no_receiver_behind : (w : World) (buffer p : ℕ) → length w.phases ≤ p → buffer_receiver w buffer p ≡ None
no_receiver_behind w buffer p low = ap (option_and_then (buffer_receiver_in buffer)) (nothing_behind w.phases p low)

if_none : (may : Bool) (found : Option Waiter) → found ≡ None → (if may then found else None) ≡ None
if_none true found none = none
if_none false found none = refl

pub no_signal_receiver_behind : (facts : Facts) (w : World) (signal : ℕ) (to : Option ℕ) (p : ℕ) → length w.phases ≤ p → signal_receiver facts w signal to p ≡ None
no_signal_receiver_behind facts w signal to p low = if_none (may_receive facts w signal to p) _ (ap (option_and_then (signal_receiver_in signal)) (nothing_behind w.phases p low))

pub no_offer_behind : (w : World) (p : ℕ) → length w.phases ≤ p → offer w p ≡ None
no_offer_behind w p low = ap (option_and_then (offer_in p)) (nothing_behind w.phases p low)

pub refusal_some : (w : World) (i : ℕ) → (i ≡ 0 → ⊥) → refusal w (Some i) ≡ (if is_live w i then None else Some Extinct)
refusal_some w zero apart = absurd (apart refl)
refusal_some w (suc i) apart = refl

pub no_higher : (w : World) (event priority n : ℕ) → length w.phases ≤ n → ((k : ℕ) (other : Waiter) → k < n → sleeper w event k ≡ Some other → other.priority ≤ priority)
    → (q : ℕ) (other : Waiter) → sleeper w event q ≡ Some other → other.priority ≤ priority
no_higher w event priority n low below q other is = elim (cases_lt q n) [
  | inl here ↦ below q other here is
  | inr behind ↦ (let none : sleeper w event q ≡ None = no_sleeper_behind w event q (omega arith) in absurd (let f : ⊥ = cc in f))
]

-- what doesn't hold is decided by false, and what holds by true
pub refuted : {P : Type 0} → (P → ⊥) → IsTrue false ↔ P
refuted fails = (λ is. absurd (let f : ⊥ = cc in f), λ p. absurd (fails p))

pub granted : {P : Type 0} → P → IsTrue true ↔ P
granted p = (λ is. p, λ given. refl)

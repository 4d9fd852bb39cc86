-- One event more of a journal.
use Rattle.std.proofs.Common.{◌≡◌, ℕ, zero, suc, ◌+◌, ◌≤◌, List, [], ◌∷◌, ◌++◌, take, refl, sym, ap, ◌∙◌, subst, arith, Some, add-one}
use Rattle.std.specs.Prelude.{slice_get}
use Rattle.kernel_base.specs.declared.facts.Facts.{Facts}
use Rattle.kernel_base.specs.declared.event.Event.{Event}
use Rattle.world_model.specs.declared.world.World.{World}
use Rattle.world_model.specs.World.{opening, after, after_all, world_of}
use Rattle.world_model.specs.Allowed.{IsAllowed, IsRun}
use Rattle.world_model.proofs.RunParts.{one_more, next_allowed}
use Rattle.world_model.proofs.NumbersGotOnce.{sends_rise}

take_suc : {X : Type 0} (xs : List X) (k : ℕ) (x : X) → slice_get xs k ≡ Some x → take (suc k) xs ≡ take k xs ++ x ∷ []
take_suc [] k x at = absurd (let f : ⊥ = cc in f)
take_suc (y ∷ xs) zero x at = let same : y ≡ x = cc in ap (λ z. z ∷ []) same
take_suc (y ∷ xs) (suc k) x at = ap (λ zs. y ∷ zs) (take_suc xs k x at)

pub take_next : {X : Type 0} (xs : List X) (k : ℕ) (x : X) → slice_get xs k ≡ Some x → take (k + 1) xs ≡ take k xs ++ x ∷ []
take_next xs k x at = ap (λ (n : ℕ). take n xs) (add-one k) ∙ take_suc xs k x at

after_one_more : (facts : Facts) (w : World) (front : List Event) (event : Event) → after_all facts w (front ++ event ∷ []) ≡ after facts (after_all facts w front) event
after_one_more facts w [] event = refl
after_one_more facts w (e ∷ front) event = after_one_more facts (after facts w e) front event

-- what a loop over the events has come to: the world, that the events so far are allowed, and few send numbers
pub record Reaches (facts : Facts) (events : List Event) (place : ℕ) (w : World) : Type 0 where
  pub world : w ≡ world_of facts (take place events)
  pub run : IsRun facts (take place events)
  pub sends : w.sends ≤ place

pub reaches_next : (facts : Facts) (events : List Event) (place : ℕ) (w next : World) (event : Event) → slice_get events place ≡ Some event → Reaches facts events place w → IsAllowed facts w event → next ≡ after facts w event → Reaches facts events (place + 1) next
reaches_next facts events place w next event at reaches may is =
    let front : List Event = take place events in
    let more : take (place + 1) events ≡ front ++ event ∷ [] = take_next events place event at in
    let here : IsAllowed facts (world_of facts front) event = subst (λ (x : World). IsAllowed facts x event) reaches.world may in
    let run : IsRun facts (front ++ event ∷ []) = one_more facts (opening facts) front event reaches.run here in
    let rise : (after facts w event).sends ≤ w.sends + 1 = sends_rise facts w event in
    let same : next.sends ≡ (after facts w event).sends = ap (λ (x : World). x.sends) is in
    let few : w.sends ≤ place = reaches.sends in
    record {
      world = is ∙ ap (λ (x : World). after facts x event) reaches.world ∙ sym (after_one_more facts (opening facts) front event) ∙ sym (ap (world_of facts) more);
      run = subst (IsRun facts) (sym more) run;
      sends = omega arith;
    }

pub not_with_it : (facts : Facts) (events : List Event) (place : ℕ) (w : World) (event : Event) → slice_get events place ≡ Some event → Reaches facts events place w → (IsAllowed facts w event → ⊥) → IsRun facts (take (place + 1) events) → ⊥
not_with_it facts events place w event at reaches fails run =
    let front : List Event = take place events in
    let there : IsRun facts (front ++ event ∷ []) = subst (IsRun facts) (take_next events place event at) run in
    let may : IsAllowed facts (world_of facts front) event = next_allowed facts front event [] there in
    fails (subst (λ (x : World). IsAllowed facts x event) (sym reaches.world) may)

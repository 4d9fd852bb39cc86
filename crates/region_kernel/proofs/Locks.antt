-- The regions that a process holds, lock by lock.
use Rattle.std.proofs.Common.{◌≡◌, ℕ, ◌+◌, ◌<◌, List, [], ◌∷◌, ◌++◌, length, take, get_or, true, false, refl, sym, ap, ◌∙◌, Some}
use Rattle.std.specs.Prelude.{◌==◌}
use Rattle.std.proofs.lemmas.List.{take_more, append-nil}
use Rattle.std.proofs.lemmas.List.Elements.{filter_map-append}
use Rattle.world_model.specs.Lists.{last_of}
use Rattle.region_kernel.specs.declared.regions.Lock.{Lock}
use Rattle.region_kernel.specs.Regions.{region_for, held_by}

last_push : (xs : List ℕ) (x : ℕ) → last_of (xs ++ x ∷ []) ≡ Some x
last_push [] x = refl
last_push (y ∷ []) x = refl
last_push (y ∷ z ∷ zs) x = last_push (z ∷ zs) x

held_more : (locks : List Lock) (who i : ℕ) (d : Lock) → i < length locks → held_by (take (i + 1) locks) who ≡ held_by (take i locks) who ++ held_by (get_or locks i d ∷ []) who
held_more locks who i d low = ap (λ (xs : List Lock). held_by xs who) (take_more locks i d low) ∙ filter_map-append (region_for who) (take i locks) (get_or locks i d ∷ [])

pub last_yes : (locks : List Lock) (who i : ℕ) (d : Lock) → i < length locks → ((get_or locks i d).who == who) ≡ true → Some (get_or locks i d).region ≡ last_of (held_by (take (i + 1) locks) who)
last_yes locks who i d low is =
    let one : held_by (get_or locks i d ∷ []) who ≡ (get_or locks i d).region ∷ [] = rw is refl in
    sym (ap last_of (held_more locks who i d low ∙ ap (λ (xs : List ℕ). held_by (take i locks) who ++ xs) one) ∙ last_push (held_by (take i locks) who) (get_or locks i d).region)

pub last_no : (locks : List Lock) (who i : ℕ) (d : Lock) → i < length locks → ((get_or locks i d).who == who) ≡ false → last_of (held_by (take i locks) who) ≡ last_of (held_by (take (i + 1) locks) who)
last_no locks who i d low is =
    let none : held_by (get_or locks i d ∷ []) who ≡ [] = rw is refl in
    sym (ap last_of (held_more locks who i d low ∙ ap (λ (xs : List ℕ). held_by (take i locks) who ++ xs) none ∙ append-nil (held_by (take i locks) who)))

-- one more lock
pub held_push : (locks : List Lock) (lock : Lock) (who : ℕ) → held_by (locks ++ lock ∷ []) who ≡ held_by locks who ++ held_by (lock ∷ []) who
held_push locks lock who = filter_map-append (region_for who) locks (lock ∷ [])

-- A watcher after some events and one more.
use Rattle.std.proofs.Common.{◌≡◌, ◌<◌, ◌≤◌, ℕ, zero, suc, ◌+◌, Bool, true, false, cond, List, [], ◌∷◌, ◌++◌, length, take, get_or, Ok, Err, refl, sym, ap, ◌∙◌, arith, IsTrue, IsFalse, IsErrAnd, subst, take_all}
use Rattle.std.specs.declared.result.Result.{Result}
use Rattle.std.proofs.lemmas.List.{take_more}
use Rattle.kernel_base.specs.declared.event.Event.{Event}
use Rattle.outside_ports.specs.declared.watcher.WatchFault.{WatchFault}
use Rattle.outside_ports.specs.declared.watcher.WatchFault.TheVariants.{Refused, Memory}
use Rattle.outside_ports.specs.Watcher.{Watching, after, refuses_now, Sees}
use Rattle.watchers.specs.Shown.{fold_of, refuses_some, IsShown}

fold_more : (w : Watching) (xs : List Event) (e : Event) → fold_of w (xs ++ e ∷ []) ≡ after (fold_of w xs) e
fold_more w [] e = refl
fold_more w (x ∷ xs) e = fold_more (after w x) xs e

same_alone : (b : Bool) → cond b true false ≡ b
same_alone true = refl
same_alone false = refl

same_else : (b p q r : Bool) → (p ≡ false → q ≡ r) → cond b true p ≡ false → cond b true q ≡ r
same_else true p q r h free = absurd cc
same_else false p q r h free = h free

true_else : (b p q : Bool) → (p ≡ true → q ≡ true) → cond b true p ≡ true → cond b true q ≡ true
true_else true p q h found = refl
true_else false p q h found = h found

refuses_more : (w : Watching) (xs : List Event) (e : Event) → IsFalse (refuses_some w xs) → refuses_some w (xs ++ e ∷ []) ≡ refuses_now (fold_of w xs) e
refuses_more w [] e free = same_alone (refuses_now w e)
refuses_more w (x ∷ xs) e free =
    same_else (refuses_now w x) (refuses_some (after w x) xs) (refuses_some (after w x) (xs ++ e ∷ [])) (refuses_now (fold_of (after w x) xs) e) (refuses_more (after w x) xs e) free

-- one that refuses some of the first events refuses some of all
refuses_all : (n : ℕ) (w : Watching) (es : List Event) → IsTrue (refuses_some w (take n es)) → IsTrue (refuses_some w es)
refuses_all zero w es found = absurd cc
refuses_all (suc n) w [] found = found
refuses_all (suc n) w (x ∷ xs) found = true_else (refuses_now w x) (refuses_some (after w x) (take n xs)) (refuses_some (after w x) xs) (refuses_all n (after w x) xs) found

-- the events up to a place, and the one there
next_take : (es : List Event) (i : ℕ) (e : Event) → i < length es → e ≡ get_or es i e → take (i + 1) es ≡ take i es ++ e ∷ []
next_take es i e low is = take_more es i e low ∙ ap (λ (x : Event). take i es ++ x ∷ []) (sym is)

-- it saw one more
pub saw_one_more : (w v new : Watching) (es : List Event) (i : ℕ) (e : Event) → i < length es → e ≡ get_or es i e →
    v ≡ fold_of w (take i es) → IsFalse (refuses_some w (take i es)) → IsFalse (refuses_now v e) × (new ≡ after v e) →
    (new ≡ fold_of w (take (i + 1) es)) × IsFalse (refuses_some w (take (i + 1) es))
saw_one_more w v new es i e low is here free saw =
    let next = next_take es i e low is in (
      saw.1 ∙ ap (λ (x : Watching). after x e) here ∙ sym (fold_more w (take i es) e) ∙ ap (fold_of w) (sym next),
      ap (refuses_some w) next ∙ refuses_more w (take i es) e free ∙ ap (λ (x : Watching). refuses_now x e) (sym here) ∙ saw.0,
    )

-- it refuses the next one
refuses_next : (w v : Watching) (es : List Event) (i : ℕ) (e : Event) → i < length es → e ≡ get_or es i e →
    v ≡ fold_of w (take i es) → IsFalse (refuses_some w (take i es)) → IsTrue (refuses_now v e) → IsTrue (refuses_some w es)
refuses_next w v es i e low is here free found =
    refuses_all (i + 1) w es (ap (refuses_some w) (next_take es i e low is) ∙ refuses_more w (take i es) e free ∙ ap (λ (x : Watching). refuses_now x e) (sym here) ∙ found)

-- it didn't see the next one
pub fault_shown : (w v new : Watching) (es : List Event) (i : ℕ) (e : Event) (fault : WatchFault) → i < length es → e ≡ get_or es i e →
    v ≡ fold_of w (take i es) → IsFalse (refuses_some w (take i es)) →
    Sees {T = Unit {0}} v e (Err fault) new → IsShown w es (Err fault) new
fault_shown w v new es i e Refused low is here free h = refuses_next w v es i e low is here free h.0
fault_shown w v new es i e Memory low is here free h = record { count = i; few = omega (arith, low); saw = free; folded = h ∙ here }

-- it saw all of them
pub all_shown : (w new : Watching) (es : List Event) (i : ℕ) → length es ≤ i → new ≡ fold_of w (take i es) → IsFalse (refuses_some w (take i es)) →
    IsFalse (refuses_some w es) × (new ≡ fold_of w es)
all_shown w new es i high is free = (ap (refuses_some w) (sym (take_all i es high)) ∙ free, is ∙ ap (fold_of w) (take_all i es high))

-- and hands the fault on
pub fault_handed : (w new : Watching) (es : List Event) (r : Result (Unit {0}) WatchFault) (fault : WatchFault) → IsErrAnd r (λ x. x ≡ fault) → IsShown w es (Err fault) new → IsShown w es r new
fault_handed w new es (Ok x) fault h shown = absurd h
fault_handed w new es (Err x) fault h shown = subst (λ (y : WatchFault). IsShown w es (Err y) new) (sym h) shown

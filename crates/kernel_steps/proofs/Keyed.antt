-- How items and the phases that tell of them change together.
use Rattle.std.proofs.Common.{◌≡◌, ◌≢◌, ℕ, zero, suc, true, false, not, List, [], ◌∷◌, ◌++◌, length, refl, sym, ap, ◌∙◌, inl, inr, Option, Some, None, slice_get, slice_set, eq-eqb}
use Rattle.std.specs.Prelude.{if◌then◌else◌, ◌==◌}
use Rattle.std.specs.Option.{option_and_then}
use Rattle.std.proofs.lemmas.Bool.{cases_Bool, eqb-true}
use Rattle.world_model.specs.declared.world.Phase.{Phase}
use Rattle.world_model.proofs.ChangedLists.{written_here, written_elsewhere, pushed_or_old}
use Rattle.world_model.proofs.Stores.{in_filter}
use Rattle.kernel_steps.specs.Keyed.{AreTold, Mirrors}
use Rattle.kernel_lists.specs.Once.{entry_of, others}

-- what is found with one more item
pub found_push : {X : Type 0} (key : X → ℕ) (xs : List X) (x : X) (who : ℕ) → key x ≢ who → entry_of key (xs ++ x ∷ []) who ≡ entry_of key xs who
found_push key [] x who apart = elim (cases_Bool (key x == who)) [
  | inl same ↦ absurd (apart (eqb-true (key x) who same))
  | inr other ↦ rw other refl
]
found_push key (y ∷ xs) x who apart = elim (cases_Bool (key y == who)) [
  | inl same ↦ rw same refl
  | inr other ↦ rw other (found_push key xs x who apart)
]

pub found_new : {X : Type 0} (key : X → ℕ) (xs : List X) (x : X) (who : ℕ) → key x ≡ who → entry_of key xs who ≡ None → entry_of key (xs ++ x ∷ []) who ≡ Some x
found_new key [] x who same none = let e : (key x == who) ≡ true = eq-eqb (key x) who same in rw e refl
found_new key (y ∷ xs) x who same none = elim (cases_Bool (key y == who)) [
  | inl here ↦ (let h : entry_of key (y ∷ xs) who ≡ Some y = rw here refl in let f : ⊥ = cc in absurd f)
  | inr other ↦ (let h : entry_of key xs who ≡ None = rw other at none in rw other (found_new key xs x who same h))
]

pub found_old : {X : Type 0} (key : X → ℕ) (xs : List X) (x y : X) (who : ℕ) → entry_of key xs who ≡ Some y → entry_of key (xs ++ x ∷ []) who ≡ Some y
found_old key [] x y who is = absurd (let f : ⊥ = cc in f)
found_old key (z ∷ xs) x y who is = elim (cases_Bool (key z == who)) [
  | inl here ↦ (let h : Some z ≡ Some y = rw here at is in rw here h)
  | inr other ↦ (let h : entry_of key xs who ≡ Some y = rw other at is in rw other (found_old key xs x y who h))
]

-- what is found without the items of p
pub found_but : {X : Type 0} (key : X → ℕ) (p : ℕ) (xs : List X) (who : ℕ) → who ≢ p → entry_of key (others key xs p) who ≡ entry_of key xs who
found_but key p [] who apart = refl
found_but key p (x ∷ xs) who apart = elim (cases_Bool (key x == p)) [
  | inl same ↦ (let all : others key (x ∷ xs) p ≡ others key xs p = rw same refl in
      let e : key x ≡ p = eqb-true (key x) p same in
      let no : (key x == who) ≡ false = elim (cases_Bool (key x == who)) [ inl is ↦ absurd (apart (sym (eqb-true (key x) who is) ∙ e)) | inr apart' ↦ apart' ] in
      ap (λ l. entry_of key l who) all ∙ rw no (found_but key p xs who apart))
  | inr other ↦ (let all : others key (x ∷ xs) p ≡ x ∷ others key xs p = rw other refl in
      ap (λ l. entry_of key l who) all ∙ ap (λ r. if key x == who then Some x else r) (found_but key p xs who apart))
]

pub found_gone : {X : Type 0} (key : X → ℕ) (p : ℕ) (xs : List X) → entry_of key (others key xs p) p ≡ None
found_gone key p [] = refl
found_gone key p (x ∷ xs) = elim (cases_Bool (key x == p)) [
  | inl same ↦ (let all : others key (x ∷ xs) p ≡ others key xs p = rw same refl in ap (λ l. entry_of key l p) all ∙ found_gone key p xs)
  | inr other ↦ (let all : others key (x ∷ xs) p ≡ x ∷ others key xs p = rw other refl in ap (λ l. entry_of key l p) all ∙ rw other (found_gone key p xs))
]

-- what is found has its key, and stands in the list
pub found_key : {X : Type 0} (key : X → ℕ) (xs : List X) (who : ℕ) (x : X) → entry_of key xs who ≡ Some x → key x ≡ who
found_key key [] who x is = absurd (let f : ⊥ = cc in f)
found_key key (y ∷ xs) who x is = elim (cases_Bool (key y == who)) [
  | inl here ↦ (let h : Some y ≡ Some x = rw here at is in let e : y ≡ x = cc in ap key (sym e) ∙ eqb-true (key y) who here)
  | inr other ↦ found_key key xs who x (rw other at is)
]

pub found_there : {X : Type 0} (key : X → ℕ) (xs : List X) (who : ℕ) (x : X) → entry_of key xs who ≡ Some x → (k : ℕ) × (slice_get xs k ≡ Some x)
found_there key [] who x is = absurd (let f : ⊥ = cc in f)
found_there key (y ∷ xs) who x is = elim (cases_Bool (key y == who)) [
  | inl here ↦ (let h : Some y ≡ Some x = rw here at is in (zero, h))
  | inr other ↦ (let rest = found_there key xs who x (rw other at is) in (suc rest.0, rest.1))
]

apart_by : {X : Type 0} (key : X → ℕ) (p : ℕ) (y x : X) → (key y == p) ≡ false → y ≡ x → key x ≢ p
apart_by key p y x other same is = let e : (key y == p) ≡ true = eq-eqb (key y) p (ap key same ∙ is) in let f : ⊥ = cc in f

in_but_cons : {X : Type 0} (key : X → ℕ) (p : ℕ) (y : X) (rest : List X) (k : ℕ) (x : X) → (key y == p) ≡ false → ((j : ℕ) → slice_get rest j ≡ Some x → key x ≢ p) → slice_get (y ∷ rest) k ≡ Some x → key x ≢ p
in_but_cons key p y rest zero x other before at = apart_by key p y x other (let e : y ≡ x = cc in e)
in_but_cons key p y rest (suc k) x other before at = before k at

-- an item that a list without those of p has isn't p's
pub in_but : {X : Type 0} (key : X → ℕ) (p : ℕ) (xs : List X) (k : ℕ) (x : X) → slice_get (others key xs p) k ≡ Some x → key x ≢ p
in_but key p [] k x at = absurd (let f : ⊥ = cc in f)
in_but key p (y ∷ xs) k x at = elim (cases_Bool (key y == p)) [
  | inl same ↦ (let all : others key (y ∷ xs) p ≡ others key xs p = rw same refl in in_but key p xs k x (ap (λ l. slice_get l k) (sym all) ∙ at))
  | inr other ↦ (let all : others key (y ∷ xs) p ≡ y ∷ others key xs p = rw other refl in
      in_but_cons key p y (others key xs p) k x other (λ j. in_but key p xs j x) (ap (λ l. slice_get l k) (sym all) ∙ at))
]

-- what the phases tell after one of them was written
told_elsewhere : {X : Type 0} (tell : ℕ → Phase → Option X) (phases : List Phase) (who i : ℕ) (new : Phase) → i ≢ who → option_and_then (tell i) (slice_get (slice_set phases who new) i) ≡ option_and_then (tell i) (slice_get phases i)
told_elsewhere tell phases who i new apart = ap (option_and_then (tell i)) (written_elsewhere phases who i new apart)

told_here : {X : Type 0} (tell : ℕ → Phase → Option X) (phases : List Phase) (who : ℕ) (old new : Phase) → slice_get phases who ≡ Some old → option_and_then (tell who) (slice_get (slice_set phases who new) who) ≡ tell who new
told_here tell phases who old new at = ap (option_and_then (tell who)) (written_here phases who new old at)

-- a phase that tells nothing came in place of one that told nothing
pub mirror_stay : {X : Type 0} (key : X → ℕ) (tell : ℕ → Phase → Option X) (xs : List X) (phases : List Phase) (who : ℕ) (old new : Phase) → slice_get phases who ≡ Some old → tell who old ≡ None → tell who new ≡ None → Mirrors key tell xs phases → Mirrors key tell xs (slice_set phases who new)
mirror_stay key tell xs phases who old new at was is h = record {
  each = λ i. elim (cases_Bool (i == who)) [
    | inl same ↦ (let e : i ≡ who = eqb-true i who same in rw e (h.each who ∙ ap (option_and_then (tell who)) at ∙ was ∙ sym is ∙ sym (told_here tell phases who old new at)))
    | inr other ↦ h.each i ∙ sym (told_elsewhere tell phases who i new (λ e. let t : (i == who) ≡ true = eq-eqb i who e in let f : ⊥ = cc in f))
  ];
  once = h.once;
}

-- the items of one whose phase tells nothing any more are gone
pub mirror_stop : {X : Type 0} (key : X → ℕ) (tell : ℕ → Phase → Option X) (xs : List X) (phases : List Phase) (who : ℕ) (old new : Phase) → slice_get phases who ≡ Some old → tell who new ≡ None → Mirrors key tell xs phases → Mirrors key tell (others key xs who) (slice_set phases who new)
mirror_stop {X} key tell xs phases who old new at is h = record {
  each = λ i. elim (cases_Bool (i == who)) [
    | inl same ↦ (let e : i ≡ who = eqb-true i who same in rw e (found_gone key who xs ∙ sym is ∙ sym (told_here tell phases who old new at)))
    | inr other ↦ (let apart : i ≢ who = λ e. (let t : (i == who) ≡ true = eq-eqb i who e in let f : ⊥ = cc in f) in
        found_but key who xs i apart ∙ h.each i ∙ sym (told_elsewhere tell phases who i new apart))
  ];
  once = λ k x at'. let there = in_filter (λ (y : X). not (key y == who)) xs k x at' in
      found_but key who xs (key x) (in_but key who xs k x at') ∙ h.once there.0 x there.1;
}

-- one more item, of one whose phase told nothing and tells it now
pub mirror_begin : {X : Type 0} (key : X → ℕ) (tell : ℕ → Phase → Option X) (xs : List X) (phases : List Phase) (who : ℕ) (old new : Phase) (x : X) → slice_get phases who ≡ Some old → tell who old ≡ None → tell who new ≡ Some x → key x ≡ who → Mirrors key tell xs phases → Mirrors key tell (xs ++ x ∷ []) (slice_set phases who new)
mirror_begin key tell xs phases who old new x at was is own h =
    let none : entry_of key xs who ≡ None = h.each who ∙ ap (option_and_then (tell who)) at ∙ was in
    record {
      each = λ i. elim (cases_Bool (i == who)) [
        | inl same ↦ (let e : i ≡ who = eqb-true i who same in rw e (found_new key xs x who own none ∙ sym is ∙ sym (told_here tell phases who old new at)))
        | inr other ↦ (let apart : i ≢ who = λ e. (let t : (i == who) ≡ true = eq-eqb i who e in let f : ⊥ = cc in f) in
            found_push key xs x i (λ e. apart (sym e ∙ own)) ∙ h.each i ∙ sym (told_elsewhere tell phases who i new apart))
      ];
      once = λ k y at'. elim (pushed_or_old xs k x y at') [
        | inl last ↦ (let e : y ≡ x = last.1 in rw e (found_new key xs x (key x) refl (ap (entry_of key xs) own ∙ none)))
        | inr old ↦ found_old key xs x y (key y) (h.once k y old)
      ];
    }

past_all : (phases : List Phase) → slice_get phases (length phases) ≡ None
past_all [] = refl
past_all (p ∷ phases) = past_all phases

pushed_at : (phases : List Phase) (new : Phase) → slice_get (phases ++ new ∷ []) (length phases) ≡ Some new
pushed_at [] new = refl
pushed_at (p ∷ phases) new = pushed_at phases new

pushed_apart : (phases : List Phase) (new : Phase) (i : ℕ) → i ≢ length phases → slice_get (phases ++ new ∷ []) i ≡ slice_get phases i
pushed_apart [] new zero apart = absurd (apart refl)
pushed_apart [] new (suc i) apart = refl
pushed_apart (p ∷ phases) new zero apart = refl
pushed_apart (p ∷ phases) new (suc i) apart = pushed_apart phases new i (λ e. apart (ap suc e))

-- one more phase, which tells nothing
pub mirror_more : {X : Type 0} (key : X → ℕ) (tell : ℕ → Phase → Option X) (xs : List X) (phases : List Phase) (new : Phase) → tell (length phases) new ≡ None → Mirrors key tell xs phases → Mirrors key tell xs (phases ++ new ∷ [])
mirror_more key tell xs phases new is h = record {
  each = λ i. elim (cases_Bool (i == length phases)) [
    | inl same ↦ (let e : i ≡ length phases = eqb-true i (length phases) same in rw e (h.each (length phases) ∙ ap (option_and_then (tell (length phases))) (past_all phases) ∙ sym is ∙ sym (ap (option_and_then (tell (length phases))) (pushed_at phases new))))
    | inr other ↦ (let apart : i ≢ length phases = λ e. (let t : (i == length phases) ≡ true = eq-eqb i (length phases) e in let f : ⊥ = cc in f) in
        h.each i ∙ sym (ap (option_and_then (tell i)) (pushed_apart phases new i apart)))
  ];
  once = h.once;
}

-- What is listed, as phases change.
apart_from : (i who : ℕ) → (who == i) ≡ false → i ≢ who
apart_from i who other same = let t : (who == i) ≡ true = eq-eqb who i (sym same) in let f : ⊥ = cc in f

module _ {X : Type 0} (tell : ℕ → Phase → Option X) (listed : ℕ → Option X) (phases : List Phase) where
  -- a phase that tells nothing came in place of one that told nothing
  pub told_stay : (who : ℕ) (old new : Phase) → slice_get phases who ≡ Some old → tell who old ≡ None → tell who new ≡ None → AreTold tell listed phases → AreTold tell listed (slice_set phases who new)
  told_stay who old new at was is h i = elim (cases_Bool (who == i)) [
    | inl same ↦ (let e : who ≡ i = eqb-true who i same in rw (← e) (h who ∙ ap (option_and_then (tell who)) at ∙ was ∙ sym is ∙ sym (told_here tell phases who old new at)))
    | inr other ↦ h i ∙ sym (told_elsewhere tell phases who i new (apart_from i who other))
  ]

  -- one whose phase tells this now is listed so
  pub told_begin : (listed' : ℕ → Option X) (who : ℕ) (old new : Phase) (x : X) → slice_get phases who ≡ Some old → tell who new ≡ Some x → ((i : ℕ) → listed' i ≡ (if who == i then Some x else listed i)) → AreTold tell listed phases → AreTold tell listed' (slice_set phases who new)
  told_begin listed' who old new x at is updates h i = elim (cases_Bool (who == i)) [
    | inl same ↦ (let e : who ≡ i = eqb-true who i same in updates i ∙ rw same (rw (← e) (sym is ∙ sym (told_here tell phases who old new at))))
    | inr other ↦ updates i ∙ rw other (h i ∙ sym (told_elsewhere tell phases who i new (apart_from i who other)))
  ]

  -- nothing is listed of one whose phase tells nothing any more
  pub told_stop : (listed' : ℕ → Option X) (who : ℕ) (old new : Phase) → slice_get phases who ≡ Some old → tell who new ≡ None → ((i : ℕ) → listed' i ≡ (if who == i then None else listed i)) → AreTold tell listed phases → AreTold tell listed' (slice_set phases who new)
  told_stop listed' who old new at is updates h i = elim (cases_Bool (who == i)) [
    | inl same ↦ (let e : who ≡ i = eqb-true who i same in updates i ∙ rw same (rw (← e) (sym is ∙ sym (told_here tell phases who old new at))))
    | inr other ↦ updates i ∙ rw other (h i ∙ sym (told_elsewhere tell phases who i new (apart_from i who other)))
  ]

  -- one more phase, which tells nothing
  pub told_more : (new : Phase) → tell (length phases) new ≡ None → AreTold tell listed phases → AreTold tell listed (phases ++ new ∷ [])
  told_more new is h i = elim (cases_Bool (i == length phases)) [
    | inl same ↦ (let e : i ≡ length phases = eqb-true i (length phases) same in rw e (h (length phases) ∙ ap (option_and_then (tell (length phases))) (past_all phases) ∙ sym is ∙ sym (ap (option_and_then (tell (length phases))) (pushed_at phases new))))
    | inr other ↦ (let apart : i ≢ length phases = λ e. (let t : (i == length phases) ≡ true = eq-eqb i (length phases) e in let f : ⊥ = cc in f) in
        h i ∙ sym (ap (option_and_then (tell i)) (pushed_apart phases new i apart)))
  ]

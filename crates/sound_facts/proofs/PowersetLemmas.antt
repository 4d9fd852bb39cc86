-- The powersets of a value, part by part, and what its layout asks.
use Rattle.std.proofs.Common.{◌≡◌, ◌⊎◌, inl, inr, ◌+◌, ℕ, zero, suc, ◌<◌, ◌≤◌, Bool, true, false, List, [], ◌∷◌, ◌++◌, ℤ, pos, length, get_or, refl, sym, ap, ◌∙◌, subst, arith}
use Rattle.std.specs.Prelude.{All, AllPairs, slice_get, IsTrue, ◌↔◌}
use Rattle.chill_base.specs.declared.layout.Bits.{Bits}
use Rattle.std.specs.List.{flat_map}
use Rattle.std.proofs.lemmas.Bool.{cases_lt}
use Rattle.std.proofs.lemmas.List.{get_or_default}
use Rattle.std.proofs.lemmas.List.Elements.{All-nil, All-cons, All-head, All-tail, All-from_get_or}
use Rattle.std.proofs.lemmas.Option.{slice_get-get_or, slice_get_within}
use Rattle.std.proofs.lemmas.List.Folds.{flat_map-map}
use Rattle.kernel_base.specs.declared.value.Value.{Value, fold-Value, fold-roll-Value}
use Rattle.kernel_base.specs.declared.value.Value.TheOpen as layer
use Rattle.kernel_base.specs.declared.value.Value.TheVariants as made
use Rattle.kernel_base.specs.Value.{scalars_of, powersets_in, powersets_of}
use Rattle.kernel_base.specs.Facts.{IsPowerset, IsInWord, IsWithinBits, ShareNoBit, IsLaidOut}
use Rattle.sound_facts.specs.Layouts.{FitLayout}
use Rattle.sound_facts.specs.Powersets.{HasPowersets}

pub refuted : {P : Type 0} → (P → ⊥) → IsTrue false ↔ P
refuted fails = (λ is. absurd (let f : ⊥ = cc in f), λ p. absurd (fails p))

pub granted : {P : Type 0} → P → IsTrue true ↔ P
granted p = (λ is. p, λ given. refl)

powersets_of-Number : (number : ℤ) → powersets_of (made.Number number) ≡ []
unfolding powersets_of
powersets_of-Number number = ap (fold-Value (List (ℕ × List ℕ)) powersets_in) (sym (made.rolls-Number number)) ∙ fold-roll-Value (List (ℕ × List ℕ)) powersets_in (layer.Number number)

powersets_of-Members : (size : ℕ) (offsets : List ℕ) → powersets_of (made.Members size offsets) ≡ (size, offsets) ∷ []
unfolding powersets_of
powersets_of-Members size offsets = ap (fold-Value (List (ℕ × List ℕ)) powersets_in) (sym (made.rolls-Members size offsets)) ∙ fold-roll-Value (List (ℕ × List ℕ)) powersets_in (layer.Members size offsets)

powersets_of-Parts : (parts : List Value) → powersets_of (made.Parts parts) ≡ flat_map powersets_of parts
unfolding powersets_of
powersets_of-Parts parts =
    ap (fold-Value (List (ℕ × List ℕ)) powersets_in) (sym (made.rolls-Parts parts)) ∙ fold-roll-Value (List (ℕ × List ℕ)) powersets_in (layer.Parts parts)
    ∙ flat_map-map (λ xs. xs) (fold-Value (List (ℕ × List ℕ)) powersets_in) parts

pub number_has : (value : Value) (number : ℤ) → value ≡ made.Number number → HasPowersets value
number_has value number is = subst (All IsPowerset) (sym (ap powersets_of is ∙ powersets_of-Number number)) (All-nil IsPowerset)

-- a powerset is the only one in it
pub members_have : (value : Value) (size : ℕ) (offsets seen : List ℕ) (tells : Bool) → value ≡ made.Members size offsets → seen ≡ offsets → IsTrue tells ↔ IsPowerset (size, seen) → IsTrue tells ↔ HasPowersets value
members_have value size offsets seen tells is same tested =
    let only : powersets_of value ≡ (size, seen) ∷ [] = ap powersets_of is ∙ powersets_of-Members size offsets ∙ ap (λ (xs : List ℕ). (size, xs) ∷ []) (sym same) in (
      λ t. subst (All IsPowerset) (sym only) (All-cons IsPowerset (size, seen) [] (tested.0 t) (All-nil IsPowerset)),
      λ has. tested.1 (All-head IsPowerset (size, seen) [] (subst (All IsPowerset) only has)),
    )

all_joined : {X : Type 0} (P : X → Type 0) (xs ys : List X) → All P xs → All P ys → All P (xs ++ ys)
all_joined P [] ys all more = more
all_joined P (x ∷ xs) ys all more = All-cons P x (xs ++ ys) (All-head P x xs all) (all_joined P xs ys (All-tail P x xs all) more)

all_front : {X : Type 0} (P : X → Type 0) (xs ys : List X) → All P (xs ++ ys) → All P xs
all_front P [] ys all = All-nil P
all_front P (x ∷ xs) ys all = All-cons P x xs (All-head P x (xs ++ ys) all) (all_front P xs ys (All-tail P x (xs ++ ys) all))

all_behind : {X : Type 0} (P : X → Type 0) (xs ys : List X) → All P (xs ++ ys) → All P ys
all_behind P [] ys all = all
all_behind P (x ∷ xs) ys all = all_behind P xs ys (All-tail P x (xs ++ ys) all)

by_place : (parts : List Value) → ((i : ℕ) (d : Value) → i < length parts → HasPowersets (get_or parts i d)) → All IsPowerset (flat_map powersets_of parts)
by_place [] each = All-nil IsPowerset
by_place (part ∷ parts) each =
    all_joined IsPowerset (powersets_of part) (flat_map powersets_of parts) (each 0 part (omega arith)) (by_place parts (λ i d low. each (suc i) d (omega arith)))

more_by : (items : List Value) (i n : ℕ) (d part : Value) → ((k : ℕ) (e : Value) → k < n → HasPowersets (get_or items k e)) → HasPowersets part → n < length items → part ≡ get_or items n part → (i < n) ⊎ (n ≤ i) → i < n + 1 → HasPowersets (get_or items i d)
more_by items i n d part each here low is (inl less) below = each i d less
more_by items i n d part each here low is (inr same) below =
    let at : n ≡ i = omega arith in
    let there : part ≡ get_or items i d = is ∙ get_or_default items n part d low ∙ ap (λ (k : ℕ). get_or items k d) at in
    subst HasPowersets there here

-- one part more of those that a loop has gone through
pub part_more : (items : List Value) (n : ℕ) (part : Value) → ((k : ℕ) (e : Value) → k < n → HasPowersets (get_or items k e)) → HasPowersets part → n < length items → part ≡ get_or items n part → (i : ℕ) (d : Value) → i < n + 1 → HasPowersets (get_or items i d)
part_more items n part each here low is i d below = more_by items i n d part each here low is (cases_lt i n) below

-- the parts that a loop has gone through are all
pub parts_have : (value : Value) (parts items : List Value) (count : ℕ) → value ≡ made.Parts parts → items ≡ parts → length items ≤ count
    → ((i : ℕ) (d : Value) → i < count → HasPowersets (get_or items i d)) → HasPowersets value
parts_have value parts items count is same low each =
    let all : All IsPowerset (flat_map powersets_of items) = by_place items (λ i d below. each i d (omega arith)) in
    let made_of : HasPowersets (made.Parts items) = subst (All IsPowerset) (sym (powersets_of-Parts items)) all in
    subst HasPowersets (ap made.Parts same ∙ sym is) made_of

at_place : (parts : List Value) (i : ℕ) (d : Value) → All IsPowerset (flat_map powersets_of parts) → i < length parts → HasPowersets (get_or parts i d)
at_place [] i d all low = absurd (let no : ⊥ = omega arith in no)
at_place (part ∷ parts) zero d all low = all_front IsPowerset (powersets_of part) (flat_map powersets_of parts) all
at_place (part ∷ parts) (suc i) d all low = at_place parts i d (all_behind IsPowerset (powersets_of part) (flat_map powersets_of parts) all) (omega arith)

-- the part that a loop over the parts has come to
pub part_has : (value : Value) (parts items : List Value) (i : ℕ) (part : Value) → HasPowersets value → value ≡ made.Parts parts → items ≡ parts → i < length items → part ≡ get_or items i part → HasPowersets part
part_has value parts items i part has is same low here =
    let of_parts : HasPowersets (made.Parts items) = subst HasPowersets (is ∙ ap made.Parts (sym same)) has in
    let there : HasPowersets (get_or items i part) = at_place items i part (subst (All IsPowerset) (powersets_of-Parts items) of_parts) low in
    subst HasPowersets (sym here) there

no_bits : Bits
no_bits = record { word = 0; start = 0; end = 0; signed = false }

in_words : (scalars : List ℤ) (layout : List Bits) → FitLayout scalars layout → All IsInWord layout
in_words scalars layout fit = All-from_get_or IsInWord layout no_bits (λ i low.
    let low' : i < length scalars = omega (arith, fit.count) in
    let within : IsWithinBits (get_or layout i no_bits) (get_or scalars i (pos 0)) =
    fit.within i low (get_or layout i no_bits) (get_or scalars i (pos 0)) (slice_get-get_or layout i no_bits low) (slice_get-get_or scalars i (pos 0) low') in
    within.in_word)

-- a value and a layout of which all is tested
pub laid_out : (value : Value) (scalars : List ℤ) (layout : List Bits) → scalars ≡ scalars_of value → HasPowersets value → AllPairs ShareNoBit layout → FitLayout scalars layout → IsLaidOut value layout
laid_out value scalars layout same powersets apart fit = record {
  count = ap length (sym same) ∙ fit.count;
  in_words = in_words scalars layout fit;
  apart = apart;
  within = λ k bits number got got'. fit.within k (slice_get_within layout k bits got) bits number got (ap (λ (xs : List ℤ). slice_get xs k) same ∙ got');
  powersets = powersets;
}

-- the scalars of a value fit its layout
pub fits : (value : Value) (scalars : List ℤ) (layout : List Bits) → scalars ≡ scalars_of value → IsLaidOut value layout → FitLayout scalars layout
fits value scalars layout same laid = record {
  count = ap length same ∙ laid.count;
  within = λ k low bits number got got'. laid.within k bits number got (ap (λ (xs : List ℤ). slice_get xs k) (sym same) ∙ got');
}

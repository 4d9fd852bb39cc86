-- The members of a value's powersets, part by part, and the next number of a powerset.
use Rattle.std.proofs.Common.{◌≡◌, ℕ, zero, suc, ◌+◌, ◌-◌, ◌<◌, ◌≤◌, List, [], ◌∷◌, ◌++◌, ℤ, pos, length, get_or, take, sym, ap, ◌∙◌, subst, arith, add-one, append_assoc}
use Rattle.std.specs.Prelude.{All}
use Rattle.std.specs.List.{flat_map}
use Rattle.std.proofs.lemmas.Grind.{common_steps}
use Rattle.std.proofs.lemmas.List.Elements.{All-nil, All-cons, All-head, All-tail}
use Rattle.std.proofs.lemmas.List.Folds.{flat_map-map}
use Rattle.kernel_base.specs.declared.value.Value.{Value, fold-Value, fold-roll-Value}
use Rattle.kernel_base.specs.declared.value.Value.TheOpen as layer
use Rattle.kernel_base.specs.declared.value.Value.TheVariants as made
use Rattle.kernel_base.specs.Value.{scalars_of, powersets_in, powersets_of, numbers_from, number_of, count_of_numbers}
use Rattle.kernel_base.proofs.Layers.{scalars_of-Number, scalars_of-Members, scalars_of-Parts}
use Rattle.world_check.specs.Opening.{HasFewMembers, HasFewMembersEach}

powersets_of-Members : (size : ℕ) (offsets : List ℕ) → powersets_of (made.Members size offsets) ≡ (size, offsets) ∷ []
unfolding powersets_of
powersets_of-Members size offsets = ap (fold-Value (List (ℕ × List ℕ)) powersets_in) (sym (made.rolls-Members size offsets)) ∙ fold-roll-Value (List (ℕ × List ℕ)) powersets_in (layer.Members size offsets)

powersets_of-Parts : (parts : List Value) → powersets_of (made.Parts parts) ≡ flat_map powersets_of parts
unfolding powersets_of
powersets_of-Parts parts =
    ap (fold-Value (List (ℕ × List ℕ)) powersets_in) (sym (made.rolls-Parts parts)) ∙ fold-roll-Value (List (ℕ × List ℕ)) powersets_in (layer.Parts parts)
    ∙ flat_map-map (λ xs. xs) (fold-Value (List (ℕ × List ℕ)) powersets_in) parts

pub few_members : (size : ℕ) (offsets : List ℕ) → HasFewMembersEach (made.Members size offsets) → length offsets ≤ size
few_members size offsets few = All-head HasFewMembers (size, offsets) [] (subst (All HasFewMembers) (powersets_of-Members size offsets) few)

all_front : {X : Type 0} (P : X → Type 0) (xs ys : List X) → All P (xs ++ ys) → All P xs
all_front P [] ys all = All-nil P
all_front P (x ∷ xs) ys all = All-cons P x xs (All-head P x (xs ++ ys) all) (all_front P xs ys (All-tail P x (xs ++ ys) all))

all_behind : {X : Type 0} (P : X → Type 0) (xs ys : List X) → All P (xs ++ ys) → All P ys
all_behind P [] ys all = all
all_behind P (x ∷ xs) ys all = all_behind P xs ys (All-tail P x (xs ++ ys) all)

few_at : (parts : List Value) (i : ℕ) (d : Value) → All HasFewMembers (flat_map powersets_of parts) → i < length parts → HasFewMembersEach (get_or parts i d)
few_at [] i d few low = absurd (let no : ⊥ = omega arith in no)
few_at (part ∷ parts) zero d few low = all_front HasFewMembers (powersets_of part) (flat_map powersets_of parts) few
few_at (part ∷ parts) (suc i) d few low = few_at parts i d (all_behind HasFewMembers (powersets_of part) (flat_map powersets_of parts) few) (omega arith)

pub few_of_part : (parts : List Value) (i : ℕ) (d : Value) → HasFewMembersEach (made.Parts parts) → i < length parts → HasFewMembersEach (get_or parts i d)
few_of_part parts i d few low = few_at parts i d (subst (All HasFewMembers) (powersets_of-Parts parts) few) low

pub next_number : (before : List ℤ) (offsets : List ℕ) (j count : ℕ) → j < count → (before ++ pos (number_of offsets j) ∷ []) ++ numbers_from offsets (j + 1) (count - (j + 1)) ≡ before ++ numbers_from offsets j (count - j)
next_number before offsets j count low =
    let left : count - j ≡ suc (count - (j + 1)) = omega arith in
    let next : pos (number_of offsets j) ∷ numbers_from offsets (j + 1) (count - (j + 1)) ≡ numbers_from offsets j (count - j) =
    ap (λ (n : ℕ). pos (number_of offsets j) ∷ numbers_from offsets n (count - (j + 1))) (add-one j) ∙ sym (ap (λ (n : ℕ). numbers_from offsets j n) left) in
    append_assoc before (pos (number_of offsets j) ∷ []) (numbers_from offsets (j + 1) (count - (j + 1))) ∙ ap (λ (xs : List ℤ). before ++ xs) next

-- the part that a loop over the parts has come to
pub few_here : (value : Value) (parts items : List Value) (i : ℕ) (part : Value) → HasFewMembersEach value → value ≡ made.Parts parts → items ≡ parts → i < length items → part ≡ get_or items i part → HasFewMembersEach part
few_here value parts items i part few is same low here =
    let there : HasFewMembersEach (get_or items i part) = few_of_part items i part (subst HasFewMembersEach (is ∙ ap made.Parts (sym same)) few) low in
    subst HasFewMembersEach (sym here) there

pub one_scalar : (value : Value) (number : ℤ) → value ≡ made.Number number → number ∷ [] ≡ scalars_of value
one_scalar value number is = sym (ap scalars_of is ∙ scalars_of-Number number)

pub numbers_here : (value : Value) (size : ℕ) (offsets members : List ℕ) (scalars : List ℤ) → value ≡ made.Members size offsets → members ≡ offsets → scalars ≡ numbers_from members 0 (count_of_numbers size) → scalars ≡ scalars_of value
numbers_here value size offsets members scalars is same numbers =
    numbers ∙ ap (λ (xs : List ℕ). numbers_from xs 0 (count_of_numbers size)) same ∙ sym (ap scalars_of is ∙ scalars_of-Members size offsets)

pub no_such_members : (value : Value) (size : ℕ) (offsets members : List ℕ) (scalars : List ℤ) → value ≡ made.Members size offsets → members ≡ offsets → size < length members → HasFewMembersEach value → scalars ≡ scalars_of value
no_such_members value size offsets members scalars is same many few =
    let low : length offsets ≤ size = few_members size offsets (subst HasFewMembersEach is few) in
    let lengths : length members ≡ length offsets = ap length same in
    absurd (let no : ⊥ = omega arith in no)

pub parts_here : (value : Value) (parts items : List Value) (scalars : List ℤ) → value ≡ made.Parts parts → items ≡ parts → scalars ≡ flat_map scalars_of items → scalars ≡ scalars_of value
parts_here value parts items scalars is same all = all ∙ ap (λ (vs : List Value). flat_map scalars_of vs) same ∙ sym (ap scalars_of is ∙ scalars_of-Parts parts)

pub parts_more : (items : List Value) (i : ℕ) (part : Value) (all scalars more : List ℤ) → i < length items → part ≡ get_or items i part → all ≡ flat_map scalars_of (take i items) → scalars ≡ scalars_of part → more ≡ all ++ scalars → more ≡ flat_map scalars_of (take (i + 1) items)
parts_more items i part all scalars more low here before is appended = grind (arith, common_steps)

powersets_of-Number : (number : ℤ) → powersets_of (made.Number number) ≡ []
unfolding powersets_of
powersets_of-Number number = ap (fold-Value (List (ℕ × List ℕ)) powersets_in) (sym (made.rolls-Number number)) ∙ fold-roll-Value (List (ℕ × List ℕ)) powersets_in (layer.Number number)

pub few_of_number : (number : ℤ) → HasFewMembersEach (made.Number number)
few_of_number number = subst (All HasFewMembers) (sym (powersets_of-Number number)) (All-nil HasFewMembers)

pub few_of_members : (size : ℕ) (offsets : List ℕ) → length offsets ≤ size → HasFewMembersEach (made.Members size offsets)
few_of_members size offsets low = subst (All HasFewMembers) (sym (powersets_of-Members size offsets)) (All-cons HasFewMembers (size, offsets) [] low (All-nil HasFewMembers))

all_joined : {X : Type 0} (P : X → Type 0) (xs ys : List X) → All P xs → All P ys → All P (xs ++ ys)
all_joined P [] ys all more = more
all_joined P (x ∷ xs) ys all more = All-cons P x (xs ++ ys) (All-head P x xs all) (all_joined P xs ys (All-tail P x xs all) more)

few_by_place : (parts : List Value) → ((i : ℕ) (d : Value) → i < length parts → HasFewMembersEach (get_or parts i d)) → All HasFewMembers (flat_map powersets_of parts)
few_by_place [] each = All-nil HasFewMembers
few_by_place (part ∷ parts) each =
    all_joined HasFewMembers (powersets_of part) (flat_map powersets_of parts) (each 0 part (omega arith)) (few_by_place parts (λ i d low. each (suc i) d (omega arith)))

-- the parts that a loop has gone through are all
pub few_of_parts : (value : Value) (parts items : List Value) (count : ℕ) → value ≡ made.Parts parts → items ≡ parts → length items ≤ count
    → ((i : ℕ) (d : Value) → i < count → HasFewMembersEach (get_or items i d)) → HasFewMembersEach value
few_of_parts value parts items count is same low each =
    let all : All HasFewMembers (flat_map powersets_of items) = few_by_place items (λ i d below. each i d (omega arith)) in
    let made_of : HasFewMembersEach (made.Parts items) = subst (All HasFewMembers) (sym (powersets_of-Parts items)) all in
    subst HasFewMembersEach (ap made.Parts same ∙ sym is) made_of

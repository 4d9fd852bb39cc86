-- The members from one number to another, as the numbers of a powerset tell them.
use Rattle.std.proofs.Common.{◌≡◌, ℕ, zero, suc, ◌+◌, ◌-◌, ◌*◌, ◌^◌, ◌<◌, ◌≤◌, ◌+ℤ◌, ◌-ℤ◌, ◌≤ℤ◌, ◌<ℤ◌, Bool, true, false, List, [], ◌∷◌, ◌++◌, ℤ, pos, negsuc, int_le, length, take, drop, inl, inr, refl, ap, sym, ◌∙◌, arith}
use Rattle.std.specs.Prelude.{◌&&◌, ◌||◌, min, sum_by, if◌then◌else◌}
use Rattle.std.specs.List.{list_any}
use Rattle.std.specs.Int.{w64, saturate_signed}
use Rattle.std.proofs.Math.Nat.{pow-suc}
use Rattle.std.proofs.lemmas.Bool.{cases_lt}
use Rattle.std.proofs.lemmas.Int.{ints}
use Rattle.std.proofs.lemmas.List.Folds.{list_any-append}
use Rattle.std.proofs.lemmas.List.Sums.{sum_by-cons}
use Rattle.chill_tree.specs.declared.tree.expr.Operator.TheVariants as ops
use Rattle.modes.specs.declared.mode.Bounds.{Bounds}
use Rattle.modes.specs.Scalars.{numbers_of}
use Rattle.modes.specs.Bounds.{natural_of, count_between}
use Rattle.scalar_operators.specs.Powersets.{numbers_up, powerset_where, span_of}
use Rattle.scalar_operators.specs.Members.{no_members, span_in, union_of}
use Rattle.checks_model.specs.ValueTrees.{ValueTree, number, members, scalars_in, bits_of, numbers_from}
use Rattle.checks_model.specs.OperatorValues.{zipped, logic, member_at}
use Rattle.checks_model.specs.Constants.{lies_between, members_from}
use Rattle.member_laws.specs.Bits.{UnionLaw}
use Rattle.constant_rules.specs.Parts.{offset_from}

-- a list whose head and rest are the same
same_list : {x y : ℤ} {xs ys : List ℤ} → x ≡ y → xs ≡ ys → x ∷ xs ≡ y ∷ ys
same_list first rest = λ i. first i ∷ rest i

-- ---- the number whose bits tell of members

abbrev worth : (ℕ → Bool) → ℕ → ℕ
worth test k = if test k then 2 ^ k else 0

one_worth : (b : Bool) (p m : ℕ) → (if b then p else 0) + p * 2 * m ≡ p * ((if b then 1 else 0) + 2 * m)
one_worth true p m = omega arith
one_worth false p m = omega arith

sum_of_members : (test : ℕ → Bool) (xs : List Bool) (count k : ℕ) → length xs ≤ count → ((j : ℕ) → j < count → test (k + j) ≡ member_at j xs) → sum_by (worth test) (numbers_up k count) ≡ 2 ^ k * bits_of xs
sum_of_members test [] zero k long same = omega arith
sum_of_members test (x ∷ xs) zero k long same = absurd (omega (arith, long))
sum_of_members test [] (suc count) k long same =
    let here : test k ≡ false = (let at : k + 0 ≡ k = omega arith in ap test (sym at)) ∙ same 0 (omega arith) in
    let none : worth test k ≡ 0 = ap (λ (b : Bool). if b then 2 ^ k else 0) here in
    let rest = sum_of_members test [] count (suc k) (omega arith) (λ j less. (let at : suc k + j ≡ k + suc j = omega arith in ap test at) ∙ same (suc j) (omega (arith, less))) in
    let first = sum_by-cons (worth test) k (numbers_up (suc k) count) in
    omega (arith, none, rest, first)
sum_of_members test (x ∷ xs) (suc count) k long same =
    let here : test k ≡ x = (let at : k + 0 ≡ k = omega arith in ap test (sym at)) ∙ same 0 (omega arith) in
    let own : worth test k ≡ (if x then 2 ^ k else 0) = ap (λ (b : Bool). if b then 2 ^ k else 0) here in
    let rest = sum_of_members test xs count (suc k) (omega (arith, long)) (λ j less. (let at : suc k + j ≡ k + suc j = omega arith in ap test at) ∙ same (suc j) (omega (arith, less))) in
    let higher : 2 ^ suc k * bits_of xs ≡ 2 ^ k * 2 * bits_of xs = ap (λ n. n * bits_of xs) (pow-suc 2 k) in
    let first = sum_by-cons (worth test) k (numbers_up (suc k) count) in
    let whole = one_worth x (2 ^ k) (bits_of xs) in
    omega (arith, own, rest, higher, first, whole)

of_members : (test : ℕ → Bool) (xs : List Bool) → length xs ≤ 32 → ((j : ℕ) → j < 32 → test j ≡ member_at j xs) → powerset_where test ≡ pos (bits_of xs)
of_members test xs long same = ap pos (let sum = sum_of_members test xs 32 0 long (λ j less. (let at : 0 + j ≡ j = omega arith in ap test at) ∙ same j less) in omega (arith, sum))

-- ---- members of ranges, from a number on

abbrev Ranges : Type 0
Ranges = List (ValueTree × ValueTree)

pub count_members : (rs : Ranges) (c : ℕ) (n : ℤ) → length (members_from rs c n) ≡ c
count_members rs zero n = refl
count_members rs (suc c) n = ap suc (count_members rs c (n +ℤ pos 1))

next_number : (n : ℤ) (k : ℕ) → n +ℤ pos 1 +ℤ pos k ≡ n +ℤ pos (suc k)
next_number n k = omega (arith, ints)

same_number : (n : ℤ) → n +ℤ pos 0 ≡ n
same_number n = omega (arith, ints)

take_members : (rs : Ranges) (k c : ℕ) (n : ℤ) → take k (members_from rs c n) ≡ members_from rs (min k c) n
take_members rs zero c n = (let none : min 0 c ≡ 0 = omega arith in ap (λ (j : ℕ). members_from rs j n) (sym none))
take_members rs (suc k) zero n = (let none : min (suc k) 0 ≡ 0 = omega arith in ap (λ (j : ℕ). members_from rs j n) (sym none))
take_members rs (suc k) (suc c) n = ap (λ (bs : List Bool). list_any (lies_between n) rs ∷ bs) (take_members rs k c (n +ℤ pos 1))
    ∙ (let more : suc (min k c) ≡ min (suc k) (suc c) = omega arith in ap (λ (j : ℕ). members_from rs j n) more)

drop_members : (rs : Ranges) (k c : ℕ) (n : ℤ) → drop k (members_from rs c n) ≡ members_from rs (c - k) (n +ℤ pos k)
drop_members rs zero c n = (let all : c ≡ c - 0 = omega arith in ap (λ (j : ℕ). members_from rs j n) all) ∙ ap (λ (z : ℤ). members_from rs (c - 0) z) (sym (same_number n))
drop_members rs (suc k) zero n = (let none : 0 - suc k ≡ 0 = omega arith in ap (λ (j : ℕ). members_from rs j (n +ℤ pos (suc k))) (sym none))
drop_members rs (suc k) (suc c) n = drop_members rs k c (n +ℤ pos 1) ∙ ap (λ (z : ℤ). members_from rs (c - k) z) (next_number n k)
    ∙ (let same : c - k ≡ suc c - suc k = omega arith in ap (λ (j : ℕ). members_from rs j (n +ℤ pos (suc k))) same)

member_past : (rs : Ranges) (c j : ℕ) (n : ℤ) → c ≤ j → member_at j (members_from rs c n) ≡ false
member_past rs zero j n past = refl
member_past rs (suc c) zero n past = absurd (omega (arith, past))
member_past rs (suc c) (suc j) n past = member_past rs c j (n +ℤ pos 1) (omega (arith, past))

or_false : (b : Bool) → (b || false) ≡ b
or_false true = refl
or_false false = refl

member_between : (l h n : ℤ) (c j : ℕ) → j < c → member_at j (members_from ((number l, number h) ∷ []) c n) ≡ (int_le l (n +ℤ pos j) && int_le (n +ℤ pos j) h)
member_between l h n zero j less = absurd (omega (arith, less))
member_between l h n (suc c) zero less = or_false (int_le l n && int_le n h) ∙ ap (λ (z : ℤ). int_le l z && int_le z h) (sym (same_number n))
member_between l h n (suc c) (suc j) less = member_between l h (n +ℤ pos 1) c j (omega (arith, less)) ∙ ap (λ (z : ℤ). int_le l z && int_le z h) (next_number n j)

-- ---- one range, number by number

from_offset : (l n : ℤ) (j : ℕ) → int_le (l -ℤ n) (pos j) ≡ int_le l (n +ℤ pos j)
from_offset l n j = grind (arith, ints)

to_offset : (h n : ℤ) (j : ℕ) → int_le (pos j) (h -ℤ n) ≡ int_le (n +ℤ pos j) h
to_offset h n j = grind (arith, ints)

beyond : (h n : ℤ) (c j : ℕ) → h <ℤ (n +ℤ pos c) → c ≤ j → int_le (n +ℤ pos j) h ≡ false
beyond h n c j below past = grind (arith, ints, below, past)

and_false : (b : Bool) → (b && false) ≡ false
and_false true = refl
and_false false = refl

span_number : (l h n : ℤ) (c : ℕ) → h <ℤ (n +ℤ pos c) → span_of (l -ℤ n) (h -ℤ n) ≡ pos (bits_of (members_from ((number l, number h) ∷ []) (min 32 c) n))
span_number l h n c below = of_members (λ k. int_le (l -ℤ n) (pos k) && int_le (pos k) (h -ℤ n)) (members_from ((number l, number h) ∷ []) (min 32 c) n)
    (let count = count_members ((number l, number h) ∷ []) (min 32 c) n in omega (arith, count))
    (λ j less. (λ i. from_offset l n j i && to_offset h n j i) ∙ elim (cases_lt j c) [
      | inl few ↦ sym (member_between l h n (min 32 c) j (omega (arith, few, less)))
      | inr past ↦ ap (λ (b : Bool). int_le l (n +ℤ pos j) && b) (beyond h n c j below past) ∙ and_false (int_le l (n +ℤ pos j)) ∙ sym (member_past ((number l, number h) ∷ []) (min 32 c) j n (omega (arith, past)))
    ])

lower : (a n : ℤ) → a -ℤ n -ℤ pos 32 ≡ a -ℤ (n +ℤ pos 32)
lower a n = omega (arith, ints)

still_below : (h n : ℤ) (c : ℕ) → h <ℤ (n +ℤ pos c) → h <ℤ (n +ℤ pos 32 +ℤ pos (c - 32))
still_below h n c below = omega (arith, ints, below)

span_numbers : (l h n : ℤ) (k c : ℕ) → h <ℤ (n +ℤ pos c) → span_in k (l -ℤ n) (h -ℤ n) ≡ numbers_from k (members_from ((number l, number h) ∷ []) c n)
span_numbers l h n zero c below = refl
span_numbers l h n (suc k) c below = same_list
    (span_number l h n c below ∙ ap (λ (bs : List Bool). pos (bits_of bs)) (sym (take_members ((number l, number h) ∷ []) 32 c n)))
    ((λ i. span_in k (lower l n i) (lower h n i)) ∙ span_numbers l h (n +ℤ pos 32) k (c - 32) (still_below h n c below)
    ∙ ap (numbers_from k) (sym (drop_members ((number l, number h) ∷ []) 32 c n)))

-- ---- a range more

numbers_long : (k : ℕ) (bs : List Bool) → length (numbers_from k bs) ≡ k
numbers_long zero bs = refl
numbers_long (suc k) bs = ap suc (numbers_long k (drop 32 bs))

more_members : (rs : Ranges) (r : ValueTree × ValueTree) (c : ℕ) (n : ℤ) → zipped (logic ops.Or) (members_from rs c n) (members_from (r ∷ []) c n) ≡ members_from (rs ++ r ∷ []) c n
more_members rs r zero n = refl
more_members rs r (suc c) n = λ i. sym (list_any-append (lies_between n) rs (r ∷ [])) i ∷ more_members rs r c (n +ℤ pos 1) i

-- the members of ranges, as numbers
abbrev pub flat_of : Ranges → ℕ → ℤ → List ℤ
flat_of rs c n = scalars_in (members (members_from rs c n))

flat_long : (rs : Ranges) (c : ℕ) (n : ℤ) → length (flat_of rs c n) ≡ numbers_of c
flat_long rs c n = numbers_long (numbers_of (length (members_from rs c n))) (members_from rs c n) ∙ ap numbers_of (count_members rs c n)

flat_span : (l h n : ℤ) (c : ℕ) → h <ℤ (n +ℤ pos c) → span_in (numbers_of c) (l -ℤ n) (h -ℤ n) ≡ flat_of ((number l, number h) ∷ []) c n
flat_span l h n c below = span_numbers l h n (numbers_of c) c below ∙ ap (λ (k : ℕ). numbers_from (numbers_of k) (members_from ((number l, number h) ∷ []) c n)) (sym (count_members ((number l, number h) ∷ []) c n))

pub span_more : (law : UnionLaw) (rs : Ranges) (l h n : ℤ) (c : ℕ) → h <ℤ (n +ℤ pos c)
    → union_of (flat_of rs c n) (span_in (length (flat_of rs c n)) (l -ℤ n) (h -ℤ n)) ≡ flat_of (rs ++ (number l, number h) ∷ []) c n
span_more law rs l h n c below =
    ap (λ (k : ℕ). union_of (flat_of rs c n) (span_in k (l -ℤ n) (h -ℤ n))) (flat_long rs c n)
    ∙ ap (union_of (flat_of rs c n)) (flat_span l h n c below)
    ∙ sym (law (members_from rs c n) (members_from ((number l, number h) ∷ []) c n) (count_members rs c n ∙ sym (count_members ((number l, number h) ∷ []) c n)))
    ∙ ap (λ (bs : List Bool). scalars_in (members bs)) (more_members rs (number l, number h) c n)

-- ---- no range yet

no_bits : (c : ℕ) (n : ℤ) → bits_of (members_from [] c n) ≡ 0
no_bits zero n = refl
no_bits (suc c) n = let rest = no_bits c (n +ℤ pos 1) in omega (arith, rest)

no_numbers : (k c : ℕ) (n : ℤ) → no_members k ≡ numbers_from k (members_from [] c n)
no_numbers zero c n = refl
no_numbers (suc k) c n = same_list
    (ap pos (sym (ap bits_of (take_members [] 32 c n) ∙ no_bits (min 32 c) n)))
    (no_numbers k (c - 32) (n +ℤ pos 32) ∙ ap (numbers_from k) (sym (drop_members [] 32 c n)))

pub flat_none : (c : ℕ) (n : ℤ) → no_members (numbers_of c) ≡ flat_of [] c n
flat_none c n = no_numbers (numbers_of c) c n ∙ ap (λ (k : ℕ). numbers_from (numbers_of k) (members_from [] c n)) (sym (count_members [] c n))

-- ---- offsets of numbers between bounds

natural_above : (z : ℤ) (k : ℕ) → pos (suc k) ≤ℤ z → suc k ≤ natural_of z
natural_above (pos n) k above = omega (arith, ints, above)
natural_above (negsuc n) k above = absurd (omega (arith, ints, above))

small_kept : (z : ℤ) → pos 0 ≤ℤ z → z ≤ℤ pos 9223372036854775807 → saturate_signed w64 z ≡ z
small_kept (pos n) low high = (let few : min n 9223372036854775807 ≡ n = omega (arith, ints, high) in ap pos few)
small_kept (negsuc n) low high = absurd (omega (arith, ints, low))

-- a number between bounds
pub record IsBetween (b : Bounds) (n : ℤ) : Type 0 where
  pub low : b.low ≤ℤ n
  pub high : n ≤ℤ b.high

natural_is : (z : ℤ) → pos 0 ≤ℤ z → pos (natural_of z) ≡ z
natural_is (pos n) above = refl
natural_is (negsuc n) above = absurd (omega (arith, ints, above))

count_is : (low high : ℤ) → low ≤ℤ high → count_between low high ≤ 4294967296 → pos (count_between low high) ≡ high -ℤ low +ℤ pos 1
count_is low high above few =
    let same : count_between low high ≡ natural_of (high -ℤ low +ℤ pos 1) = omega (arith, few) in
    ap pos same ∙ natural_is (high -ℤ low +ℤ pos 1) (omega (arith, ints, above))

offset_is : (b : Bounds) (n : ℤ) → IsBetween b n → count_between b.low b.high ≤ 4294967296 → offset_from b.low n ≡ n -ℤ b.low
offset_is b n within few =
    let low = within.low in
    let high = within.high in
    let count = count_is b.low b.high (omega (arith, ints, low, high)) few in
    small_kept (n -ℤ b.low) (omega (arith, ints, low)) (omega (arith, ints, high, few, count))

below_count : (b : Bounds) (n : ℤ) → IsBetween b n → count_between b.low b.high ≤ 4294967296 → n <ℤ (b.low +ℤ pos (count_between b.low b.high))
below_count b n within few =
    let low = within.low in
    let high = within.high in
    let count = count_is b.low b.high (omega (arith, ints, low, high)) few in
    omega (arith, ints, high, count)

-- the members of ranges and of one more
pub bounded_more : (law : UnionLaw) (rs : Ranges) (l h : ℤ) (b : Bounds) → IsBetween b l → IsBetween b h → count_between b.low b.high ≤ 4294967296
    → union_of (flat_of rs (count_between b.low b.high) b.low) (span_in (length (flat_of rs (count_between b.low b.high) b.low)) (offset_from b.low l) (offset_from b.low h))
    ≡ flat_of (rs ++ (number l, number h) ∷ []) (count_between b.low b.high) b.low
bounded_more law rs l h b one other few =
    (λ i. union_of (flat_of rs (count_between b.low b.high) b.low) (span_in (length (flat_of rs (count_between b.low b.high) b.low)) (offset_is b l one few i) (offset_is b h other few i)))
    ∙ span_more law rs l h b.low (count_between b.low b.high) (below_count b h other few)

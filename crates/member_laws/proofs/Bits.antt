-- An operation on the members of powersets is the operation on the numbers that tell of them.
use Rattle.std.proofs.Common.{◌≡◌, ℕ, zero, suc, ◌+◌, ◌-◌, ◌*◌, ◌/◌, ◌%◌, ◌^◌, ◌<◌, ◌≤◌, Bool, true, false, List, [], ◌∷◌, ℤ, pos, length, take, drop, inl, inr, refl, ap, sym, ◌∙◌, arith}
use Rattle.std.specs.Prelude.{◌==◌, ◌&&◌, ◌||◌, not, nat_lt, sum_by, map, if◌then◌else◌}
use Rattle.std.specs.Int.{bit_at}
use Rattle.std.proofs.Math.Nat.{pow-suc}
use Rattle.std.proofs.lemmas.Nat.{pow_pos}
use Rattle.std.proofs.lemmas.Bool.{cases_lt, lt-ltb, le-ltb}
use Rattle.std.proofs.lemmas.List.{length-take, length-drop, length-map}
use Rattle.std.proofs.lemmas.Nat.Bits.{bit_at_lowest, bit_at-suc, bit_at-zero}
use Rattle.std.proofs.lemmas.List.Sums.{sum_by-cons}
use Rattle.modes.specs.Scalars.{numbers_of}
use Rattle.chill_tree.specs.declared.tree.expr.Operator.TheVariants as ops
use Rattle.scalar_operators.specs.Powersets.{numbers_up, powerset_where, has_member, intersection, union, symmetric_difference, difference, complement_in}
use Rattle.scalar_operators.specs.Members.{by_pairs, complement_of, has_member_at}
use Rattle.checks_model.specs.ValueTrees.{bits_of, numbers_from}
use Rattle.checks_model.specs.OperatorValues.{zipped, logic, member_at}
use Rattle.member_laws.specs.Bits.{UnionLaw, IntersectionLaw, SymmetricDifferenceLaw, DifferenceLaw, ComplementLaw, MemberLaw}

-- a list whose head and rest are the same
same_list : {x y : ℤ} {xs ys : List ℤ} → x ≡ y → xs ≡ ys → x ∷ xs ≡ y ∷ ys
same_list {x} {y} {xs} {ys} first rest = ap (λ z. z ∷ xs) first ∙ ap (λ zs. y ∷ zs) rest

-- ---- the bits of members

abbrev worth_of : Bool → ℕ
worth_of b = if b then 1 else 0

first_bit : (b : Bool) (m : ℕ) → ((worth_of b + 2 * m) % 2 == 1) ≡ b
first_bit true m = let odd : (1 + 2 * m) % 2 ≡ 1 = omega arith in rw odd refl
first_bit false m = let even : (0 + 2 * m) % 2 ≡ 0 = omega arith in rw even refl

other_bits : (b : Bool) (m : ℕ) → (worth_of b + 2 * m) / 2 ≡ m
other_bits true m = omega arith
other_bits false m = omega arith

bit_of_member : (bs : List Bool) (k : ℕ) → (bit_at (bits_of bs) k == 1) ≡ member_at k bs
bit_of_member [] k = ap (λ (n : ℕ). n == 1) (bit_at-zero k)
bit_of_member (b ∷ bs) zero = ap (λ (n : ℕ). n == 1) (bit_at_lowest (worth_of b + 2 * bits_of bs)) ∙ first_bit b (bits_of bs)
bit_of_member (b ∷ bs) (suc k) = ap (λ (n : ℕ). n == 1) (bit_at-suc (worth_of b + 2 * bits_of bs) k ∙ ap (λ n. bit_at n k) (other_bits b (bits_of bs))) ∙ bit_of_member bs k

more_bits : (b : Bool) (m p : ℕ) → m < p → worth_of b + 2 * m < p * 2
more_bits true m p few = omega (arith, few)
more_bits false m p few = omega (arith, few)

few_bits : (bs : List Bool) (count : ℕ) → length bs ≤ count → bits_of bs < 2 ^ count
few_bits [] count long = pow_pos count
few_bits (b ∷ bs) zero long = absurd (omega (arith, long))
few_bits (b ∷ bs) (suc count) long = rw (pow-suc 2 count) (more_bits b (bits_of bs) (2 ^ count) (few_bits bs count (omega (arith, long))))

has_its_member : (bs : List Bool) (k : ℕ) → length bs ≤ 32 → has_member (pos (bits_of bs)) k ≡ member_at k bs
has_its_member bs k long =
    let few = few_bits bs 32 long in
    let word : bits_of bs % 2 ^ 32 ≡ bits_of bs = omega (arith, few) in
    ap (λ n. bit_at n k == 1) word ∙ bit_of_member bs k

-- ---- the powerset of members

abbrev worth : (ℕ → Bool) → ℕ → ℕ
worth test k = if test k then 2 ^ k else 0

one_worth : (b : Bool) (p m : ℕ) → (if b then p else 0) + p * 2 * m ≡ p * (worth_of b + 2 * m)
one_worth true p m = omega arith
one_worth false p m = omega arith

sum_of_members : (test : ℕ → Bool) (xs : List Bool) (count k : ℕ) → length xs ≤ count → ((j : ℕ) → j < count → test (k + j) ≡ member_at j xs) → sum_by (worth test) (numbers_up k count) ≡ 2 ^ k * bits_of xs
sum_of_members test [] zero k long same = omega arith
sum_of_members test (x ∷ xs) zero k long same = absurd (omega (arith, long))
sum_of_members test [] (suc count) k long same =
    let here : test k ≡ false = (let at : k + 0 ≡ k = omega arith in ap test (sym at)) ∙ same 0 (omega arith) in
    let none : worth test k ≡ 0 = ap (λ (b : Bool). if b then 2 ^ k else 0) here in
    let rest = sum_of_members test [] count (suc k) (omega arith) (λ j less. (let at : suc k + j ≡ k + suc j = omega arith in ap test at) ∙ same (suc j) (omega (arith, less))) in
    let first = sum_by-cons (worth test) k (numbers_up (suc k) count) in
    omega (arith, none, rest, first)
sum_of_members test (x ∷ xs) (suc count) k long same =
    let here : test k ≡ x = (let at : k + 0 ≡ k = omega arith in ap test (sym at)) ∙ same 0 (omega arith) in
    let own : worth test k ≡ (if x then 2 ^ k else 0) = ap (λ (b : Bool). if b then 2 ^ k else 0) here in
    let rest = sum_of_members test xs count (suc k) (omega (arith, long)) (λ j less. (let at : suc k + j ≡ k + suc j = omega arith in ap test at) ∙ same (suc j) (omega (arith, less))) in
    let higher : 2 ^ suc k * bits_of xs ≡ 2 ^ k * 2 * bits_of xs = ap (λ n. n * bits_of xs) (pow-suc 2 k) in
    let first = sum_by-cons (worth test) k (numbers_up (suc k) count) in
    let whole = one_worth x (2 ^ k) (bits_of xs) in
    omega (arith, own, rest, higher, first, whole)

of_members : (test : ℕ → Bool) (xs : List Bool) → length xs ≤ 32 → ((j : ℕ) → j < 32 → test j ≡ member_at j xs) → powerset_where test ≡ pos (bits_of xs)
of_members test xs long same = ap pos (let sum = sum_of_members test xs 32 0 long (λ j less. (let at : 0 + j ≡ j = omega arith in ap test at) ∙ same j less) in omega (arith, sum))

-- ---- pairs of members

zipped_member : (f : Bool → Bool → Bool) (as' bs : List Bool) (k : ℕ) → f false false ≡ false → length as' ≡ length bs → member_at k (zipped f as' bs) ≡ f (member_at k as') (member_at k bs)
zipped_member f [] [] k none long = sym none
zipped_member f [] (b ∷ bs) k none long = absurd (omega (arith, long))
zipped_member f (a ∷ as') [] k none long = absurd (omega (arith, long))
zipped_member f (a ∷ as') (b ∷ bs) zero none long = refl
zipped_member f (a ∷ as') (b ∷ bs) (suc k) none long = zipped_member f as' bs k none (omega (arith, long))

zipped_length : (f : Bool → Bool → Bool) (as' bs : List Bool) → length as' ≡ length bs → length (zipped f as' bs) ≡ length as'
zipped_length f [] [] long = refl
zipped_length f [] (b ∷ bs) long = refl
zipped_length f (a ∷ as') [] long = absurd (omega (arith, long))
zipped_length f (a ∷ as') (b ∷ bs) long = ap suc (zipped_length f as' bs (omega (arith, long)))

zipped_take : (f : Bool → Bool → Bool) (n : ℕ) (as' bs : List Bool) → take n (zipped f as' bs) ≡ zipped f (take n as') (take n bs)
zipped_take f zero as' bs = refl
zipped_take f (suc n) [] bs = refl
zipped_take f (suc n) (a ∷ as') [] = refl
zipped_take f (suc n) (a ∷ as') (b ∷ bs) = ap (λ l. f a b ∷ l) (zipped_take f n as' bs)

zipped_drop : (f : Bool → Bool → Bool) (n : ℕ) (as' bs : List Bool) → length as' ≡ length bs → drop n (zipped f as' bs) ≡ zipped f (drop n as') (drop n bs)
zipped_drop f zero as' bs long = refl
zipped_drop f (suc n) [] [] long = refl
zipped_drop f (suc n) [] (b ∷ bs) long = absurd (omega (arith, long))
zipped_drop f (suc n) (a ∷ as') [] long = absurd (omega (arith, long))
zipped_drop f (suc n) (a ∷ as') (b ∷ bs) long = zipped_drop f n as' bs (omega (arith, long))

-- ---- two powersets of one size

-- the operator on one number of each, by the test that it makes of the two members at an offset
one_pair : (test f : Bool → Bool → Bool) (as' bs : List Bool) → ((a b : Bool) → test a b ≡ f a b) → f false false ≡ false → length as' ≡ length bs → length as' ≤ 32
    → powerset_where (λ k. test (has_member (pos (bits_of as')) k) (has_member (pos (bits_of bs)) k)) ≡ pos (bits_of (zipped f as' bs))
one_pair test f as' bs same none long few =
    of_members (λ k. test (has_member (pos (bits_of as')) k) (has_member (pos (bits_of bs)) k)) (zipped f as' bs) (omega (arith, few, zipped_length f as' bs long))
    (λ k less.
    ap (λ a. test a (has_member (pos (bits_of bs)) k)) (has_its_member as' k few)
    ∙ ap (test (member_at k as')) (has_its_member bs k (omega (arith, few, long)))
    ∙ same (member_at k as') (member_at k bs)
    ∙ sym (zipped_member f as' bs k none long))

-- an operator on numbers makes of the bits of members what another makes of the members
abbrev MakesBits : (ℤ → ℤ → ℤ) → (Bool → Bool → Bool) → Type 0
MakesBits op f = (as' bs : List Bool) → length as' ≡ length bs → length as' ≤ 32 → op (pos (bits_of as')) (pos (bits_of bs)) ≡ pos (bits_of (zipped f as' bs))

by_numbers : (op : ℤ → ℤ → ℤ) (f : Bool → Bool → Bool) → MakesBits op f → (k : ℕ) (as' bs : List Bool) → length as' ≡ length bs → numbers_from k (zipped f as' bs) ≡ by_pairs op (numbers_from k as') (numbers_from k bs)
by_numbers op f makes zero as' bs long = refl
by_numbers op f makes (suc k) as' bs long =
    let first : length (take 32 as') ≡ length (take 32 bs) = omega (arith, long, length-take 32 as', length-take 32 bs) in
    let few : length (take 32 as') ≤ 32 = omega (arith, length-take 32 as') in
    let rest : length (drop 32 as') ≡ length (drop 32 bs) = omega (arith, long, length-drop 32 as', length-drop 32 bs) in
    same_list (ap (λ l. pos (bits_of l)) (zipped_take f 32 as' bs) ∙ sym (makes (take 32 as') (take 32 bs) first few))
    (ap (numbers_from k) (zipped_drop f 32 as' bs long) ∙ by_numbers op f makes k (drop 32 as') (drop 32 bs) rest)

by_scalars : (op : ℤ → ℤ → ℤ) (f : Bool → Bool → Bool) → MakesBits op f → (as' bs : List Bool) → length as' ≡ length bs
    → numbers_from (numbers_of (length (zipped f as' bs))) (zipped f as' bs) ≡ by_pairs op (numbers_from (numbers_of (length as')) as') (numbers_from (numbers_of (length bs)) bs)
by_scalars op f makes as' bs long =
    ap (λ n. numbers_from (numbers_of n) (zipped f as' bs)) (zipped_length f as' bs long) ∙ by_numbers op f makes (numbers_of (length as')) as' bs long
    ∙ ap (λ n. by_pairs op (numbers_from (numbers_of (length as')) as') (numbers_from (numbers_of n) bs)) long

exclusive : (a b : Bool) → ((a && not b) || (b && not a)) ≡ ((a || b) && not (a && b))
exclusive true true = refl
exclusive true false = refl
exclusive false true = refl
exclusive false false = refl

pub union_members : UnionLaw
union_members = by_scalars union (logic ops.Or) (λ as' bs. one_pair (λ a b. a || b) (logic ops.Or) as' bs (λ a b. refl) refl)

pub intersection_members : IntersectionLaw
intersection_members = by_scalars intersection (logic ops.And) (λ as' bs. one_pair (λ a b. a && b) (logic ops.And) as' bs (λ a b. refl) refl)

pub symmetric_difference_members : SymmetricDifferenceLaw
symmetric_difference_members = by_scalars symmetric_difference (logic ops.Xor) (λ as' bs. one_pair (λ a b. (a && not b) || (b && not a)) (logic ops.Xor) as' bs exclusive refl)

pub difference_members : DifferenceLaw
difference_members = by_scalars difference (logic ops.Minus) (λ as' bs. one_pair (λ a b. a && not b) (logic ops.Minus) as' bs (λ a b. refl) refl)

-- ---- the complement

less_suc : (j n : ℕ) → nat_lt (suc j) (suc n) ≡ nat_lt j n
less_suc j n = elim (cases_lt j n) [
  | inl less ↦ lt-ltb (suc j) (suc n) (omega (arith, less)) ∙ sym (lt-ltb j n less)
  | inr more ↦ le-ltb (suc j) (suc n) (omega (arith, more)) ∙ sym (le-ltb j n more)
]

not_member : (bs : List Bool) (k : ℕ) → member_at k (map not bs) ≡ (nat_lt k (length bs) && not (member_at k bs))
not_member [] k = ap (λ t. t && true) (sym (le-ltb k 0 (omega arith)))
not_member (b ∷ bs) zero = ap (λ t. t && not b) (sym (lt-ltb 0 (suc (length bs)) (omega arith)))
not_member (b ∷ bs) (suc k) = not_member bs k ∙ ap (λ t. t && not (member_at k bs)) (sym (less_suc k (length bs)))

-- of so many members, no fewer than there are in these where there is room for more
one_complement : (bs : List Bool) (count : ℕ) → length bs ≤ 32 → ((k : ℕ) → k < 32 → nat_lt k count ≡ nat_lt k (length bs)) → complement_in count (pos (bits_of bs)) ≡ pos (bits_of (map not bs))
one_complement bs count few same =
    of_members (λ k. nat_lt k count && not (has_member (pos (bits_of bs)) k)) (map not bs) (omega (arith, few, length-map bs not))
    (λ k less. ap (λ t. t && not (has_member (pos (bits_of bs)) k)) (same k less) ∙ ap (λ m. nat_lt k (length bs) && not m) (has_its_member bs k few) ∙ sym (not_member bs k))

map_take : (n : ℕ) (bs : List Bool) → take n (map not bs) ≡ map not (take n bs)
map_take zero bs = refl
map_take (suc n) [] = refl
map_take (suc n) (b ∷ bs) = ap (λ l. not b ∷ l) (map_take n bs)

map_drop : (n : ℕ) (bs : List Bool) → drop n (map not bs) ≡ map not (drop n bs)
map_drop zero bs = refl
map_drop (suc n) [] = refl
map_drop (suc n) (b ∷ bs) = map_drop n bs

within_first : (bs : List Bool) (k : ℕ) → k < 32 → nat_lt k (length bs) ≡ nat_lt k (length (take 32 bs))
within_first bs k few = elim (cases_lt k (length bs)) [
  | inl less ↦ lt-ltb k (length bs) less ∙ sym (lt-ltb k (length (take 32 bs)) (omega (arith, few, less, length-take 32 bs)))
  | inr more ↦ le-ltb k (length bs) more ∙ sym (le-ltb k (length (take 32 bs)) (omega (arith, more, length-take 32 bs)))
]

complement_numbers : (k : ℕ) (bs : List Bool) → numbers_from k (map not bs) ≡ complement_of (length bs) (numbers_from k bs)
complement_numbers zero bs = refl
complement_numbers (suc k) bs =
    same_list
    (ap (λ l. pos (bits_of l)) (map_take 32 bs) ∙ sym (one_complement (take 32 bs) (length bs) (omega (arith, length-take 32 bs)) (within_first bs)))
    (ap (numbers_from k) (map_drop 32 bs) ∙ complement_numbers k (drop 32 bs) ∙ ap (λ n. complement_of n (numbers_from k (drop 32 bs))) (length-drop 32 bs))

pub complement_members : ComplementLaw
complement_members bs = ap (λ n. numbers_from (numbers_of n) (map not bs)) (length-map bs not) ∙ complement_numbers (numbers_of (length bs)) bs

-- ---- one member

member_take : (n : ℕ) (bs : List Bool) (k : ℕ) → k < n → member_at k (take n bs) ≡ member_at k bs
member_take zero bs k less = absurd (omega (arith, less))
member_take (suc n) [] k less = refl
member_take (suc n) (b ∷ bs) zero less = refl
member_take (suc n) (b ∷ bs) (suc k) less = member_take n bs k (omega (arith, less))

member_drop : (n : ℕ) (bs : List Bool) (k : ℕ) → member_at k (drop n bs) ≡ member_at (n + k) bs
member_drop zero bs k = let at : 0 + k ≡ k = omega arith in ap (λ j. member_at j bs) (sym at)
member_drop (suc n) [] k = refl
member_drop (suc n) (b ∷ bs) k = let at : suc n + k ≡ suc (n + k) = omega arith in member_drop n bs k ∙ ap (λ j. member_at j (b ∷ bs)) (sym at)

member_in_numbers : (n k : ℕ) (bs : List Bool) → length bs ≤ 32 * n → has_member_at k (numbers_from n bs) ≡ member_at k bs
member_in_numbers zero k [] few = refl
member_in_numbers zero k (b ∷ bs) few = absurd (omega (arith, few))
member_in_numbers (suc n) k bs few = elim (cases_lt k 32) [
  | inl less ↦ rw (lt-ltb k 32 less) (has_its_member (take 32 bs) k (omega (arith, length-take 32 bs)) ∙ member_take 32 bs k less)
  | inr more ↦ rw (le-ltb k 32 more) (member_in_numbers n (k - 32) (drop 32 bs) (omega (arith, few, length-drop 32 bs)) ∙ member_drop 32 bs (k - 32) ∙ (let at : 32 + (k - 32) ≡ k = omega (arith, more) in ap (λ j. member_at j bs) at))
]

pub one_member : MemberLaw
one_member k bs = member_in_numbers (numbers_of (length bs)) k bs (let n = length bs in omega arith)

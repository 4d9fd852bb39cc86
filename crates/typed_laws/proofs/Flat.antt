-- The flat scalars of a value of a mode are those that the mode's scalars may be.
use Rattle.std.proofs.Common.{◌≡◌, ℕ, zero, suc, ◌+◌, ◌*◌, ◌/◌, ◌%◌, ◌<◌, ◌≤◌, ◌==◌, ◌^◌, Bool, true, false, ◌&&◌, List, [], ◌∷◌, ◌++◌, length, take, Option, Some, None, ℤ, pos, refl, sym, ap, ◌∙◌, subst, arith, eq-eqb, true≢false}
use Rattle.std.proofs.Math.Nat.{pow-suc}
use Rattle.std.proofs.lemmas.Nat.{pow_pos}
use Rattle.std.proofs.lemmas.Bool.{leb-true}
use Rattle.std.proofs.lemmas.Nat.Bits.{bit_at_lowest, bit_at-suc, bit_at-zero}
use Rattle.std.specs.Prelude.{if◌then◌else◌, nat_le, replicate}
use Rattle.std.specs.Int.{bit_at}
use Rattle.modes.specs.declared.mode.Bounds.{Bounds}
use Rattle.modes.specs.ModeTree.{ModeTree, int, boolean, char, instance, set_of, range, powerset, chars, array, structure, event, buffer, read, named, FieldNodes, no_fields, more_fields}
use Rattle.modes.specs.Bounds.{bounds_of, values_of, count_within}
use Rattle.modes.specs.Scalars.{repeated, numbers_of}
use Rattle.modes.specs.Language.{IsOfLanguage, parts_fit, fields_fit, is_from_to, lie_in, is_filled}
use Rattle.modes.specs.Similar.{Shape, shape_of, shape_of_fields, like_int, like_boolean, like_char, like_instance, like_set, like_powerset, like_chars, like_array, like_structure, like_none, part, no_more, next_field}
use Rattle.checks_model.specs.OperatorValues.{member_at}
use Rattle.checks_model.specs.ValueTrees.{ValueTree, number, members, parts, ValueNodes, no_values, more_values, scalars_in, scalars_in_each, bits_of, numbers_from}
use Rattle.elaborated_laws.proofs.Told.{both_left, both_right}
use Rattle.constant_laws.specs.Values.{IsBetween, part_bounds, part_shape, IsOfShape, AreOfShape, AreFieldsOf, IsOfMode}
use Rattle.constant_laws.proofs.Shapes.{is_single, bounded_single}
use Rattle.source_meaning.specs.Values.{Domain, within, any_instance, members_from, domain_in, member_domains, domains_of, domains_of_fields, IsWithin, AreWithin, IsValueOf}
use Rattle.kernel_base.specs.Facts.{TellsMembers}

-- ---- the bits of members

abbrev worth_of : Bool → ℕ
worth_of b = if b then 1 else 0

first_bit : (b : Bool) (m : ℕ) → ((worth_of b + 2 * m) % 2 == 1) ≡ b
first_bit true m = let odd : (1 + 2 * m) % 2 ≡ 1 = omega arith in rw odd refl
first_bit false m = let even : (0 + 2 * m) % 2 ≡ 0 = omega arith in rw even refl

other_bits : (b : Bool) (m : ℕ) → (worth_of b + 2 * m) / 2 ≡ m
other_bits true m = omega arith
other_bits false m = omega arith

bit_of_member : (bs : List Bool) (k : ℕ) → (bit_at (bits_of bs) k == 1) ≡ member_at k bs
bit_of_member [] k = ap (λ (n : ℕ). n == 1) (bit_at-zero k)
bit_of_member (b ∷ bs) zero = ap (λ (n : ℕ). n == 1) (bit_at_lowest (worth_of b + 2 * bits_of bs)) ∙ first_bit b (bits_of bs)
bit_of_member (b ∷ bs) (suc k) = ap (λ (n : ℕ). n == 1) (bit_at-suc (worth_of b + 2 * bits_of bs) k ∙ ap (λ n. bit_at n k) (other_bits b (bits_of bs))) ∙ bit_of_member bs k

more_bits : (b : Bool) (m p : ℕ) → m < p → worth_of b + 2 * m < p * 2
more_bits true m p few = omega (arith, few)
more_bits false m p few = omega (arith, few)

few_bits : (bs : List Bool) (count : ℕ) → length bs ≤ count → bits_of bs < 2 ^ count
few_bits [] count long = pow_pos count
few_bits (b ∷ bs) zero long = absurd (omega (arith, long))
few_bits (b ∷ bs) (suc count) long = rw (pow-suc 2 count) (more_bits b (bits_of bs) (2 ^ count) (few_bits bs count (omega (arith, long))))

member_below : (bs : List Bool) (k : ℕ) → member_at k bs ≡ true → k < length bs
member_below [] k is = absurd (true≢false (sym is))
member_below (b ∷ bs) zero is = omega arith
member_below (b ∷ bs) (suc k) is = (let rest = member_below bs k is in omega (arith, rest))

taken_whole : (bs : List Bool) (n : ℕ) → length bs ≤ n → take n bs ≡ bs
taken_whole [] zero few = refl
taken_whole [] (suc n) few = refl
taken_whole (b ∷ bs) zero few = absurd (omega (arith, few))
taken_whole (b ∷ bs) (suc n) few = ap (λ l. b ∷ l) (taken_whole bs n (omega (arith, few)))

tells_members : (size : ℕ) (bs : List Bool) → length bs ≡ size → size ≤ 32 → TellsMembers size 0 (pos (bits_of (take 32 bs)))
tells_members size bs long few =
    let short : length bs ≤ 32 = omega (arith, long, few) in
    record {
      bits = bits_of bs;
      is = ap (λ l. pos (bits_of l)) (taken_whole bs 32 short);
      word = few_bits bs 32 short;
      members = λ k at. let below = member_below bs k (sym (bit_of_member bs k) ∙ eq-eqb (bit_at (bits_of bs) k) 1 at) in omega (arith, below, long);
    }

members_within : (size : ℕ) (bs : List Bool) → length bs ≡ size → size ≤ 32 → AreWithin (member_domains size 0 (numbers_of size)) (numbers_from (numbers_of (length bs)) bs)
members_within zero [] long few = tt
members_within zero (b ∷ bs) long few = absurd (omega (arith, long))
members_within (suc n) bs long few =
    let one : numbers_of (suc n) ≡ 1 = omega (arith, few) in
    let same : numbers_of (length bs) ≡ 1 = ap numbers_of long ∙ one in
    subst (λ k. AreWithin (member_domains (suc n) 0 k) (numbers_from (numbers_of (length bs)) bs)) (sym one)
    (subst (λ k. AreWithin (member_domains (suc n) 0 1) (numbers_from k bs)) (sym same) (tells_members (suc n) bs long few, tt))

-- ---- domains by shapes

-- what each scalar of a shape may be
abbrev shape_domains : Option Bounds → Shape → List Domain
shape_domains b like_int = domain_in b ∷ []
shape_domains b like_boolean = domain_in b ∷ []
shape_domains b like_char = domain_in b ∷ []
shape_domains b like_instance = domain_in b ∷ []
shape_domains b (like_set d n) = domain_in b ∷ []
shape_domains b (like_powerset m) = member_domains (count_within (part_bounds m)) 0 (numbers_of (count_within (part_bounds m)))
shape_domains b (like_chars n) = repeated n (domain_in (bounds_of char) ∷ [])
shape_domains b (like_array i c e how) = repeated (count_within c) (shape_domains None e)
shape_domains b (like_structure fs p) = shape_domains None fs
shape_domains b like_none = []
shape_domains b (part n r c s) = shape_domains c s
shape_domains b no_more = []
shape_domains b (next_field name at m fs) = shape_domains None m ++ shape_domains None fs

-- each powerset has at most 32 members
abbrev are_few : Shape → Bool
are_few (like_powerset m) = nat_le (count_within (part_bounds m)) 32
are_few (like_array i c e how) = are_few e
are_few (like_structure fs p) = are_few fs
are_few (part n r c s) = are_few s
are_few (next_field name at m fs) = are_few m && are_few fs
are_few s = true

replicated : (n : ℕ) (d : Domain) → replicate n d ≡ repeated n (d ∷ [])
replicated zero d = refl
replicated (suc n) d = ap (λ l. d ∷ l) (replicated n d)

-- a range is of a discrete mode
range_single : (b : Option Bounds) (s : Shape) → is_single s ≡ true → shape_domains b s ≡ domain_in b ∷ []
range_single b like_int is = refl
range_single b like_boolean is = refl
range_single b like_char is = refl
range_single b like_instance is = refl
range_single b (like_set d n) is = refl
range_single b s is = absurd (true≢false (sym is))

parent_there : (low high : ℤ) (b : Option Bounds) → lie_in low high b ≡ true → (c : Bounds) × (b ≡ Some c)
parent_there low high (Some c) fits = (c, refl)
parent_there low high None fits = absurd (true≢false (sym fits))

mutual
  domains_same : (m : ModeTree) → parts_fit m ≡ true → domains_of m ≡ shape_domains (bounds_of m) (shape_of m)
  domains_same int fits = refl
  domains_same boolean fits = refl
  domains_same char fits = refl
  domains_same instance fits = refl
  domains_same (set_of d n) fits = refl
  domains_same (range p l h) fits =
      let there = parent_there l h (bounds_of p) (both_right (parts_fit p) (lie_in l h (bounds_of p)) fits) in
      sym (range_single (bounds_of (range p l h)) (shape_of p) (bounded_single p there.0 there.1))
  domains_same (powerset m) fits = refl
  domains_same (chars n) fits = replicated n (domain_in (bounds_of char))
  domains_same (array i e how) fits = ap (repeated (values_of i)) (domains_same e (both_right (is_from_to 1 4096 (values_of i)) (parts_fit e) (both_right (parts_fit i) (is_from_to 1 4096 (values_of i) && parts_fit e) fits)))
  domains_same (structure fs p) fits = fields_same fs (both_right (is_filled fs) (fields_fit fs) fits)
  domains_same (event l) fits = refl
  domains_same (buffer l e) fits = refl
  domains_same (read m) fits = domains_same m fits
  domains_same (named d n m) fits = domains_same m fits

  fields_same : (fs : FieldNodes) → fields_fit fs ≡ true → domains_of_fields fs ≡ shape_domains None (shape_of_fields fs)
  fields_same no_fields fits = refl
  fields_same (more_fields name m at fs) fits =
      ap (λ l. l ++ domains_of_fields fs) (domains_same m (both_left (parts_fit m) (fields_fit fs) fits))
      ∙ ap (λ l. shape_domains (bounds_of m) (shape_of m) ++ l) (fields_same fs (both_right (parts_fit m) (fields_fit fs) fits))

both_true : (a b : Bool) → a ≡ true → b ≡ true → (a && b) ≡ true
both_true a b first second = ap (λ x. x && b) first ∙ second

mutual
  few_of : (m : ModeTree) → parts_fit m ≡ true → are_few (shape_of m) ≡ true
  few_of int fits = refl
  few_of boolean fits = refl
  few_of char fits = refl
  few_of instance fits = refl
  few_of (set_of d n) fits = refl
  few_of (range p l h) fits = few_of p (both_left (parts_fit p) (lie_in l h (bounds_of p)) fits)
  few_of (powerset m) fits = both_right (nat_le 1 (values_of m)) (nat_le (values_of m) 32) (both_right (parts_fit m) (is_from_to 1 32 (values_of m)) fits)
  few_of (chars n) fits = refl
  few_of (array i e how) fits = few_of e (both_right (is_from_to 1 4096 (values_of i)) (parts_fit e) (both_right (parts_fit i) (is_from_to 1 4096 (values_of i) && parts_fit e) fits))
  few_of (structure fs p) fits = few_fields fs (both_right (is_filled fs) (fields_fit fs) fits)
  few_of (event l) fits = refl
  few_of (buffer l e) fits = refl
  few_of (read m) fits = few_of m fits
  few_of (named d n m) fits = few_of m fits

  few_fields : (fs : FieldNodes) → fields_fit fs ≡ true → are_few (shape_of_fields fs) ≡ true
  few_fields no_fields fits = refl
  few_fields (more_fields name m at fs) fits =
      both_true (are_few (shape_of m)) (are_few (shape_of_fields fs)) (few_of m (both_left (parts_fit m) (fields_fit fs) fits)) (few_fields fs (both_right (parts_fit m) (fields_fit fs) fits))

-- ---- values

within_both : (ps qs : List Domain) (xs ys : List ℤ) → AreWithin ps xs → AreWithin qs ys → AreWithin (ps ++ qs) (xs ++ ys)
within_both [] qs [] ys first second = second
within_both [] qs (x ∷ xs) ys first second = absurd first
within_both (p ∷ ps) qs [] ys first second = absurd first
within_both (p ∷ ps) qs (x ∷ xs) ys first second = (first.0, within_both ps qs xs ys first.1 second)

by_part : (s : Shape) → shape_domains None s ≡ shape_domains (part_bounds s) (part_shape s)
by_part (part n r b s) = refl
by_part s = refl

few_part : (s : Shape) → are_few s ≡ true → are_few (part_shape s) ≡ true
few_part (part n r b s) few = few
few_part s few = few

one_within : (b : Option Bounds) (z : ℤ) → IsBetween b z → AreWithin (domain_in b ∷ []) (z ∷ [])
one_within None z is = (is, tt)
one_within (Some b) z is = (is, tt)

mutual
  flat : (b : Option Bounds) (s : Shape) (v : ValueTree) → are_few s ≡ true → IsOfShape b s v → AreWithin (shape_domains b s) (scalars_in v)
  flat b like_int (number z) few is = one_within b z is
  flat b like_boolean (number z) few is = one_within b z is
  flat b like_char (number z) few is = one_within b z is
  flat b like_instance (number z) few is = one_within b z is
  flat b (like_set d n) (number z) few is = one_within b z is
  flat b (like_powerset m) (members bs) few is = members_within (count_within (part_bounds m)) bs is (leb-true (count_within (part_bounds m)) 32 few)
  flat b (like_chars n) (parts vs) few is = flat_each n (bounds_of char) like_char vs refl is
  flat b (like_array i c e how) (parts vs) few is =
      subst (λ l. AreWithin (repeated (count_within c) l) (scalars_in_each vs)) (sym (by_part e)) (flat_each (count_within c) (part_bounds e) (part_shape e) vs (few_part e few) is)
  flat b (like_structure fs p) (parts vs) few is = flat_fields fs vs few is
  flat b s v few is = absurd is

  flat_each : (n : ℕ) (b : Option Bounds) (s : Shape) (vs : ValueNodes) → are_few s ≡ true → AreOfShape n b s vs → AreWithin (repeated n (shape_domains b s)) (scalars_in_each vs)
  flat_each n b s no_values few are = subst (λ k. AreWithin (repeated k (shape_domains b s)) []) (sym are) tt
  flat_each n b s (more_values v vs) few are =
      subst (λ k. AreWithin (repeated k (shape_domains b s)) (scalars_in v ++ scalars_in_each vs)) (sym are.1.0)
      (within_both (shape_domains b s) (repeated are.0 (shape_domains b s)) (scalars_in v) (scalars_in_each vs) (flat b s v few are.1.1.0) (flat_each are.0 b s vs few are.1.1.1))

  flat_fields : (fs : Shape) (vs : ValueNodes) → are_few fs ≡ true → AreFieldsOf fs vs → AreWithin (shape_domains None fs) (scalars_in_each vs)
  flat_fields no_more no_values few are = tt
  flat_fields (next_field name at m fs) (more_values v vs) few are =
      within_both (shape_domains None m) (shape_domains None fs) (scalars_in v) (scalars_in_each vs)
      (subst (λ l. AreWithin l (scalars_in v)) (sym (by_part m)) (flat (part_bounds m) (part_shape m) v (few_part m (both_left (are_few m) (are_few fs) few)) are.0))
      (flat_fields fs vs (both_right (are_few m) (are_few fs) few) are.1)
  flat_fields s vs few are = absurd are

pub flat_value : (m : ModeTree) (v : ValueTree) → IsOfLanguage m → IsOfMode m v → IsValueOf m (scalars_in v)
flat_value m v fits is = subst (λ l. AreWithin l (scalars_in v)) (sym (domains_same m fits.parts)) (flat (bounds_of m) (shape_of m) v (few_of m fits.parts) is)

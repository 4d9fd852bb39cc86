-- What the operators make of powersets are powersets of the same mode.
use Rattle.std.proofs.Common.{◌≡◌, ℕ, zero, suc, ◌+◌, ◌-◌, ◌*◌, ◌/◌, ◌%◌, ◌^◌, ◌<◌, ◌≤◌, Bool, true, false, ◌&&◌, List, [], ◌∷◌, length, map, Some, inl, inr, refl, sym, ap, ◌∙◌, subst, arith, length-append}
use Rattle.std.specs.Prelude.{ℤ, pos, ◌≤ℤ◌, ◌-ℤ◌, ◌==◌, ◌||◌, not, int_le, nat_lt, sum_by, if◌then◌else◌}
use Rattle.std.specs.Int.{bit_at}
use Rattle.std.specs.List.{All, filter}
use Rattle.std.proofs.Math.Nat.{pow-suc, mod-eq_of_lt}
use Rattle.std.proofs.lemmas.Nat.Bits.{bit_at_lowest, bit_at-suc, bit_at-zero}
use Rattle.std.proofs.lemmas.Bool.{cases_Bool, eqb-true}
use Rattle.std.proofs.lemmas.Bool.Decides.{nat_tests}
use Rattle.std.proofs.lemmas.Int.{ints}
use Rattle.std.proofs.lemmas.List.{length-map}
use Rattle.std.proofs.lemmas.List.Sums.{sum_by-cons}
use Rattle.std.proofs.lemmas.List.Elements.{All-nil, All-cons, All-append, All-head, All-tail}
use Rattle.kernel_base.specs.Facts.{TellsMembers}
use Rattle.scalar_operators.specs.Powersets.{numbers_up, offsets, has_member, members_of, powerset_where, complement_in, union, intersection, symmetric_difference, difference, span_of, first_of_list, last_of_list}
use Rattle.scalar_operators.specs.Members.{by_pairs, complement_of, offsets_from, span_in}
use Rattle.source_meaning.specs.Values.{member_domains, AreWithin}

abbrev worth : (ℕ → Bool) → ℕ → ℕ
worth test k = if test k then 2 ^ k else 0

-- The sum of what offsets are worth, from one on, as a number of that many bits higher.
record Worth (test : ℕ → Bool) (k count : ℕ) : Type 0 where
  top : ℕ
  is : sum_by (worth test) (numbers_up k count) ≡ 2 ^ k * top
  few : top < 2 ^ count
  tells : (j : ℕ) → bit_at top j ≡ 1 → (j < count) × (test (k + j) ≡ true)

one_more : (p b t : ℕ) → p * b + p * 2 * t ≡ p * (b + 2 * t)
one_more p b t = omega arith

bit_of : Bool → ℕ
bit_of true = 1
bit_of false = 0

worth_bit : (t : Bool) (n : ℕ) → (if t then n else 0) ≡ n * bit_of t
unfolding bit_of
worth_bit true n = omega arith
worth_bit false n = omega arith

bit_few : (t : Bool) → bit_of t < 2
unfolding bit_of
bit_few true = omega arith
bit_few false = omega arith

bit_one : (t : Bool) → bit_of t ≡ 1 → t ≡ true
unfolding bit_of
bit_one true e = refl
bit_one false e = absurd (let f : ⊥ = omega (arith, e) in f)

worth_from : (test : ℕ → Bool) (k count : ℕ) → Worth test k count
worth_from test k zero = record { top = 0; is = omega arith; few = omega arith; tells = λ j one. absurd (let z = bit_at-zero j in let f : ⊥ = omega (arith, one, z) in f) }
worth_from test k (suc count) =
    let rest : Worth test (suc k) count = worth_from test (suc k) count in
    let t : ℕ = rest.top in
    let b : ℕ = bit_of (test k) in
    let low : b < 2 = bit_few (test k) in
    let here : worth test k ≡ 2 ^ k * b = worth_bit (test k) (2 ^ k) in
    let behind : sum_by (worth test) (numbers_up (suc k) count) ≡ 2 ^ k * 2 * t = rest.is ∙ ap (λ (n : ℕ). n * t) (pow-suc 2 k) in
    let all : sum_by (worth test) (numbers_up k (suc count)) ≡ worth test k + sum_by (worth test) (numbers_up (suc k) count) = sum_by-cons (worth test) k (numbers_up (suc k) count) in
    let few : t < 2 ^ count = rest.few in
    let double : 2 ^ suc count ≡ 2 ^ count * 2 = pow-suc 2 count in
    let half : (b + 2 * t) / 2 ≡ t = omega (arith, low) in
    record {
      top = b + 2 * t;
      is = all ∙ (ap (λ (n : ℕ). n + sum_by (worth test) (numbers_up (suc k) count)) here ∙ (ap (λ (n : ℕ). 2 ^ k * b + n) behind ∙ one_more (2 ^ k) b t));
      few = omega (arith, low, few, double);
      tells = λ j one. told test k count rest b half low refl j one;
    }
  where
    told : (test : ℕ → Bool) (k count : ℕ) (rest : Worth test (suc k) count) (b : ℕ) → (b + 2 * rest.top) / 2 ≡ rest.top → b < 2 → bit_of (test k) ≡ b → (j : ℕ) → bit_at (b + 2 * rest.top) j ≡ 1 → (j < suc count) × (test (k + j) ≡ true)
    told test k count rest b half low is zero one =
        let lowest = bit_at_lowest (b + 2 * rest.top) in
        let e : b ≡ 1 = omega (arith, one, lowest, low) in
        let at : k + 0 ≡ k = omega arith in
        (omega arith, ap test at ∙ bit_one (test k) (is ∙ e))
    told test k count rest b half low is (suc j) one =
        let next : bit_at rest.top j ≡ 1 = ap (λ (n : ℕ). bit_at n j) (sym half) ∙ (sym (bit_at-suc (b + 2 * rest.top) j) ∙ one) in
        let r = rest.tells j next in
        let at : k + suc j ≡ suc k + j = omega arith in
        (let l = r.0 in omega (arith, l), ap test at ∙ r.1)

-- a powerset of offsets below its members
pub tells_where : (size first : ℕ) (test : ℕ → Bool) → ((k : ℕ) → k < 32 → test k ≡ true → first + k < size) → TellsMembers size first (powerset_where test)
tells_where size first test below =
    let w : Worth test 0 32 = worth_from test 0 32 in
    let is : sum_by (worth test) (numbers_up 0 32) ≡ w.top = w.is ∙ (let e : 2 ^ 0 * w.top ≡ w.top = omega arith in e) in
    record { bits = w.top; is = ap pos is; word = w.few; members = λ k one. let t = w.tells k one in let at : 0 + k ≡ k = omega arith in below k t.0 (ap test (sym at) ∙ t.1) }

-- a member of a powerset is below their number
pub has_below : (size first : ℕ) (z : ℤ) (k : ℕ) → TellsMembers size first z → has_member z k ≡ true → first + k < size
has_below size first z k t h =
    let word = t.word in
    let e : t.bits % 2 ^ 32 ≡ t.bits = mod-eq_of_lt word in
    let yes : (bit_at (t.bits % 2 ^ 32) k == 1) ≡ true = ap (λ (x : ℤ). has_member x k) (sym t.is) ∙ h in
    let one : bit_at t.bits k ≡ 1 = ap (λ (n : ℕ). bit_at n k) (sym e) ∙ eqb-true (bit_at (t.bits % 2 ^ 32) k) 1 yes in
    t.members k one

pub and_left : (a b : Bool) → (a && b) ≡ true → a ≡ true
and_left true b h = refl
and_left false b h = h

pub and_right : (a b : Bool) → (a && b) ≡ true → b ≡ true
and_right true b h = h
and_right false b h = absurd (let f : ⊥ = cc in f)

second_alone : (a b : Bool) → a ≡ false → ((a && not b) || (b && not a)) ≡ true → b ≡ true
second_alone a true e h = refl
second_alone false false e h = h
second_alone true false e h = absurd (let f : ⊥ = cc in f)

-- one of two has the member
module _ (size first : ℕ) (x y : ℤ) (t : TellsMembers size first x) (u : TellsMembers size first y) where
  pub union_tells : TellsMembers size first (union x y)
  union_tells = tells_where size first (λ k. has_member x k || has_member y k) (λ k low h. elim (cases_Bool (has_member x k)) [
    | inl is ↦ has_below size first x k t is
    | inr other ↦ has_below size first y k u (rw other at h)
  ])

  pub intersection_tells : TellsMembers size first (intersection x y)
  intersection_tells = tells_where size first (λ k. has_member x k && has_member y k) (λ k low h. has_below size first x k t (and_left _ _ h))

  pub symmetric_tells : TellsMembers size first (symmetric_difference x y)
  symmetric_tells = tells_where size first (λ k. (has_member x k && not (has_member y k)) || (has_member y k && not (has_member x k))) (λ k low h. elim (cases_Bool (has_member x k)) [
    | inl is ↦ has_below size first x k t is
    | inr other ↦ has_below size first y k u (second_alone (has_member x k) (has_member y k) other h)
  ])

pub difference_tells : (size first : ℕ) (x y : ℤ) → TellsMembers size first x → TellsMembers size first (difference x y)
difference_tells size first x y t = tells_where size first (λ k. has_member x k && not (has_member y k)) (λ k low h. has_below size first x k t (and_left _ _ h))

pub complement_tells : (size first : ℕ) (x : ℤ) → TellsMembers size first (complement_in (size - first) x)
complement_tells size first x = tells_where size first (λ k. nat_lt k (size - first) && not (has_member x k)) (λ k low h. let t : nat_lt k (size - first) ≡ true = and_left (nat_lt k (size - first)) (not (has_member x k)) h in let l : k < size - first = grind (arith, nat_tests, t) in omega (arith, l))

pub span_tells : (size first : ℕ) (a b : ℤ) → b ≤ℤ (pos size -ℤ pos 1 -ℤ pos first) → TellsMembers size first (span_of a b)
span_tells size first a b high = tells_where size first (λ k. int_le a (pos k) && int_le (pos k) b) (λ k low h. let t : int_le (pos k) b ≡ true = and_right (int_le a (pos k)) (int_le (pos k) b) h in let l : pos k ≤ℤ b = grind (arith, ints, t) in omega (arith, ints, l, high))

-- ---- lists of numbers

-- an operator on pairs
pub pairs_tell : (f : ℤ → ℤ → ℤ) → ((size first : ℕ) (x y : ℤ) → TellsMembers size first x → TellsMembers size first y → TellsMembers size first (f x y)) → (size first n : ℕ) (xs ys : List ℤ) → AreWithin (member_domains size first n) xs → AreWithin (member_domains size first n) ys → AreWithin (member_domains size first n) (by_pairs f xs ys)
pairs_tell f each size first zero [] ys v w = tt
pairs_tell f each size first zero (x ∷ xs) ys v w = absurd v
pairs_tell f each size first (suc n) [] ys v w = absurd v
pairs_tell f each size first (suc n) (x ∷ xs) [] v w = absurd w
pairs_tell f each size first (suc n) (x ∷ xs) (y ∷ ys) v w = (each size first x y v.0 w.0, pairs_tell f each size (first + 32) n xs ys v.1 w.1)

-- the first without the second, whatever that is
pub differences_tell : (size first n : ℕ) (xs ys : List ℤ) → length ys ≡ n → AreWithin (member_domains size first n) xs → AreWithin (member_domains size first n) (by_pairs difference xs ys)
differences_tell size first zero [] ys e v = tt
differences_tell size first zero (x ∷ xs) ys e v = absurd v
differences_tell size first (suc n) [] ys e v = absurd v
differences_tell size first (suc n) (x ∷ xs) [] e v = absurd (let f : ⊥ = omega (arith, e) in f)
differences_tell size first (suc n) (x ∷ xs) (y ∷ ys) e v = (difference_tells size first x y v.0, differences_tell size (first + 32) n xs ys (omega (arith, e)) v.1)

pub complements_tell : (size first n : ℕ) (xs : List ℤ) → AreWithin (member_domains size first n) xs → AreWithin (member_domains size first n) (complement_of (size - first) xs)
complements_tell size first zero [] v = tt
complements_tell size first zero (x ∷ xs) v = absurd v
complements_tell size first (suc n) [] v = absurd v
complements_tell size first (suc n) (x ∷ xs) v =
    let e : size - (first + 32) ≡ size - first - 32 = omega arith in
    (complement_tells size first x, subst (λ (c : ℕ). AreWithin (member_domains size (first + 32) n) (complement_of c xs)) e (complements_tell size (first + 32) n xs v.1))

pub spans_tell : (size first n : ℕ) (a b : ℤ) → b ≤ℤ (pos size -ℤ pos 1 -ℤ pos first) → AreWithin (member_domains size first n) (span_in n a b)
spans_tell size first zero a b h = tt
spans_tell size first (suc n) a b h = (span_tells size first a b h, spans_tell size (first + 32) n (a -ℤ pos 32) (b -ℤ pos 32) (omega (arith, ints, h)))

pub span_length : (n : ℕ) (a b : ℤ) → length (span_in n a b) ≡ n
span_length zero a b = refl
span_length (suc n) a b = ap suc (span_length n (a -ℤ pos 32) (b -ℤ pos 32))

-- ---- offsets of members

filtered_below : (size first : ℕ) (z : ℤ) → TellsMembers size first z → (ks : List ℕ) → All (λ k. k < size) (map (λ k. first + k) (filter (has_member z) ks))
filtered_below size first z t [] = All-nil (λ k. k < size)
filtered_below size first z t (k ∷ ks) = elim (cases_Bool (has_member z k)) [
  | inl is ↦ rw is (All-cons (λ k. k < size) (first + k) _ (has_below size first z k t is) (filtered_below size first z t ks))
  | inr other ↦ rw other (filtered_below size first z t ks)
]

-- each offset is below the number of members
pub offsets_below : (size first n : ℕ) (xs : List ℤ) → AreWithin (member_domains size first n) xs → All (λ k. k < size) (offsets_from first xs)
offsets_below size first zero [] v = All-nil (λ k. k < size)
offsets_below size first zero (x ∷ xs) v = absurd v
offsets_below size first (suc n) [] v = absurd v
offsets_below size first (suc n) (x ∷ xs) v =
    All-append (λ k. k < size) (map (λ k. first + k) (members_of x)) (offsets_from (first + 32) xs) (filtered_below size first x v.0 offsets) (offsets_below size (first + 32) n xs v.1)

pub first_below : (size : ℕ) (ks : List ℕ) (k : ℕ) → All (λ k. k < size) ks → first_of_list ks ≡ Some k → k < size
first_below size [] k all e = absurd (let f : ⊥ = cc in f)
first_below size (j ∷ ks) k all e = let is : j ≡ k = cc in let low = All-head (λ k. k < size) j ks all in omega (arith, is, low)

pub last_below : (size : ℕ) (ks : List ℕ) (k : ℕ) → All (λ k. k < size) ks → last_of_list ks ≡ Some k → k < size
last_below size [] k all e = absurd (let f : ⊥ = cc in f)
last_below size (j ∷ []) k all e = let is : j ≡ k = cc in let low = All-head (λ k. k < size) j [] all in omega (arith, is, low)
last_below size (j ∷ i ∷ ks) k all e = last_below size (i ∷ ks) k (All-tail (λ k. k < size) j (i ∷ ks) all) e

filter_few : (test : ℕ → Bool) (ks : List ℕ) → length (filter test ks) ≤ length ks
filter_few test [] = omega arith
filter_few test (k ∷ ks) = let r = filter_few test ks in elim (cases_Bool (test k)) [ inl is ↦ rw is (omega (arith, r)) | inr other ↦ rw other (omega (arith, r)) ]

-- there are at most 32 offsets for each number
pub offsets_few : (first : ℕ) (xs : List ℤ) → length (offsets_from first xs) ≤ 32 * length xs
offsets_few first [] = omega arith
offsets_few first (x ∷ xs) =
    let a = filter_few (has_member x) offsets in
    let b = offsets_few (first + 32) xs in
    let c = length-map (members_of x) (λ k. first + k) in
    let d = length-append (map (λ k. first + k) (members_of x)) (offsets_from (first + 32) xs) in
    omega (arith, a, b, c, d)

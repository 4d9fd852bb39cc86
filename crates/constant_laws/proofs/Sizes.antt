-- The words that the scalars of a mode take are fewer than INT has numbers: each scalar takes at most 4,096 of them.
use Rattle.std.proofs.Common.{◌≡◌, ◌≤◌, ℕ, zero, suc, ◌+◌, ◌-◌, ◌*◌, ◌/◌, ◌%◌, ◌&&◌, Bool, true, false, List, [], ◌∷◌, ◌++◌, min, max, Option, Some, None, refl, sym, ap, subst, arith, true≢false}
use Rattle.std.proofs.lemmas.Bool.{leb-true}
use Rattle.std.specs.Prelude.{nat_le, nat_lt, ℤ, pos, int_lt, if◌then◌else◌}
use Rattle.chill_base.specs.declared.layout.Bits.{Bits}
use Rattle.modes.specs.declared.mode.Bounds.{Bounds}
use Rattle.modes.specs.ModeTree.{ModeTree, int, boolean, char, instance, set_of, range, powerset, chars, array, structure, event, buffer, read, named, FieldNodes, no_fields, more_fields, PlaceTree, SpreadTree, words, packed, step}
use Rattle.modes.specs.Bounds.{bounds_of, values_of, natural_of}
use Rattle.modes.specs.Scalars.{numbers_of, scalars_in_fields, leaves_of}
use Rattle.modes.specs.Language.{IsOfLanguage, parts_fit, fields_fit, is_filled, is_from_to, lie_in}
use Rattle.layout_map.specs.declared.scalar.Scalar.{Scalar}
use Rattle.layout_map.specs.Place.{is_in_word, holds, is_possible, steps_fit, is_possible_step}
use Rattle.layout_map.specs.Scalar.{digits_of, beyond_of, range_scalar, set_scalar, scalar_if, scalar_of, is_signed}
use Rattle.layout_map.specs.Spots.{Laid, follow, times, held, up, begin, after, bits_at, one, one_of, numbers, character, place_bit, step_one, step_end, steps_laid, elements, is_placed, spot_at, placed_spot, spot_end, placed_spots, placed_end, closed, laid, laid_fields, spots_of, words_of}
use Rattle.elaborated_laws.proofs.Told.{both_left, both_right}
use Rattle.constant_laws.specs.Places.{is_possible_spread, is_possible_at, are_possible, fields_are_possible}
use Rattle.constant_laws.proofs.Numbers.{at_most}

-- ---- spots in the first words

abbrev AreBelow : ℕ → List Bits → Type 0
AreBelow q [] = Unit {0}
AreBelow q (b ∷ bs) = (b.word + 1 ≤ q) × AreBelow q bs

-- all spots, and the cursor behind them
record IsLow (q : ℕ) (x : Laid) : Type 0 where
  spots : AreBelow q x.0
  cursor : x.1 ≤ 32 * q

are_less : (q r : ℕ) (bs : List Bits) → q ≤ r → AreBelow q bs → AreBelow r bs
are_less q r [] less are = tt
are_less q r (b ∷ bs) less are = let own = are.0 in (omega (arith, own, less), are_less q r bs less are.1)

are_both : (q : ℕ) (bs cs : List Bits) → AreBelow q bs → AreBelow q cs → AreBelow q (bs ++ cs)
are_both q [] cs first later = later
are_both q (b ∷ bs) cs first later = (first.0, are_both q bs cs first.1 later)

lower : (q r : ℕ) (x : Laid) → q ≤ r → IsLow q x → IsLow r x
lower q r x less low = let c = low.cursor in record { spots = are_less q r x.0 less low.spots; cursor = omega (arith, c, less) }

nothing_low : (q c : ℕ) → c ≤ 32 * q → IsLow q ([], c)
nothing_low q c few = record { spots = tt; cursor = few }

follow_low : (q r : ℕ) (x : Laid) (f : ℕ → Laid) → q ≤ r → IsLow q x → ((c : ℕ) → c ≤ 32 * q → IsLow r (f c)) → IsLow r (follow x f)
follow_low q r x f less first later =
    let rest = later x.1 first.cursor in
    record { spots = are_both r x.0 (f x.1).0 (are_less q r x.0 less first.spots) rest.spots; cursor = rest.cursor }

times_low : (k n : ℕ) (f : ℕ → Laid) (c q : ℕ) → ((c q : ℕ) → c ≤ 32 * q → IsLow (q + k) (f c)) → c ≤ 32 * q → IsLow (q + n * k) (times n f c)
times_low k zero f c q each few = nothing_low (q + 0 * k) c (omega (arith, few))
times_low k (suc n) f c q each few =
    follow_low (q + k) (q + suc n * k) (f c) (times n f) (omega arith) (each c q few)
    (λ d less. subst (λ r. IsLow r (times n f d)) (let same : (q + k) + n * k ≡ q + suc n * k = omega arith in same) (times_low k n f d (q + k) each less))

-- ---- cursors

held_less : (c : ℕ) → held c ≤ c
held_less c = omega arith

up_less : (c q : ℕ) → c ≤ 32 * q → up c ≤ 32 * q
up_less c q few =
    let own = held_less ((c + 31) / 32 * 32) in
    let round : (c + 31) / 32 ≤ q = omega (arith, few) in
    omega (arith, own, round)

chosen_begin : (b : Bool) (c q : ℕ) → c ≤ 32 * q → (if b then c else up c) ≤ 32 * q
chosen_begin true c q few = few
chosen_begin false c q few = up_less c q few

chosen_after : (b : Bool) (width c : ℕ) → width ≤ 65 → (if b then c + width else c + 32) ≤ c + 65
chosen_after true width c few = omega (arith, few)
chosen_after false width c few = omega arith

one_low : (s : Scalar) (dense : Bool) (c q : ℕ) → s.width ≤ 65 → c ≤ 32 * q → IsLow (q + 4096) (one s dense c)
one_low s dense c q thin few =
    let b = begin s.width dense c in
    let start : b ≤ 32 * q = chosen_begin (dense && nat_le (c % 32 + s.width) 32) c q few in
    let word : b / 32 ≤ q = omega (arith, start) in
    let chosen = chosen_after dense s.width b thin in
    let kept = held_less (if dense then b + s.width else b + 32) in
    record { spots = (omega (arith, word), tt); cursor = omega (arith, start, chosen, kept) }

one_of_low : (s : Option Scalar) (dense : Bool) (c q : ℕ) → ((t : Scalar) → s ≡ Some t → t.width ≤ 65) → c ≤ 32 * q → IsLow (q + 4096) (one_of s dense c)
one_of_low None dense c q thin few = nothing_low (q + 4096) c (omega (arith, few))
one_of_low (Some s) dense c q thin few = one_low s dense c q (thin s refl) few

few_digits : (n : ℕ) → digits_of n ≤ 64
few_digits n = omega arith

abbrev IsThin : Scalar → Type 0
IsThin s = s.width ≤ 65

chosen_thin : (b : Bool) (s t : Scalar) → IsThin s → IsThin t → IsThin (if b then s else t)
chosen_thin true s t first later = first
chosen_thin false s t first later = later

range_thin : (l h : ℤ) → IsThin (range_scalar l h)
range_thin l h =
    let some = few_digits (max (beyond_of l) (natural_of h)) in
    let other = few_digits (natural_of h) in
    chosen_thin (int_lt l (pos 0)) (record { width = suc (digits_of (max (beyond_of l) (natural_of h))); signed = true }) (record { width = max 1 (digits_of (natural_of h)); signed = false }) (omega (arith, some)) (omega (arith, other))

-- ---- scalars

plain_low : (w : ℕ) (signed dense : Bool) (c q : ℕ) → w ≤ 65 → c ≤ 32 * q → IsLow (q + 4096) (one (record { width = w; signed = signed }) dense c)
plain_low w signed dense c q thin few = one_low (record { width = w; signed = signed }) dense c q thin few

range_low : (k : Option Bounds) (l h : ℤ) (dense : Bool) (c q : ℕ) → c ≤ 32 * q → IsLow (q + 4096) (one_of (scalar_if k (range_scalar l h)) dense c)
range_low None l h dense c q few = nothing_low (q + 4096) c (omega (arith, few))
range_low (Some b) l h dense c q few = one_low (range_scalar l h) dense c q (range_thin l h) few

members_thin : (n : ℕ) → min 32 n ≤ 65
members_thin n = omega arith

numbers_low : (n members : ℕ) (dense : Bool) (c q : ℕ) → c ≤ 32 * q → IsLow (q + n * 4096) (numbers n members dense c)
numbers_low zero members dense c q few = nothing_low (q + 0 * 4096) c (omega (arith, few))
numbers_low (suc n) members dense c q few =
    follow_low (q + 4096) (q + suc n * 4096) (one (record { width = min 32 members; signed = false }) dense c) (numbers n (members - 32) dense) (omega arith)
    (plain_low (min 32 members) false dense c q (members_thin members) few)
    (λ d less. subst (λ r. IsLow r (numbers n (members - 32) dense d)) (let same : (q + 4096) + n * 4096 ≡ q + suc n * 4096 = omega arith in same) (numbers_low n (members - 32) dense d (q + 4096) less))

closed_low : (q : ℕ) (x : Laid) → IsLow q x → IsLow q (closed x)
closed_low q x low = record { spots = low.spots; cursor = up_less x.1 q low.cursor }

-- ---- places

record IsWordPlace (p : PlaceTree) : Type 0 where
  word : p.word ≤ 4095
  start : p.start ≤ 31

word_place : (p : PlaceTree) → is_in_word p ≡ true → IsWordPlace p
word_place p is =
    let rest = both_right (nat_le p.start p.end) (nat_le p.end 31 && nat_le p.word 4095) is in
    let ordered = leb-true p.start p.end (both_left (nat_le p.start p.end) (nat_le p.end 31 && nat_le p.word 4095) is) in
    let last = leb-true p.end 31 (both_left (nat_le p.end 31) (nat_le p.word 4095) rest) in
    record { word = leb-true p.word 4095 (both_right (nat_le p.end 31) (nat_le p.word 4095) rest); start = omega (arith, ordered, last) }

spot_low : (m : ModeTree) (at : Option PlaceTree) (c q : ℕ) → is_possible_at m at ≡ true → c ≤ 32 * q → AreBelow (q + 4096) (placed_spot m at c)
spot_low m None c q fits few = tt
spot_low m (Some p) c q fits few =
    let place = word_place p (both_left (is_in_word p) (holds p (scalar_of m)) fits) in
    let word = place.word in
    let own : c / 32 ≤ q = omega (arith, few) in
    let least : min (c / 32 + p.word) 4294967295 ≤ c / 32 + p.word = omega arith in
    (omega (arith, word, own, least), tt)

end_low : (m : ModeTree) (at : Option PlaceTree) (c q : ℕ) → is_possible_at m at ≡ true → c ≤ 32 * q → spot_end at c ≤ 32 * (q + 4096)
end_low m None c q fits few = omega (arith, few)
end_low m (Some p) c q fits few =
    let place = word_place p (both_left (is_in_word p) (holds p (scalar_of m)) fits) in
    let word = place.word in
    let kept = held_less (c + 32 * p.word + 32) in
    omega (arith, word, kept, few)

placed_low : (fs : FieldNodes) (c q : ℕ) → fields_are_possible fs ≡ true → c ≤ 32 * q → IsLow (q + 4096) (placed_spots fs c, placed_end fs c)
placed_low no_fields c q fits few = nothing_low (q + 4096) c (omega (arith, few))
placed_low (more_fields n m at fs) c q fits few =
    let own = both_left (is_possible_at m at) (are_possible m && fields_are_possible fs) fits in
    let rest = placed_low fs c q (both_right (are_possible m) (fields_are_possible fs) (both_right (is_possible_at m at) (are_possible m && fields_are_possible fs) fits)) few in
    let first = end_low m at c q own few in
    let later = rest.cursor in
    record { spots = are_both (q + 4096) (placed_spot m at c) (placed_spots fs c) (spot_low m at c q own few) rest.spots; cursor = (let both : max (spot_end at c) (placed_end fs c) ≤ 32 * (q + 4096) = omega (arith, first, later) in both) }

-- ---- steps

step_fits : (n length d bit : ℕ) → steps_fit (suc n) length d bit ≡ true → (bit / 32 ≤ 4095) × (steps_fit n length d (bit + d) ≡ true)
step_fits n length d bit fits =
    let first = both_left (nat_le (bit % 32 + length) 31 && nat_le (bit / 32) 4095) (steps_fit n length d (bit + d)) fits in (
      leb-true (bit / 32) 4095 (both_right (nat_le (bit % 32 + length) 31) (nat_le (bit / 32) 4095) first),
      both_right (nat_le (bit % 32 + length) 31 && nat_le (bit / 32) 4095) (steps_fit n length d (bit + d)) fits,
    )

steps_low : (n length d bit : ℕ) (signed : Bool) (c q : ℕ) → steps_fit n length d bit ≡ true → c ≤ 32 * q + bit → AreBelow (q + 4096) (times n (step_one length signed d) c).0
steps_low zero length d bit signed c q fits few = tt
steps_low (suc n) length d bit signed c q fits few =
    let here = step_fits n length d bit fits in
    let word = here.0 in
    let own : c / 32 ≤ q + bit / 32 = omega (arith, few) in
    let kept = held_less (c + d) in
    (omega (arith, own, word), steps_low n length d (bit + d) signed (held (c + d)) q here.1 (omega (arith, kept, few)))

last_step : (n length d bit : ℕ) → steps_fit (suc n) length d bit ≡ true → (bit + n * d) / 32 ≤ 4095
last_step zero length d bit fits = let here = (step_fits zero length d bit fits).0 in omega (arith, here)
last_step (suc n) length d bit fits =
    let rest = last_step n length d (bit + d) (step_fits (suc n) length d bit fits).1 in
    let same : (bit + d) + n * d ≡ bit + suc n * d = omega arith in
    subst (λ x. x / 32 ≤ 4095) same rest

stepped_end : (first n d top : ℕ) → held (first + n * d + 1) ≤ top → step_end (suc n) d first ≤ top
stepped_end first n d top few = subst (λ k. held (first + k * d + 1) ≤ top) (let same : n ≡ suc n - 1 = omega arith in same) few

stepped_low : (e : ModeTree) (p : PlaceTree) (d n : ℕ) (signed : Bool) (c q : ℕ) → 1 ≤ n → is_possible_step n e p d ≡ true → c ≤ 32 * q → IsLow (q + 4096) (steps_laid p d n signed c)
stepped_low e p d zero signed c q some fits few = absurd (omega (arith, some))
stepped_low e p d (suc n) signed c q some fits few =
    let rest = both_right (is_possible e p) (nat_lt (p.end - p.start) d && (nat_le d 262144 && steps_fit (suc n) (p.end - p.start) d (32 * p.word + p.start))) fits in
    let last = both_right (nat_lt (p.end - p.start) d) (nat_le d 262144 && steps_fit (suc n) (p.end - p.start) d (32 * p.word + p.start)) rest in
    let fit = both_right (nat_le d 262144) (steps_fit (suc n) (p.end - p.start) d (32 * p.word + p.start)) last in
    let kept = held_less (c + 32 * p.word + p.start) in
    let first : place_bit p c ≤ 32 * q + (32 * p.word + p.start) = omega (arith, kept, few) in
    let end_bit = last_step n (p.end - p.start) d (32 * p.word + p.start) fit in
    let low : 32 * p.word + p.start + n * d ≤ 131071 = omega (arith, end_bit) in
    let behind = held_less (place_bit p c + n * d + 1) in
    record { spots = steps_low (suc n) (p.end - p.start) d (32 * p.word + p.start) signed (place_bit p c) q fit first; cursor = stepped_end (place_bit p c) n d (32 * (q + 4096)) (omega (arith, behind, first, low)) }

-- ---- modes

some_numbers : (v : ℕ) → 1 ≤ v → 1 ≤ (v + 31) / 32
some_numbers v some = omega (arith, some)

some_product : (v x : ℕ) → 1 ≤ v → 1 ≤ x → 1 ≤ v * x
some_product zero x some other = absurd (omega (arith, some))
some_product (suc v) x some other = omega (arith, other)

some_leaf : (m : ModeTree) → parts_fit m ≡ true → 1 ≤ leaves_of m
some_leaf int fits = omega arith
some_leaf boolean fits = omega arith
some_leaf char fits = omega arith
some_leaf instance fits = omega arith
some_leaf (set_of d n) fits = omega arith
some_leaf (range p l h) fits = omega arith
some_leaf (powerset m) fits = some_numbers (values_of m) (at_most 32 (values_of m) (both_right (parts_fit m) (is_from_to 1 32 (values_of m)) fits)).0
some_leaf (chars n) fits = omega arith
some_leaf (array i e how) fits =
    let inner = both_right (parts_fit i) (is_from_to 1 4096 (values_of i) && parts_fit e) fits in
    some_product (values_of i) (leaves_of e) (at_most 4096 (values_of i) (both_left (is_from_to 1 4096 (values_of i)) (parts_fit e) inner)).0 (some_leaf e (both_right (is_from_to 1 4096 (values_of i)) (parts_fit e) inner))
some_leaf (structure no_fields p) fits = absurd (true≢false (sym fits))
some_leaf (structure (more_fields n m at fs) p) fits = let first = some_leaf m (both_left (parts_fit m) (fields_fit fs) fits) in omega (arith, first)
some_leaf (event l) fits = absurd (true≢false (sym fits))
some_leaf (buffer l e) fits = absurd (true≢false (sym fits))
some_leaf (read m) fits = some_leaf m fits
some_leaf (named d n m) fits = some_leaf m fits

chosen_fields : (b : Bool) (placed plain : Laid) (q r : ℕ) → q ≤ r → (b ≡ true → IsLow q placed) → IsLow r plain → IsLow r (if b then placed else plain)
chosen_fields true placed plain q r less first later = lower q r placed less (first refl)
chosen_fields false placed plain q r less first later = later

by_product : (q v x : ℕ) → q + v * (x * 4096) ≡ q + v * x * 4096
by_product q zero x = omega arith
by_product q (suc v) x = let rest = by_product q v x in omega (arith, rest)

elements_low : (i e : ModeTree) (how : SpreadTree) (c q : ℕ) → 1 ≤ values_of i → 1 ≤ leaves_of e → is_possible_spread (values_of i) e how ≡ true → ((dense : Bool) (c q : ℕ) → c ≤ 32 * q → IsLow (q + leaves_of e * 4096) (laid e dense c)) → c ≤ 32 * q
    → IsLow (q + values_of i * leaves_of e * 4096) (elements how (values_of i) (scalar_of e) (laid e) c)
elements_low i e words c q some leaf possible each few = subst (λ r. IsLow r (times (values_of i) (laid e false) c)) (by_product q (values_of i) (leaves_of e)) (times_low (leaves_of e * 4096) (values_of i) (laid e false) c q (λ d r less. each false d r less) few)
elements_low i e packed c q some leaf possible each few = subst (λ r. IsLow r (times (values_of i) (laid e true) c)) (by_product q (values_of i) (leaves_of e)) (times_low (leaves_of e * 4096) (values_of i) (laid e true) c q (λ d r less. each true d r less) few)
elements_low i e (step p d) c q some leaf possible each few =
    let product = some_product (values_of i) (leaves_of e) some leaf in
    lower (q + 4096) (q + values_of i * leaves_of e * 4096) (steps_laid p d (values_of i) (is_signed (scalar_of e)) c) (omega (arith, product)) (stepped_low e p d (values_of i) (is_signed (scalar_of e)) c q some possible few)

mutual
  laid_low : (m : ModeTree) (dense : Bool) (c q : ℕ) → parts_fit m ≡ true → are_possible m ≡ true → c ≤ 32 * q → IsLow (q + leaves_of m * 4096) (laid m dense c)
  laid_low int dense c q fits possible few = plain_low 32 true dense c q (omega arith) few
  laid_low boolean dense c q fits possible few = plain_low 1 false dense c q (omega arith) few
  laid_low char dense c q fits possible few = plain_low 8 false dense c q (omega arith) few
  laid_low instance dense c q fits possible few = plain_low 32 false dense c q (omega arith) few
  laid_low (set_of d n) dense c q fits possible few = let digits = few_digits (n - 1) in plain_low (max 1 (digits_of (n - 1))) false dense c q (omega (arith, digits)) few
  laid_low (range p l h) dense c q fits possible few = range_low (bounds_of p) l h dense c q few
  laid_low (powerset m) dense c q fits possible few = numbers_low (numbers_of (values_of m)) (values_of m) dense c q few
  laid_low (chars n) dense c q fits possible few = lower (q + n * 4096) (q + max 1 n * 4096) (times n (one character dense) c) (omega arith) (times_low 4096 n (one character dense) c q (λ d r less. plain_low 8 false dense d r (omega arith) less) few)
  laid_low (array i e how) dense c q fits possible few =
      let inner = both_right (parts_fit i) (is_from_to 1 4096 (values_of i) && parts_fit e) fits in
      let some = (at_most 4096 (values_of i) (both_left (is_from_to 1 4096 (values_of i)) (parts_fit e) inner)).0 in
      let fit = both_right (is_from_to 1 4096 (values_of i)) (parts_fit e) inner in
      closed_low (q + values_of i * leaves_of e * 4096) (elements how (values_of i) (scalar_of e) (laid e) (up c))
      (elements_low i e how (up c) q some (some_leaf e fit) (both_left (is_possible_spread (values_of i) e how) (are_possible e) possible) (λ d x r less. laid_low e d x r fit (both_right (is_possible_spread (values_of i) e how) (are_possible e) possible) less) (up_less c q few))
  laid_low (structure fs p) dense c q fits possible few =
      let start = up_less c q few in
      let some : 1 ≤ leaves_of (structure fs p) = some_leaf (structure fs p) fits in
      closed_low (q + scalars_in_fields 1 fs * 4096) (if is_placed fs then (placed_spots fs (up c), placed_end fs (up c)) else laid_fields fs p (up c))
      (chosen_fields (is_placed fs) (placed_spots fs (up c), placed_end fs (up c)) (laid_fields fs p (up c)) (q + 4096) (q + scalars_in_fields 1 fs * 4096) (omega (arith, some)) (λ is. placed_low fs (up c) q possible start)
      (fields_low fs p (up c) q (both_right (is_filled fs) (fields_fit fs) fits) possible start))
  laid_low (event l) dense c q fits possible few = absurd (true≢false (sym fits))
  laid_low (buffer l e) dense c q fits possible few = absurd (true≢false (sym fits))
  laid_low (read m) dense c q fits possible few = laid_low m dense c q fits possible few
  laid_low (named d n m) dense c q fits possible few = laid_low m dense c q fits possible few

  fields_low : (fs : FieldNodes) (dense : Bool) (c q : ℕ) → fields_fit fs ≡ true → fields_are_possible fs ≡ true → c ≤ 32 * q → IsLow (q + scalars_in_fields 1 fs * 4096) (laid_fields fs dense c)
  fields_low no_fields dense c q fits possible few = nothing_low (q + 0 * 4096) c (omega (arith, few))
  fields_low (more_fields n m at fs) dense c q fits possible few =
      let rest = both_right (is_possible_at m at) (are_possible m && fields_are_possible fs) possible in
      follow_low (q + leaves_of m * 4096) (q + (leaves_of m + scalars_in_fields 1 fs) * 4096) (laid m dense c) (laid_fields fs dense) (omega arith)
      (laid_low m dense c q (both_left (parts_fit m) (fields_fit fs) fits) (both_left (are_possible m) (fields_are_possible fs) rest) few)
      (λ d less. subst (λ r. IsLow r (laid_fields fs dense d)) (let same : (q + leaves_of m * 4096) + scalars_in_fields 1 fs * 4096 ≡ q + (leaves_of m + scalars_in_fields 1 fs) * 4096 = omega arith in same)
      (fields_low fs dense d (q + leaves_of m * 4096) (both_right (parts_fit m) (fields_fit fs) fits) (both_right (are_possible m) (fields_are_possible fs) rest) less))

few_below : (q : ℕ) (bs : List Bits) → AreBelow q bs → words_of bs ≤ q
few_below q [] are = omega arith
few_below q (b ∷ bs) are = let own = are.0 in let rest = few_below q bs are.1 in omega (arith, own, rest)

pub few_words : (m : ModeTree) → IsOfLanguage m → are_possible m ≡ true → words_of (spots_of m) ≤ 2147483647
few_words m fits possible =
    let low = laid_low m false 0 0 fits.parts possible (omega arith) in
    let few = few_below (0 + leaves_of m * 4096) (spots_of m) low.spots in
    let size = fits.size in
    omega (arith, few, size)

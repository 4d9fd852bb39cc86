-- The bits of each scalar of a mode hold what the scalar may be.
use Rattle.std.proofs.Common.{◌≡◌, ℕ, zero, suc, ◌+◌, ◌-◌, ◌*◌, ◌/◌, ◌%◌, ◌^◌, ◌<◌, ◌≤◌, min, max, inl, inr, Bool, true, false, ◌&&◌, List, [], ◌∷◌, ◌++◌, replicate, Option, Some, None, Ok, Err, refl, sym, ap, ◌∙◌, subst, arith}
use Rattle.std.specs.Prelude.{ℤ, pos, negsuc, neg_ℤ, ◌≤ℤ◌, ◌<ℤ◌, ◌-ℤ◌, int_lt, nat_le, IsTrue, is_some, MatchBool, not, ◌||◌, if◌then◌else◌}
use Rattle.std.specs.Int.{bit_at}
use Rattle.std.proofs.Math.Nat.{pow-le-pow_right, mul_comm, div-add-mod, mod-lt}
use Rattle.std.proofs.lemmas.Nat.Bits.{bit_at-lt, bit_at-zero, bit_at_cat_high, bit_at_above, same_from_bits}
use Rattle.std.proofs.lemmas.Bool.{cases_lt}
use Rattle.std.proofs.lemmas.Bool.Decides.{nat_tests}
use Rattle.std.proofs.lemmas.Int.{ints}
use Rattle.chill_base.specs.declared.layout.Bits.{Bits}
use Rattle.kernel_base.specs.Facts.{IsSignedBelow, IsUnsignedBelow}
use Rattle.modes.specs.declared.mode.Bounds.{Bounds}
use Rattle.modes.specs.ModeTree.{ModeTree, int, boolean, char, instance, set_of, range, powerset, chars, array, structure, event, buffer, read, named, FieldNodes, no_fields, more_fields, PlaceTree, SpreadTree, words, packed, step}
use Rattle.modes.specs.Bounds.{bounds_of, bounds_in, natural_of, values_of}
use Rattle.modes.specs.Scalars.{numbers_of, repeated}
use Rattle.modes.specs.Language.{parts_fit, fields_fit, lie_in}
use Rattle.modes.proofs.SimilarLemmas.{both}
use Rattle.layout_map.specs.declared.scalar.Scalar.{Scalar}
use Rattle.layout_map.specs.Scalar.{digits_of, beyond_of, range_scalar, scalar_if, scalar_of, is_signed}
use Rattle.layout_map.specs.Place.{is_possible, is_possible_step, holds}
use Rattle.layout_map.specs.Numbered.{next_number, is_misplaced, are_mixed, all_placed, array_impossible, first_impossible, fields_impossible}
use Rattle.layout_map.specs.Spots.{times, one_of, one, begin, numbers, character, step_one, elements, is_placed, placed_spot, placed_spots, placed_end, laid, laid_fields}
use Rattle.layout_map.proofs.Narrow.{digits_enough, bounds-small, Small, scalar-narrow, IsNarrow}
use Rattle.layout_map.proofs.Placed.{then-ok, unless-ok}
use Rattle.layout_map.proofs.Steps.{le-from}
use Rattle.source_meaning.specs.Values.{Domain, within, members_from, domain_in, member_domains, domains_of, domains_of_fields, IsWithin}

-- a test that fails isn't true
pub untrue : {A : Type 0} → IsTrue false → A
untrue t = absurd (let f : ⊥ = cc in f)

-- a number in so many bits, with or without sign
abbrev pub FitsBits : Bool → ℕ → ℤ → Type 0
FitsBits signed width z = MatchBool signed (IsSignedBelow (width - 1) z) (IsUnsignedBelow width z)

-- the bits hold what the scalar may be
pub record HoldsAll (d : Domain) (signed : Bool) (width : ℕ) : Type 0 where
  pub each : (z : ℤ) → IsWithin d z → FitsBits signed width z

signed-wider : (n m : ℕ) (z : ℤ) → n ≤ m → IsSignedBelow n z → IsSignedBelow m z
signed-wider n m z h b =
    let e : 2 ^ n ≤ 2 ^ m = pow-le-pow_right {n = 2} (omega arith) {i = n} {j = m} h in
    let low = b.low in let high = b.high in record { low = omega (arith, ints, e, low); high = omega (arith, ints, e, high) }

unsigned-wider : (n m : ℕ) (z : ℤ) → n ≤ m → IsUnsignedBelow n z → IsUnsignedBelow m z
unsigned-wider n m z h b =
    let e : 2 ^ n ≤ 2 ^ m = pow-le-pow_right {n = 2} (omega arith) {i = n} {j = m} h in
    let high = b.high in record { low = b.low; high = omega (arith, ints, e, high) }

wider : (d : Domain) (signed : Bool) (n m : ℕ) → n ≤ m → HoldsAll d signed n → HoldsAll d signed m
wider d true n m h w = record { each = λ z i. signed-wider (n - 1) (m - 1) z (omega arith) (w.each z i) }
wider d false n m h w = record { each = λ z i. unsigned-wider n m z h (w.each z i) }

-- ---- a scalar

abbrev HoldsBy : Domain → Scalar → Type 0
HoldsBy d s = HoldsAll d s.signed s.width

-- a scalar alone has bits that hold it
abbrev Held : List Domain → Option Scalar → Type 0
Held ds None = Unit {0}
Held [] (Some s) = ⊥
Held (d ∷ []) (Some s) = HoldsAll d s.signed s.width
Held (d ∷ e ∷ ds) (Some s) = ⊥

power : (w : ℕ) → 1 ≤ 2 ^ w
power w = pow-le-pow_right {n = 2} (omega arith) {i = 0} {j = w} (omega arith)

split : (n w : ℕ) → n / 2 ^ w * 2 ^ w + n % 2 ^ w ≡ n
split n w = ap (λ (x : ℕ). x + n % 2 ^ w) (mul_comm (n / 2 ^ w) (2 ^ w)) ∙ div-add-mod n (2 ^ w)

rest : (n w : ℕ) → n % 2 ^ w < 2 ^ w
rest n w = mod-lt n (power w)

-- a number whose bits are below one is below a power of 2
bits_below : (n w : ℕ) → ((k : ℕ) → bit_at n k ≡ 1 → k < w) → n < 2 ^ w
bits_below n w below =
    let none : (j : ℕ) → bit_at (n / 2 ^ w) j ≡ bit_at 0 j = λ j. (
    let e : n / 2 ^ w * 2 ^ w + n % 2 ^ w ≡ n = split n w in
    let high : bit_at (n / 2 ^ w * 2 ^ w + n % 2 ^ w) (w + j) ≡ bit_at (n / 2 ^ w) (w + j - w) = bit_at_cat_high (n / 2 ^ w) w (n % 2 ^ w) (w + j) (rest n w) (omega arith) in
    let back : w + j - w ≡ j = omega arith in
    let same : bit_at n (w + j) ≡ bit_at (n / 2 ^ w) j = ap (λ (x : ℕ). bit_at x (w + j)) (sym e) ∙ (high ∙ ap (λ (i : ℕ). bit_at (n / 2 ^ w) i) back) in
    let two : bit_at n (w + j) < 2 = bit_at-lt n (w + j) in
    let not_one : (bit_at n (w + j) ≡ 1) → ⊥ = λ is. (let low : w + j < w = below (w + j) is in omega (arith, low)) in
    let no : bit_at n (w + j) ≡ 0 = grind (arith, two, not_one) in
    sym same ∙ (no ∙ sym (bit_at-zero j))) in
    let zero_above : n / 2 ^ w ≡ 0 = same_from_bits (n / 2 ^ w) 0 none in
    let e : n / 2 ^ w * 2 ^ w + n % 2 ^ w ≡ n = split n w in
    let r : n % 2 ^ w < 2 ^ w = rest n w in
    let z : n / 2 ^ w * 2 ^ w ≡ 0 * 2 ^ w = ap (λ (x : ℕ). x * 2 ^ w) zero_above in
    omega (arith, e, r, z)

plain_bits : (d : Domain) (s : Bool) (width : ℕ) → ((z : ℤ) → IsWithin d z → FitsBits s width z) → HoldsAll d s width
plain_bits d s width each = record { each = each }

members_held : (size first : ℕ) → HoldsAll (members_from size first) false (min 32 (size - first))
members_held size first = record {
  each = λ z t.
      let is : z ≡ pos t.bits = t.is in
      let word : t.bits < 2 ^ 32 = t.word in
      let low : t.bits < 2 ^ min 32 (size - first) = bits_below t.bits (min 32 (size - first)) (λ k one. (
      let member : first + k < size = t.members k one in
      let in_word : k < 32 = elim (cases_lt k 32) [
        | inl l ↦ l
        | inr h ↦ absurd (let zero_there : bit_at t.bits k ≡ 0 = bit_at_above t.bits 32 k word h in let f : ⊥ = omega (arith, one, zero_there) in f)
      ] in omega (arith, member, in_word))) in
      record { low = rw is (omega (arith, ints)); high = rw is (omega (arith, ints, low)) };
}

natural_held : (h : ℤ) (w : ℕ) → natural_of h < 2 ^ w → (z : ℤ) → pos 0 ≤ℤ z → z ≤ℤ h → IsUnsignedBelow w z
natural_held (pos n) w f z p q = record { low = p; high = omega (arith, ints, f, q) }
natural_held (negsuc n) w f z p q = absurd (let no : ⊥ = omega (arith, ints, p, q) in no)

signed_held : (l h : ℤ) (w : ℕ) → beyond_of l < 2 ^ w → natural_of h < 2 ^ w → (z : ℤ) → l ≤ℤ z → z ≤ℤ h → IsSignedBelow w z
signed_held l h w a b z p q = record { low = lower l a p; high = upper h b q }
  where
    lower : (l : ℤ) → beyond_of l < 2 ^ w → l ≤ℤ z → neg_ℤ (pos (2 ^ w)) ≤ℤ z
    lower (pos n) a p = let e : 1 ≤ 2 ^ w = power w in omega (arith, ints, e, p)
    lower (negsuc n) a p = omega (arith, ints, a, p)

    upper : (h : ℤ) → natural_of h < 2 ^ w → z ≤ℤ h → z <ℤ pos (2 ^ w)
    upper (pos n) b q = omega (arith, ints, b, q)
    upper (negsuc n) b q = let e : 1 ≤ 2 ^ w = power w in omega (arith, ints, e, q)

natural_small : (h : ℤ) → h ≤ℤ pos 2147483647 → natural_of h < 2 ^ 31
natural_small (pos n) p = omega (arith, ints, p)
natural_small (negsuc n) p = omega arith

beyond_small : (l : ℤ) → neg_ℤ (pos 2147483648) ≤ℤ l → beyond_of l < 2 ^ 31
beyond_small (pos n) p = omega arith
beyond_small (negsuc n) p = omega (arith, ints, p)

range_held : (l h : ℤ) → neg_ℤ (pos 2147483648) ≤ℤ l → h ≤ℤ pos 2147483647 → (t : Bool) → int_lt l (pos 0) ≡ t → HoldsBy (within (record { low = l; high = h })) (if t then record { width = suc (digits_of (max (beyond_of l) (natural_of h))); signed = true } else record { width = max 1 (digits_of (natural_of h)); signed = false })
range_held l h a b true e =
    let m : ℕ = max (beyond_of l) (natural_of h) in
    let small : m < 2 ^ 64 = (let x = beyond_small l a in let y = natural_small h b in omega (arith, x, y)) in
    let enough : m < 2 ^ digits_of m = digits_enough m small in
    let back : suc (digits_of m) - 1 ≡ digits_of m = omega arith in
    record { each = λ z i. subst (λ (w : ℕ). IsSignedBelow w z) (sym back) (signed_held l h (digits_of m) (omega (arith, enough)) (omega (arith, enough)) z i.0 i.1) }
range_held l h a b false e =
    let small : natural_of h < 2 ^ 64 = (let y = natural_small h b in omega (arith, y)) in
    let enough : natural_of h < 2 ^ digits_of (natural_of h) = digits_enough (natural_of h) small in
    let least : pos 0 ≤ℤ l = grind (arith, ints, e) in
    wider (within (record { low = l; high = h })) false (digits_of (natural_of h)) (max 1 (digits_of (natural_of h))) (omega arith)
    (record { each = λ z i. natural_held h (digits_of (natural_of h)) enough z (let p = i.0 in omega (arith, ints, least, p)) i.1 })

bounded_held : (o : Option Bounds) (l h : ℤ) → Small (bounds_in o l h) → Held (domain_in (bounds_in o l h) ∷ []) (scalar_if o (range_scalar l h))
bounded_held None l h s = tt
bounded_held (Some b) l h s = range_held l h s.0 s.1 (int_lt l (pos 0)) refl

set_high : (n : ℕ) (z : ℤ) (w : ℕ) → n - 1 < 2 ^ w → pos 0 ≤ℤ z → z ≤ℤ (pos n -ℤ pos 1) → z <ℤ pos (2 ^ w)
set_high n z w enough low high = omega (arith, ints, enough, low, high)

set_held : (n : ℕ) → n ≤ 4096 → HoldsAll (within (record { low = pos 0; high = pos n -ℤ pos 1 })) false (max 1 (digits_of (n - 1)))
set_held n p =
    let enough : n - 1 < 2 ^ digits_of (n - 1) = digits_enough (n - 1) (omega arith) in
    wider (within (record { low = pos 0; high = pos n -ℤ pos 1 })) false (digits_of (n - 1)) (max 1 (digits_of (n - 1))) (omega arith)
    (record { each = λ z i. record { low = i.0; high = set_high n z (digits_of (n - 1)) enough i.0 i.1 } })

one_number : (n : ℕ) → 1 ≤ n → n ≤ 32 → numbers_of n ≡ 1
one_number n p q = omega arith

powerset_held : (n : ℕ) (a b : Bool) → nat_le 1 n ≡ a → nat_le n 32 ≡ b → Held (member_domains n 0 (numbers_of n)) (if a && b then Some (record { width = n; signed = false }) else None)
powerset_held n true true p q =
    let low : 1 ≤ n = grind (arith, nat_tests, p) in
    let high : n ≤ 32 = grind (arith, nat_tests, q) in
    rw (one_number n low high) (wider (members_from n 0) false (min 32 (n - 0)) n (omega arith) (members_held n 0))
powerset_held n true false p q = tt
powerset_held n false b p q = tt

scalar_held : (m : ModeTree) → IsTrue (parts_fit m) → Held (domains_of m) (scalar_of m)
scalar_held int f = record { each = λ z i. record { low = (let p = i.0 in omega (arith, ints, p)); high = (let q = i.1 in omega (arith, ints, q)) } }
scalar_held boolean f = record { each = λ z i. record { low = i.0; high = (let q = i.1 in omega (arith, ints, q)) } }
scalar_held char f = record { each = λ z i. record { low = i.0; high = (let q = i.1 in omega (arith, ints, q)) } }
scalar_held instance f = record { each = λ z i. record { low = i.0; high = (let q = i.1 in omega (arith, ints, q)) } }
scalar_held (set_of d n) f = set_held n (le-from n 4096 (both _ _ f).1)
scalar_held (range p l h) f = bounded_held (bounds_of p) l h (bounds-small (range p l h) f)
scalar_held (powerset m) f = powerset_held (values_of m) (nat_le 1 (values_of m)) (nat_le (values_of m) 32) refl refl
scalar_held (chars n) f = tt
scalar_held (array i e how) f = tt
scalar_held (structure fs p) f = tt
scalar_held (event l) f = tt
scalar_held (buffer l e) f = tt
scalar_held (read m) f = scalar_held m f
scalar_held (named d n m) f = scalar_held m f

-- ---- lists of bits

-- the bits hold what the scalar may be
pub record Holds (d : Domain) (b : Bits) : Type 0 where
  pub each : (z : ℤ) → IsWithin d z → MatchBool b.signed (IsSignedBelow (b.end - b.start) z) (IsUnsignedBelow (b.end - b.start + 1) z)

abbrev pub EachHolds : List Domain → List Bits → Type 0
EachHolds [] [] = Unit {0}
EachHolds [] (b ∷ bs) = ⊥
EachHolds (d ∷ ds) [] = ⊥
EachHolds (d ∷ ds) (b ∷ bs) = Holds d b × EachHolds ds bs

hold_append : (ds es : List Domain) (bs cs : List Bits) → EachHolds ds bs → EachHolds es cs → EachHolds (ds ++ es) (bs ++ cs)
hold_append [] es [] cs h k = k
hold_append [] es (b ∷ bs) cs h k = absurd h
hold_append (d ∷ ds) es [] cs h k = absurd h
hold_append (d ∷ ds) es (b ∷ bs) cs h k = (h.0, hold_append ds es bs cs h.1 k)

-- bits with at least the scalar's width
in_bits : (d : Domain) (signed : Bool) (width : ℕ) (word start end : ℕ) → 1 ≤ width → width ≤ end - start + 1 → HoldsAll d signed width → Holds d (record { word = word; start = start; end = end; signed = signed })
in_bits d true width word start end p h w = record { each = λ z i. signed-wider (width - 1) (end - start) z (omega arith) (w.each z i) }
in_bits d false width word start end p h w = record { each = λ z i. unsigned-wider width (end - start + 1) z h (w.each z i) }

one_holds : (d : Domain) (s : Scalar) (dense : Bool) (c : ℕ) → (1 ≤ s.width) × (s.width ≤ 32) → HoldsAll d s.signed s.width → EachHolds (d ∷ []) (one s dense c).0
one_holds d s dense c n w =
    let b : ℕ = begin s.width dense c in
    let least = n.0 in
    let most = n.1 in
    (in_bits d s.signed s.width (b / 32) (b % 32) (min (b % 32 + s.width - 1) 4294967295) least (omega (arith, least, most)) w, tt)

one_of_holds : (ds : List Domain) (o : Option Scalar) (dense : Bool) (c : ℕ) → IsTrue (is_some o) → IsNarrow o → Held ds o → EachHolds ds (one_of o dense c).0
one_of_holds ds None dense c t n h = untrue t
one_of_holds [] (Some s) dense c t n h = absurd h
one_of_holds (d ∷ []) (Some s) dense c t n h = one_holds d s dense c n h
one_of_holds (d ∷ e ∷ ds) (Some s) dense c t n h = absurd h

scalar_holds : (m : ModeTree) (dense : Bool) (c : ℕ) → IsTrue (parts_fit m) → IsTrue (is_some (scalar_of m)) → EachHolds (domains_of m) (one_of (scalar_of m) dense c).0
scalar_holds m dense c f t = one_of_holds (domains_of m) (scalar_of m) dense c t (scalar-narrow m f) (scalar_held m f)

numbers_hold : (n size first : ℕ) (dense : Bool) (c : ℕ) → 32 * n ≤ size - first + 31 → EachHolds (member_domains size first n) (numbers n (size - first) dense c).0
numbers_hold zero size first dense c h = tt
numbers_hold (suc n) size first dense c h =
    let s : Scalar = record { width = min 32 (size - first); signed = false } in
    let now = one_holds (members_from size first) s dense c (omega arith, omega arith) (members_held size first) in
    let e : size - (first + 32) ≡ size - first - 32 = omega arith in
    let P : ℕ → Type 0 = λ x. EachHolds (member_domains size (first + 32) n) (numbers n x dense (one s dense c).1).0 in
    hold_append (members_from size first ∷ []) (member_domains size (first + 32) n) (one s dense c).0 (numbers n (size - first - 32) dense (one s dense c).1).0 now
    (subst P e (numbers_hold n size (first + 32) dense (one s dense c).1 (omega arith)))

times_hold : (n : ℕ) (ds : List Domain) (f : ℕ → List Bits × ℕ) (c : ℕ) → ((d : ℕ) → EachHolds ds (f d).0) → EachHolds (repeated n ds) (times n f c).0
times_hold zero ds f c each = tt
times_hold (suc n) ds f c each = hold_append ds (repeated n ds) (f c).0 (times n f (f c).1).0 (each c) (times_hold n ds f (f c).1 each)

text_holds : (n c : ℕ) (dense : Bool) (d : Domain) → HoldsAll d false 8 → EachHolds (replicate n d) (times n (one character dense) c).0
text_holds zero c dense d w = tt
text_holds (suc n) c dense d w =
    hold_append (d ∷ []) (replicate n d) (one character dense c).0 (times n (one character dense) (one character dense c).1).0
    (one_holds d character dense c (omega arith, omega arith) w) (text_holds n (one character dense c).1 dense d w)

-- ---- places that are written

-- a scalar at a place that has enough bits for it
placed_holds : (ds : List Domain) (o : Option Scalar) (p : PlaceTree) (word start end : ℕ) → end - start ≡ p.end - p.start → IsTrue (holds p o) → IsNarrow o → Held ds o → EachHolds ds (record { word = word; start = start; end = end; signed = is_signed o } ∷ [])
placed_holds ds None p word start end e t n h = untrue t
placed_holds [] (Some s) p word start end e t n h = absurd h
placed_holds (d ∷ []) (Some s) p word start end e t n h =
    let enough : s.width ≤ p.end - p.start + 1 = le-from s.width (p.end - p.start + 1) t in
    (in_bits d s.signed s.width word start end n.0 (omega (arith, enough, e)) h, tt)
placed_holds (d ∷ f ∷ ds) (Some s) p word start end e t n h = absurd h

step_end_at : (p : PlaceTree) (c : ℕ) → p.end ≤ 31 → min (c % 32 + (p.end - p.start)) 4294967295 - c % 32 ≡ p.end - p.start
step_end_at p c high = omega (arith, high)

step_holds : (p : PlaceTree) (e : ModeTree) (d c : ℕ) → IsTrue (parts_fit e) → IsTrue (is_possible e p) → EachHolds (domains_of e) (step_one (p.end - p.start) (is_signed (scalar_of e)) d c).0
step_holds p e d c f t =
    let high : p.end ≤ 31 = le-from p.end 31 (both _ _ (both _ _ (both _ _ t).0).1).0 in
    placed_holds (domains_of e) (scalar_of e) p (c / 32) (c % 32) (min (c % 32 + (p.end - p.start)) 4294967295) (step_end_at p c high) (both _ _ t).1 (scalar-narrow e f) (scalar_held e f)

step_possible : (t : Bool) (number k : ℕ) → (if t then Ok (next_number number) else Err number) ≡ Ok k → IsTrue t
step_possible true number k e = refl
step_possible false number k e = absurd (let f : ⊥ = cc in f)

array_holds : (how : SpreadTree) (v c number k : ℕ) (e : ModeTree) (f : Bool → ℕ → List Bits × ℕ) → IsTrue (parts_fit e) → array_impossible v e how number ≡ Ok k → ((t : Bool) (d : ℕ) → EachHolds (domains_of e) (f t d).0) → EachHolds (repeated v (domains_of e)) (elements how v (scalar_of e) f c).0
array_holds words v c number k e f fit ok each = times_hold v (domains_of e) (f false) c (each false)
array_holds packed v c number k e f fit ok each = times_hold v (domains_of e) (f true) c (each true)
array_holds (step p d) v c number k e f fit ok each =
    times_hold v (domains_of e) (step_one (p.end - p.start) (is_signed (scalar_of e)) d) _
    (λ at. step_holds p e d at fit (both _ _ (step_possible (is_possible_step v e p d) number k ok)).0)

not_mixed : (a b : Bool) → (a && not b) ≡ false → IsTrue a → IsTrue b
not_mixed true true e t = refl
not_mixed true false e t = absurd (let f : ⊥ = cc in f)
not_mixed false b e t = untrue t

first_apart : (mixed q : Bool) → (mixed || not q) ≡ false → (mixed ≡ false) × IsTrue q
first_apart true q e = absurd (let f : ⊥ = cc in f)
first_apart false true e = (refl, refl)
first_apart false false e = absurd (let f : ⊥ = cc in f)

-- where the first field has a place each has one
all_have : (fs : FieldNodes) (number k : ℕ) → fields_impossible fs (are_mixed fs) number ≡ Ok k → IsTrue (is_placed fs) → IsTrue (all_placed fs)
all_have no_fields number k ok t = refl
all_have (more_fields name m None fs) number k ok t = untrue t
all_have (more_fields name m (Some p) fs) number k ok t =
    let mixed : Bool = are_mixed (more_fields name m (Some p) fs) in
    let s = then-ok (if mixed || not (is_possible m p) then Err number else first_impossible m (next_number number)) (fields_impossible fs mixed) k ok in
    let u = unless-ok (mixed || not (is_possible m p)) number (first_impossible m (next_number number)) s.0 s.1 in
    not_mixed true (all_placed fs) (first_apart mixed (is_possible m p) u.0).0 refl

spots_hold : (fs : FieldNodes) (mixed : Bool) (c number k : ℕ) → IsTrue (fields_fit fs) → IsTrue (all_placed fs) → fields_impossible fs mixed number ≡ Ok k → EachHolds (domains_of_fields fs) (placed_spots fs c)
spots_hold no_fields mixed c number k f t ok = tt
spots_hold (more_fields name m None fs) mixed c number k f t ok = untrue t
spots_hold (more_fields name m (Some p) fs) mixed c number k f t ok =
    let s = then-ok (if mixed || not (is_possible m p) then Err number else first_impossible m (next_number number)) (fields_impossible fs mixed) k ok in
    let u = unless-ok (mixed || not (is_possible m p)) number (first_impossible m (next_number number)) s.0 s.1 in
    let possible : IsTrue (is_possible m p) = (first_apart mixed (is_possible m p) u.0).1 in
    hold_append (domains_of m) (domains_of_fields fs) (placed_spot m (Some p) c) (placed_spots fs c)
    (placed_holds (domains_of m) (scalar_of m) p (min (c / 32 + p.word) 4294967295) p.start p.end refl (both _ _ possible).1 (scalar-narrow m (both _ _ f).0) (scalar_held m (both _ _ f).0))
    (spots_hold fs mixed c s.0 k (both _ _ f).1 t s.2)

structure_holds : (placed : Bool) (fs : FieldNodes) (p : Bool) (c number k : ℕ) → is_placed fs ≡ placed → IsTrue (fields_fit fs) → fields_impossible fs (are_mixed fs) number ≡ Ok k → EachHolds (domains_of_fields fs) (laid_fields fs p c).0 → EachHolds (domains_of_fields fs) (if placed then (placed_spots fs c, placed_end fs c) else laid_fields fs p c).0
structure_holds true fs p c number k e f ok each = spots_hold fs (are_mixed fs) c number k f (all_have fs number k ok e) ok
structure_holds false fs p c number k e f ok each = each

some_there : (o : Option Bounds) (l h : ℤ) (s : Scalar) → IsTrue (lie_in l h o) → IsTrue (is_some (scalar_if o s))
some_there None l h s t = t
some_there (Some b) l h s t = refl

mutual
  -- the bits of each scalar of a mode hold what the scalar may be
  pub mode_holds : (m : ModeTree) (dense : Bool) (c number k : ℕ) → IsTrue (parts_fit m) → first_impossible m number ≡ Ok k → EachHolds (domains_of m) (laid m dense c).0
  mode_holds int dense c number k f ok = scalar_holds int dense c f refl
  mode_holds boolean dense c number k f ok = scalar_holds boolean dense c f refl
  mode_holds char dense c number k f ok = scalar_holds char dense c f refl
  mode_holds instance dense c number k f ok = scalar_holds instance dense c f refl
  mode_holds (set_of d n) dense c number k f ok = scalar_holds (set_of d n) dense c f refl
  mode_holds (range p l h) dense c number k f ok = scalar_holds (range p l h) dense c f (some_there (bounds_of p) l h (range_scalar l h) (both _ _ f).1)
  mode_holds (powerset m) dense c number k f ok =
      let e : values_of m - 0 ≡ values_of m = omega arith in
      subst (λ (n : ℕ). EachHolds (member_domains (values_of m) 0 (numbers_of (values_of m))) (numbers (numbers_of (values_of m)) n dense c).0) e
      (numbers_hold (numbers_of (values_of m)) (values_of m) 0 dense c (omega arith))
  mode_holds (chars n) dense c number k f ok = text_holds n c dense (domain_in (bounds_of char)) (scalar_held char refl)
  mode_holds (array i e how) dense c number k f ok =
      let s = then-ok (array_impossible (values_of i) e how number) (first_impossible e) k ok in
      let fit : IsTrue (parts_fit e) = (both _ _ (both _ _ f).1).1 in
      array_holds how (values_of i) _ number s.0 e (laid e) fit s.1 (λ t d. mode_holds e t d s.0 k fit s.2)
  mode_holds (structure fs p) dense c number k f ok =
      structure_holds (is_placed fs) fs p _ number k refl (both _ _ f).1 ok (fields_hold fs p _ (are_mixed fs) number k (both _ _ f).1 ok)
  mode_holds (event l) dense c number k f ok = untrue f
  mode_holds (buffer l e) dense c number k f ok = untrue f
  mode_holds (read m) dense c number k f ok = mode_holds m dense c number k f ok
  mode_holds (named d n m) dense c number k f ok = mode_holds m dense c number k f ok

  pub fields_hold : (fs : FieldNodes) (dense : Bool) (c : ℕ) (mixed : Bool) (number k : ℕ) → IsTrue (fields_fit fs) → fields_impossible fs mixed number ≡ Ok k → EachHolds (domains_of_fields fs) (laid_fields fs dense c).0
  fields_hold no_fields dense c mixed number k f ok = tt
  fields_hold (more_fields name m at fs) dense c mixed number k f ok =
      let s = then-ok (if is_misplaced m at mixed then Err number else first_impossible m (next_number number)) (fields_impossible fs mixed) k ok in
      let t = unless-ok (is_misplaced m at mixed) number (first_impossible m (next_number number)) s.0 s.1 in
      hold_append (domains_of m) (domains_of_fields fs) (laid m dense c).0 (laid_fields fs dense (laid m dense c).1).0
      (mode_holds m dense c (next_number number) s.0 (both _ _ f).0 t.1) (fields_hold fs dense (laid m dense c).1 mixed s.0 k (both _ _ f).1 s.2)

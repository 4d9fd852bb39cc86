-- A scalar of a mode that a text can give has 1 to 32 bits.
use Rattle.std.proofs.Common.{◌≡◌, ℕ, zero, suc, ◌+◌, ◌-◌, ◌*◌, ◌^◌, ◌<◌, ◌≤◌, inl, inr, max, Bool, true, false, ◌&&◌, Option, Some, None, refl, subst, arith}
use Rattle.std.specs.Prelude.{ℤ, pos, negsuc, neg_ℤ, ◌≤ℤ◌, int_le, int_lt, nat_le, IsTrue, if◌then◌else◌}
use Rattle.std.proofs.Math.Nat.{pow-le-pow_right}
use Rattle.std.proofs.lemmas.Nat.{leading_length, pow-add}
use Rattle.std.proofs.lemmas.Bool.{cases_lt}
use Rattle.std.proofs.lemmas.Bool.Decides.{nat_tests}
use Rattle.std.proofs.lemmas.Int.{ints}
use Rattle.std.specs.Int.{leading_zeros, w64}
use Rattle.modes.specs.declared.mode.Bounds.{Bounds}
use Rattle.modes.specs.ModeTree.{ModeTree, int, boolean, char, instance, set_of, range, powerset, chars, array, structure, event, buffer, read, named, FieldNodes, no_fields, more_fields}
use Rattle.modes.specs.Bounds.{bounds_of, bounds_in, natural_of, values_of}
use Rattle.modes.specs.Scalars.{scalars_in_fields, leaves_of}
use Rattle.modes.specs.Language.{parts_fit, fields_fit, is_filled, lie_in, is_from_to}
use Rattle.modes.proofs.SimilarLemmas.{both}
use Rattle.layout_map.specs.declared.scalar.Scalar.{Scalar}
use Rattle.layout_map.specs.Scalar.{digits_of, beyond_of, range_scalar, set_scalar, scalar_if, scalar_of}

-- a number below 2 ^ k has at most k digits
pub digits_within : (x k : ℕ) → k ≤ 63 → x < 2 ^ k → digits_of x ≤ k
digits_within x k h p =
    let e : 2 ^ k ≤ 2 ^ 64 = pow-le-pow_right {n = 2} (omega arith) {i = k} {j = 64} (omega arith) in
    let w = leading_length 64 x (let q : x < 2 ^ 64 = omega (arith, e) in q) in
    elim (cases_lt k w.0) [
      | inl r ↦ absurd (let s : 2 ^ (k + 1) ≤ 2 ^ w.0 = pow-le-pow_right {n = 2} (omega arith) {i = k + 1} {j = w.0} (omega arith) in
          let t : 2 ^ (k + 1) ≡ 2 ^ k * 2 ^ 1 = pow-add 2 k 1 in
          let u : 2 ^ w.0 ≤ 2 * x + 1 = w.3 in omega (arith, s, t, u))
      | inr r ↦ (let u : leading_zeros w64 x + w.0 ≡ 64 = w.1 in omega (arith, u))
    ]

abbrev pub Small : Option Bounds → Type 0
Small None = Unit {0}
Small (Some b) = (neg_ℤ (pos 2147483648) ≤ℤ b.low) × (b.high ≤ℤ pos 2147483647)

range-small : (o : Option Bounds) (l h : ℤ) → Small o → IsTrue (lie_in l h o) → Small (bounds_in o l h)
range-small None l h s t = tt
range-small (Some b) l h s t =
    let p : IsTrue (int_le b.low l) = (both _ _ (both _ _ t).1).0 in
    let q : IsTrue (int_le h b.high) = (both _ _ (both _ _ t).1).1 in
    (grind (arith, ints, p, s.0), grind (arith, ints, q, s.1))

number-from : (low high n : ℕ) → IsTrue (is_from_to low high n) → (low ≤ n) × (n ≤ high)
number-from low high n h =
    let p : IsTrue (nat_le low n) = (both _ _ h).0 in
    let q : IsTrue (nat_le n high) = (both _ _ h).1 in
    (grind (arith, nat_tests, p), grind (arith, nat_tests, q))

-- bounds are in INT
pub bounds-small : (m : ModeTree) → IsTrue (parts_fit m) → Small (bounds_of m)
bounds-small int f = (omega (arith, ints), omega (arith, ints))
bounds-small boolean f = (omega (arith, ints), omega (arith, ints))
bounds-small char f = (omega (arith, ints), omega (arith, ints))
bounds-small instance f = tt
bounds-small (set_of d n) f = let g : (1 ≤ n) × (n ≤ 4096) = number-from 1 4096 n f in (omega (arith, ints), omega (arith, ints, g.1))
bounds-small (range p l h) f = range-small (bounds_of p) l h (bounds-small p (both _ _ f).0) (both _ _ f).1
bounds-small (powerset m) f = tt
bounds-small (chars n) f = tt
bounds-small (array i e how) f = tt
bounds-small (structure fs p) f = tt
bounds-small (event l) f = tt
bounds-small (buffer l e) f = tt
bounds-small (read m) f = bounds-small m f
bounds-small (named d n m) f = bounds-small m f

-- 1 to 32 bits
abbrev pub IsNarrow : Option Scalar → Type 0
IsNarrow None = Unit {0}
IsNarrow (Some s) = (1 ≤ s.width) × (s.width ≤ 32)

abbrev Narrow : Scalar → Type 0
Narrow s = (1 ≤ s.width) × (s.width ≤ 32)

either : (t : Bool) (a b : Scalar) → Narrow a → Narrow b → Narrow (if t then a else b)
either true a b p q = p
either false a b p q = q

natural-small : (h : ℤ) → h ≤ℤ pos 2147483647 → natural_of h < 2 ^ 31
natural-small (pos n) p = omega (arith, ints, p)
natural-small (negsuc n) p = omega arith

beyond-small : (l : ℤ) → neg_ℤ (pos 2147483648) ≤ℤ l → beyond_of l < 2 ^ 31
beyond-small (pos n) p = omega arith
beyond-small (negsuc n) p = omega (arith, ints, p)

range-narrow : (l h : ℤ) → neg_ℤ (pos 2147483648) ≤ℤ l → h ≤ℤ pos 2147483647 → Narrow (range_scalar l h)
range-narrow l h p q =
    let a : natural_of h < 2 ^ 31 = natural-small h q in
    let b : beyond_of l < 2 ^ 31 = beyond-small l p in
    let c : digits_of (natural_of h) ≤ 31 = digits_within (natural_of h) 31 (omega arith) a in
    let d : digits_of (max (beyond_of l) (natural_of h)) ≤ 31 = digits_within (max (beyond_of l) (natural_of h)) 31 (omega arith) (omega (arith, a, b)) in
    either (int_lt l (pos 0)) (record { width = suc (digits_of (max (beyond_of l) (natural_of h))); signed = true }) (record { width = max 1 (digits_of (natural_of h)); signed = false })
    (omega arith, omega (arith, d)) (omega arith, omega (arith, c))

some-range : (o : Option Bounds) (l h : ℤ) → Small (bounds_in o l h) → IsNarrow (scalar_if o (range_scalar l h))
some-range None l h s = tt
some-range (Some b) l h s = range-narrow l h s.0 s.1

set-narrow : (n : ℕ) → n ≤ 4096 → Narrow (set_scalar n)
set-narrow n h =
    let d : digits_of (n - 1) ≤ 12 = digits_within (n - 1) 12 (omega arith) (omega arith) in (omega arith, omega (arith, d))

powerset-by : (n : ℕ) (a b : Bool) → nat_le 1 n ≡ a → nat_le n 32 ≡ b → IsNarrow (if a && b then Some (record { width = n; signed = false }) else None)
powerset-by n true true p q = (grind (arith, nat_tests, p), grind (arith, nat_tests, q))
powerset-by n true false p q = tt
powerset-by n false b p q = tt

pub scalar-narrow : (m : ModeTree) → IsTrue (parts_fit m) → IsNarrow (scalar_of m)
scalar-narrow int f = (omega arith, omega arith)
scalar-narrow boolean f = (omega arith, omega arith)
scalar-narrow char f = (omega arith, omega arith)
scalar-narrow instance f = (omega arith, omega arith)
scalar-narrow (set_of d n) f = set-narrow n (number-from 1 4096 n f).1
scalar-narrow (range p l h) f = some-range (bounds_of p) l h (bounds-small (range p l h) f)
scalar-narrow (powerset m) f = powerset-by (values_of m) (nat_le 1 (values_of m)) (nat_le (values_of m) 32) refl refl
scalar-narrow (chars n) f = tt
scalar-narrow (array i e how) f = tt
scalar-narrow (structure fs p) f = tt
scalar-narrow (event l) f = tt
scalar-narrow (buffer l e) f = tt
scalar-narrow (read m) f = scalar-narrow m f
scalar-narrow (named d n m) f = scalar-narrow m f

product-least : (a b : ℕ) → 1 ≤ a → 1 ≤ b → 1 ≤ a * b
product-least zero b p q = absurd (omega arith)
product-least (suc a) b p q = omega arith

mutual
  -- a mode has a leaf
  pub leaf-least : (m : ModeTree) → IsTrue (parts_fit m) → 1 ≤ leaves_of m
  leaf-least int f = omega arith
  leaf-least boolean f = omega arith
  leaf-least char f = omega arith
  leaf-least instance f = omega arith
  leaf-least (set_of d n) f = omega arith
  leaf-least (range p l h) f = omega arith
  leaf-least (powerset m) f = let g : (1 ≤ values_of m) × (values_of m ≤ 32) = number-from 1 32 (values_of m) (both _ _ f).1 in omega (arith, g.0)
  leaf-least (chars n) f = omega arith
  leaf-least (array i e how) f =
      product-least (values_of i) (leaves_of e) (number-from 1 4096 (values_of i) (both _ _ (both _ _ f).1).0).0 (leaf-least e (both _ _ (both _ _ f).1).1)
  leaf-least (structure fs p) f = field-least fs (both _ _ f).0 (both _ _ f).1
  leaf-least (event l) f = cc
  leaf-least (buffer l e) f = cc
  leaf-least (read m) f = leaf-least m f
  leaf-least (named d n m) f = leaf-least m f

  field-least : (fs : FieldNodes) → IsTrue (is_filled fs) → IsTrue (fields_fit fs) → 1 ≤ scalars_in_fields 1 fs
  field-least no_fields t f = cc
  field-least (more_fields name m at fs) t f = let l : 1 ≤ leaves_of m = leaf-least m (both _ _ f).0 in omega (arith, l)

pub values-from : (m : ModeTree) → IsTrue (is_from_to 1 4096 (values_of m)) → (1 ≤ values_of m) × (values_of m ≤ 4096)
values-from m h = number-from 1 4096 (values_of m) h

pub members-from : (m : ModeTree) → IsTrue (is_from_to 1 32 (values_of m)) → (1 ≤ values_of m) × (values_of m ≤ 32)
members-from m h = number-from 1 32 (values_of m) h

-- a number is below 2 to the number of its digits
pub digits_enough : (x : ℕ) → x < 2 ^ 64 → x < 2 ^ digits_of x
digits_enough x h =
    let w = leading_length 64 x h in
    let u : leading_zeros w64 x + w.0 ≡ 64 = w.1 in
    let e : w.0 ≡ digits_of x = omega (arith, u) in
    let P : ℕ → Type 0 = λ k. x < 2 ^ k in subst P e w.2

pub ruleset width_laws = (digits_within, digits_enough)

-- Bounds of modes: they are in order, within INT, and within those of their root.
use Rattle.std.proofs.Common.{◌≡◌, ◌<◌, ◌≤◌, ℕ, zero, suc, ◌+◌, ◌-◌, ◌==◌, ◌&&◌, ◌||◌, Bool, true, false, Option, Some, None, ℤ, pos, negsuc, ◌≤ℤ◌, ◌+ℤ◌, ◌-ℤ◌, refl, sym, ap, ◌∙◌, subst, arith, true≢false}
use Rattle.std.proofs.lemmas.Int.{ints}
use Rattle.std.proofs.lemmas.Bool.{leb-true}
use Rattle.std.specs.Prelude.{int_le, not, neg_ℤ, nat_le, min, IsSome, is_some}
use Rattle.modes.specs.declared.mode.Bounds.{Bounds}
use Rattle.modes.specs.ModeTree.{ModeTree, int, boolean, char, instance, set_of, range, powerset, chars, array, structure, event, buffer, read, named}
use Rattle.modes.specs.Bounds.{bounds_of, bounds_in, natural_of, count_between, count_within, values_of}
use Rattle.modes.specs.Roots.{root_of}
use Rattle.modes.specs.Language.{parts_fit, is_from_to, lie_in}
use Rattle.scalar_operators.specs.Numbers.{is_between, is_int, least_int, greatest_int}
use Rattle.elaborated_laws.proofs.Told.{no_some, same_some, both_left, both_right}
use Rattle.elaborated_laws.proofs.Classes.{inner_bounds, parent_of}
use Rattle.constant_laws.specs.Values.{IsBetween}

pub below : (a b : ℤ) → int_le a b ≡ true → a ≤ℤ b
below a b h = grind (arith, ints, h)

pub above : (a b : ℤ) → a ≤ℤ b → int_le a b ≡ true
above a b h = grind (arith, ints, h)

pub trans : (a b c : ℤ) → a ≤ℤ b → b ≤ℤ c → a ≤ℤ c
trans a b c h k = grind (arith, ints, h, k)

pub itself : (a : ℤ) → a ≤ℤ a
itself a = grind (arith, ints)

pub between : (b : Bounds) (z : ℤ) → is_between b.low b.high z ≡ true → IsBetween (Some b) z
between b z h = (below b.low z (both_left (int_le b.low z) (int_le z b.high) h), below z b.high (both_right (int_le b.low z) (int_le z b.high) h))

abbrev pub int_bounds : Bounds
int_bounds = record { low = neg_ℤ (pos 2147483648); high = pos 2147483647 }

pub of_int : (z : ℤ) → is_int z ≡ true → IsBetween (Some int_bounds) z
of_int z h = between int_bounds z h

-- the bounds lie within others
abbrev pub IsInside : Bounds → Bounds → Type 0
IsInside b c = (c.low ≤ℤ b.low) × (b.high ≤ℤ c.high)

pub inside : (b c : Bounds) (z : ℤ) → IsInside b c → IsBetween (Some b) z → IsBetween (Some c) z
inside b c z within is = (trans c.low b.low z within.0 is.0, trans z b.high c.high is.1 within.1)

pub at_most : (high n : ℕ) → is_from_to 1 high n ≡ true → (1 ≤ n) × (n ≤ high)
at_most high n fits = (leb-true 1 n (both_left (nat_le 1 n) (nat_le n high) fits), leb-true n high (both_right (nat_le 1 n) (nat_le n high) fits))

set_ordered : (n : ℕ) → 1 ≤ n → pos 0 ≤ℤ (pos n -ℤ pos 1)
set_ordered n some = grind (arith, ints, some)

set_inside : (n : ℕ) → 1 ≤ n → n ≤ 4096 → IsInside (record { low = pos 0; high = pos n -ℤ pos 1 }) int_bounds
set_inside n some few = (grind (arith, ints), grind (arith, ints, some, few))

record RangeIn (l h : ℤ) (k : Option Bounds) : Type 0 where
  parent : Bounds
  is : k ≡ Some parent
  ordered : l ≤ℤ h
  within : IsInside (record { low = l; high = h }) parent

range_in : (l h : ℤ) (k : Option Bounds) → lie_in l h k ≡ true → RangeIn l h k
range_in l h None fits = absurd (true≢false (sym fits))
range_in l h (Some b) fits =
    let rest = both_right (int_le l h) (int_le b.low l && int_le h b.high) fits in
    record {
      parent = b;
      is = refl;
      ordered = below l h (both_left (int_le l h) (int_le b.low l && int_le h b.high) fits);
      within = (below b.low l (both_left (int_le b.low l) (int_le h b.high) rest), below h b.high (both_right (int_le b.low l) (int_le h b.high) rest));
    }

-- bounds of a discrete mode
pub record AreInOrder (b : Bounds) : Type 0 where
  pub ordered : b.low ≤ℤ b.high
  pub within : IsInside b int_bounds

pub bounds_fit : (m : ModeTree) (b : Bounds) → parts_fit m ≡ true → bounds_of m ≡ Some b → AreInOrder b
bounds_fit int b fits is = subst AreInOrder (same_some int_bounds b is) (record { ordered = below int_bounds.low int_bounds.high refl; within = (below int_bounds.low int_bounds.low refl, below int_bounds.high int_bounds.high refl) })
bounds_fit boolean b fits is = subst AreInOrder (same_some (record { low = pos 0; high = pos 1 }) b is) (record { ordered = below (pos 0) (pos 1) refl; within = (below int_bounds.low (pos 0) refl, below (pos 1) int_bounds.high refl) })
bounds_fit char b fits is = subst AreInOrder (same_some (record { low = pos 0; high = pos 255 }) b is) (record { ordered = below (pos 0) (pos 255) refl; within = (below int_bounds.low (pos 0) refl, below (pos 255) int_bounds.high refl) })
bounds_fit instance b fits is = no_some b is
bounds_fit (set_of d n) b fits is =
    let few = at_most 4096 n fits in
    subst AreInOrder (same_some (record { low = pos 0; high = pos n -ℤ pos 1 }) b is) (record { ordered = set_ordered n few.0; within = set_inside n few.0 few.1 })
bounds_fit (range p l h) b fits is =
    let r = range_in l h (bounds_of p) (both_right (parts_fit p) (lie_in l h (bounds_of p)) fits) in
    let own = bounds_fit p r.parent (both_left (parts_fit p) (lie_in l h (bounds_of p)) fits) r.is in
    subst AreInOrder (same_some (record { low = l; high = h }) b (sym (ap (λ k. bounds_in k l h) r.is) ∙ is))
    (record { ordered = r.ordered; within = (trans int_bounds.low r.parent.low l own.within.0 r.within.0, trans h r.parent.high int_bounds.high r.within.1 own.within.1) })
bounds_fit (powerset m) b fits is = no_some b is
bounds_fit (chars n) b fits is = no_some b is
bounds_fit (array i e how) b fits is = no_some b is
bounds_fit (structure fs p) b fits is = no_some b is
bounds_fit (event l) b fits is = no_some b is
bounds_fit (buffer l e) b fits is = no_some b is
bounds_fit (read m) b fits is = bounds_fit m b fits is
bounds_fit (named d n m) b fits is = bounds_fit m b fits is

-- ---- offsets in bounds

natural_least : (z : ℤ) (j : ℕ) → j < natural_of z → pos (suc j) ≤ℤ z
natural_least (pos n) j less = grind (arith, ints, less)
natural_least (negsuc n) j less = absurd (omega (arith, less))

-- an offset below the number of values
pub offset_within : (b : Bounds) (j : ℕ) → j < count_between b.low b.high → IsBetween (Some b) (b.low +ℤ pos j)
offset_within b j less =
    let counted : j < natural_of (b.high -ℤ b.low +ℤ pos 1) = omega (arith, less) in
    let least = natural_least (b.high -ℤ b.low +ℤ pos 1) j counted in
    (grind (arith, ints), grind (arith, ints, least))

pub next_within : (b : Bounds) (z : ℤ) → IsBetween (Some b) z → int_le b.high z ≡ false → IsBetween (Some b) (z +ℤ pos 1)
next_within b z is more = let low = is.0 in (grind (arith, ints, low), grind (arith, ints, more))

pub last_within : (b : Bounds) (z : ℤ) → IsBetween (Some b) z → int_le z b.low ≡ false → IsBetween (Some b) (z -ℤ pos 1)
last_within b z is more = let high = is.1 in (grind (arith, ints, more), grind (arith, ints, high))

-- a number that isn't above INT
pub natural_within : (n : ℕ) → n ≤ 2147483647 → IsBetween (Some int_bounds) (pos n)
natural_within n few = (grind (arith, ints), grind (arith, ints, few))

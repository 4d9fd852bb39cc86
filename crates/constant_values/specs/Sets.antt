-- Powersets by which offsets are members, and the operators on the numbers that tell of members.
use Rattle.std.specs.Prelude.{ℕ, zero, suc, ◌+◌, Bool, true, ◌&&◌, ◌||◌, not, if◌then◌else◌, Option, Some, None, ℤ, pos, int_le, ◌≡◌}
use Rattle.chill_tree.specs.declared.tree.expr.Operator.{Operator}
use Rattle.chill_tree.specs.declared.tree.expr.Operator.TheVariants as ops
use Rattle.scalar_operators.specs.Powersets.{union, intersection, difference, symmetric_difference}

-- the operator on one number of each of two powersets
abbrev pub word_operator : Operator → ℤ → ℤ → ℤ
word_operator ops.Or = union
word_operator ops.OrIf = union
word_operator ops.And = intersection
word_operator ops.AndIf = intersection
word_operator ops.Minus = difference
word_operator _ = symmetric_difference

-- two offsets of one number of a powerset, of which the one is an offset of a member where the other is the same
pub record AreAsOne (a b : ℤ) : Type 0 where
  pub from : (k : ℕ) → int_le a (pos k) ≡ int_le b (pos k)
  pub to : (k : ℕ) → int_le (pos k) a ≡ int_le (pos k) b

-- ---- of the offsets below a number, those that are members

abbrev pub count_below : (ℕ → Bool) → ℕ → ℕ
count_below f zero = 0
count_below f (suc n) = count_below f n + (if f n then 1 else 0)

abbrev pub or_last : ℕ → Option ℕ → Bool → Option ℕ
or_last n (Some k) here = Some k
or_last n None here = if here then Some n else None

abbrev pub least_below : (ℕ → Bool) → ℕ → Option ℕ
least_below f zero = None
least_below f (suc n) = or_last n (least_below f n) (f n)

abbrev pub greatest_below : (ℕ → Bool) → ℕ → Option ℕ
greatest_below f zero = None
greatest_below f (suc n) = if f n then Some n else greatest_below f n

abbrev pub included_below : (ℕ → Bool) → (ℕ → Bool) → ℕ → Bool
included_below f g zero = true
included_below f g (suc n) = included_below f g n && (not (f n) || g n)

abbrev pub same_below : (ℕ → Bool) → (ℕ → Bool) → ℕ → Bool
same_below f g n = included_below f g n && included_below g f n

-- Operators and routines on values, by `scalar_operators`, with the exceptions that they raise.
use Rattle.std.specs.Prelude.{ℕ, ◌+◌, Bool, true, not, ◌&&◌, List, [], ◌∷◌, ℤ, pos, ◌+ℤ◌, ◌-ℤ◌, ◌*ℤ◌, neg_ℤ, int_le, length, Option, Some, None, if◌then◌else◌}
use Rattle.kernel_base.specs.declared.ends.Exc.{Exc}
use Rattle.kernel_base.specs.declared.ends.Exc.TheVariants.{Overflow, Empty}
use Rattle.modes.specs.declared.mode.Bounds.{Bounds}
use Rattle.modes.specs.Bounds.{count_between}
use Rattle.modes.specs.Scalars.{numbers_of}
use Rattle.checked_program.specs.declared.expr.Binary.{Binary}
use Rattle.checked_program.specs.declared.expr.Binary.TheVariants.{Add, Subtract, Multiply, Divide, Modulo, Remainder, And, Or, Xor, AndIf, OrIf, Equal, NotEqual, Less, LessOrEqual, Greater, GreaterOrEqual, Union, Intersection, SymmetricDifference, Difference, Included, ProperlyIncluded, Includes, ProperlyIncludes, Member}
use Rattle.checked_program.specs.declared.expr.Prefix.{Prefix}
use Rattle.checked_program.specs.declared.expr.Prefix.TheVariants.{Minus, Not, Complement}
use Rattle.checked_program.specs.declared.expr.Routine.{Routine}
use Rattle.checked_program.specs.declared.expr.Routine.TheVariants.{Number, Absolute, Cardinality, Successor, Predecessor, Least, Greatest}
use Rattle.scalar_operators.specs.Numbers.{is_between, is_scalar, where_true, truth_number, truth_of, int_result, quotient, remainder, modulus, magnitude, same_numbers, comes_before}
use Rattle.scalar_operators.specs.Powersets.{first_of_list, last_of_list}
use Rattle.scalar_operators.specs.Members.{no_members, union_of, intersection_of, symmetric_difference_of, difference_of, complement_of, is_subset, has_offset_of, offsets_of, span_in}

-- the number of a value that is one
abbrev pub sole_number : List ℤ → ℤ
sole_number [] = pos 0
sole_number (x ∷ xs) = x

-- the number in a value is TRUE
abbrev pub is_true : List ℤ → Bool
is_true xs = truth_of (sole_number xs)

abbrev pub one : ℤ → List ℤ
one x = x ∷ []

abbrev pub truth : Bool → List ℤ
truth b = one (truth_number b)

-- a value, or an exception
pub data Computed : Type 0 where
  Yields : List ℤ → Computed
  Throws : Exc → Computed

abbrev pub yields_or : Exc → Option ℤ → Computed
yields_or x None = Throws x
yields_or x (Some z) = Yields (one z)

-- a number of INT, or OVERFLOW
abbrev pub in_int : ℤ → Computed
in_int z = yields_or Overflow (int_result z)

-- The offset of an index or a member within bounds, with so many scalars each; none outside them. That the offset is no
-- number of 64 bits can't come, since no location has so many scalars.
abbrev pub offset_within : Bounds → ℕ → ℤ → Option ℤ
offset_within b size x = if is_between b.low b.high x then where_true (is_scalar ((x -ℤ b.low) *ℤ pos size)) ((x -ℤ b.low) *ℤ pos size) else None

-- the number is that of a member; none outside the member mode's bounds is
abbrev pub is_member : Bounds → ℤ → List ℤ → Bool
is_member b x set = is_between b.low b.high x && has_offset_of (x -ℤ b.low) set

-- how many numbers a powerset has whose members lie within bounds
abbrev pub width_of : Bounds → ℕ
width_of b = numbers_of (count_between b.low b.high)

-- the powerset without members, and with those from one offset to another besides
abbrev pub empty_within : Bounds → List ℤ
empty_within b = no_members (width_of b)

abbrev pub with_span : Bounds → ℤ → ℤ → List ℤ → List ℤ
with_span b j k set = union_of set (span_in (width_of b) j k)

-- the powerset without the member at an offset
abbrev pub without_offset : ℕ → List ℤ → List ℤ
without_offset k set = difference_of set (span_in (length set) (pos k) (pos k))

-- An operator on two values. Of ANDIF and ORIF it is the value where the second is evaluated, which is that of the second.
abbrev pub binary_value : Binary → List ℤ → List ℤ → Computed
binary_value Add xs ys = in_int (sole_number xs +ℤ sole_number ys)
binary_value Subtract xs ys = in_int (sole_number xs -ℤ sole_number ys)
binary_value Multiply xs ys = in_int (sole_number xs *ℤ sole_number ys)
binary_value Divide xs ys = yields_or Overflow (quotient (sole_number xs) (sole_number ys))
binary_value Modulo xs ys = yields_or Overflow (modulus (sole_number xs) (sole_number ys))
binary_value Remainder xs ys = yields_or Overflow (remainder (sole_number xs) (sole_number ys))
binary_value And xs ys = Yields (truth (is_true xs && is_true ys))
binary_value Or xs ys = Yields (truth (if is_true xs then true else is_true ys))
binary_value Xor xs ys = Yields (truth (if is_true xs then not (is_true ys) else is_true ys))
binary_value AndIf xs ys = Yields ys
binary_value OrIf xs ys = Yields ys
binary_value Equal xs ys = Yields (truth (same_numbers xs ys))
binary_value NotEqual xs ys = Yields (truth (not (same_numbers xs ys)))
binary_value Less xs ys = Yields (truth (comes_before xs ys))
binary_value LessOrEqual xs ys = Yields (truth (not (comes_before ys xs)))
binary_value Greater xs ys = Yields (truth (comes_before ys xs))
binary_value GreaterOrEqual xs ys = Yields (truth (not (comes_before xs ys)))
binary_value Union xs ys = Yields (union_of xs ys)
binary_value Intersection xs ys = Yields (intersection_of xs ys)
binary_value SymmetricDifference xs ys = Yields (symmetric_difference_of xs ys)
binary_value Difference xs ys = Yields (difference_of xs ys)
binary_value Included xs ys = Yields (truth (is_subset xs ys))
binary_value ProperlyIncluded xs ys = Yields (truth (is_subset xs ys && not (same_numbers xs ys)))
binary_value Includes xs ys = Yields (truth (is_subset ys xs))
binary_value ProperlyIncludes xs ys = Yields (truth (is_subset ys xs && not (same_numbers ys xs)))
binary_value (Member b) xs ys = Yields (truth (is_member b (sole_number xs) ys))

-- the second operand is evaluated
abbrev pub takes_second : Binary → List ℤ → Bool
takes_second AndIf xs = is_true xs
takes_second OrIf xs = not (is_true xs)
takes_second o xs = true

abbrev pub prefix_value : Prefix → List ℤ → Computed
prefix_value Minus xs = in_int (neg_ℤ (sole_number xs))
prefix_value Not xs = Yields (truth (not (is_true xs)))
prefix_value (Complement members) xs = Yields (complement_of members xs)

-- The member of an offset, or EMPTY where there is none. OVERFLOW can't come, since members are values of a discrete mode.
abbrev pub member_at : ℤ → Option ℕ → Computed
member_at low None = Throws Empty
member_at low (Some k) = in_int (pos k +ℤ low)

abbrev pub routine_value : Routine → List ℤ → Computed
routine_value Number xs = Yields xs
routine_value Absolute xs = in_int (magnitude (sole_number xs))
routine_value Cardinality xs = Yields (one (pos (length (offsets_of xs))))
routine_value (Successor high) xs = yields_or Overflow (if int_le high (sole_number xs) then None else Some (sole_number xs +ℤ pos 1))
routine_value (Predecessor low) xs = yields_or Overflow (if int_le (sole_number xs) low then None else Some (sole_number xs -ℤ pos 1))
routine_value (Least low) xs = member_at low (first_of_list (offsets_of xs))
routine_value (Greatest low) xs = member_at low (last_of_list (offsets_of xs))

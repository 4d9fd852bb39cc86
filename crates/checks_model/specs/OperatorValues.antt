-- The operators and routines on value trees, by which constants are computed. None is where an exception would be raised.
use Rattle.std.specs.Prelude.{ℕ, zero, suc, ◌+◌, Bool, true, false, ◌&&◌, ◌||◌, not, if◌then◌else◌, List, [], ◌∷◌, map, Option, Some, None, option_map, option_and_then, ℤ, pos, negsuc, ◌+ℤ◌, ◌-ℤ◌, ◌*ℤ◌, neg_ℤ, int_le}
use Rattle.scalar_operators.specs.Numbers.{int_result, truth_number, truth_of, quotient, remainder, modulus, magnitude}
use Rattle.chill_tree.specs.declared.tree.expr.Operator.{Operator}
use Rattle.chill_tree.specs.declared.tree.expr.Operator.TheVariants as ops
use Rattle.chill_tree.specs.declared.tree.expr.Prefix.{Prefix}
use Rattle.chill_tree.specs.declared.tree.expr.Prefix.TheVariants as prefixes
use Rattle.modes.specs.declared.mode.Bounds.{Bounds}
use Rattle.modes.specs.ModeTree.{ModeTree, ClassTree}
use Rattle.modes.specs.Form.{FormTree, form_of, of_powerset}
use Rattle.modes.specs.Bounds.{bounds_of}
use Rattle.layout_map.specs.Spots.{spots_of, words_of}
use Rattle.checks_model.specs.Alike.{mode_in}
use Rattle.checks_model.specs.ValueTrees.{ValueTree, number, members, same_value, is_less}
use Rattle.checks_model.specs.Ground.{Predefined, num, succ, pred, abs, card, min, max, upper, lower, size}
use Rattle.checks_model.specs.Operations.{is_arithmetic, is_logic, is_on_sets, form_in, measured_mode}

-- ---- operators

-- a number of INT
abbrev pub in_int : ℤ → Option ValueTree
in_int n = option_map number (int_result n)

abbrev pub truth_value : Bool → ValueTree
truth_value b = number (truth_number b)

abbrev pub arithmetic : Operator → ℤ → ℤ → Option ValueTree
arithmetic ops.Plus a b = in_int (a +ℤ b)
arithmetic ops.Minus a b = in_int (a -ℤ b)
arithmetic ops.Times a b = in_int (a *ℤ b)
arithmetic ops.Divide a b = option_map number (quotient a b)
arithmetic ops.Rem a b = option_map number (remainder a b)
arithmetic ops.Mod a b = option_map number (modulus a b)
arithmetic _ a b = None

-- ---- on the members of two powersets, or on two truth values

abbrev pub zipped : (Bool → Bool → Bool) → List Bool → List Bool → List Bool
zipped f (a ∷ as') (b ∷ bs) = f a b ∷ zipped f as' bs
zipped f _ _ = []

abbrev pub logic : Operator → Bool → Bool → Bool
logic ops.Or a b = a || b
logic ops.OrIf a b = a || b
logic ops.And a b = a && b
logic ops.AndIf a b = a && b
logic ops.Minus a b = a && not b
logic _ a b = (a || b) && not (a && b)

abbrev pub holds_between : Operator → ValueTree → ValueTree → Bool
holds_between ops.Equal a b = same_value a b
holds_between ops.NotEqual a b = not (same_value a b)
holds_between ops.Less a b = is_less a b
holds_between ops.LessOrEqual a b = is_less a b || same_value a b
holds_between ops.Greater a b = is_less b a
holds_between ops.GreaterOrEqual a b = is_less b a || same_value a b
holds_between _ a b = false

abbrev pub is_true : ValueTree → Bool
is_true (number n) = truth_of n
is_true _ = false

abbrev pub member_at : ℕ → List Bool → Bool
member_at k [] = false
member_at zero (b ∷ bs) = b
member_at (suc k) (b ∷ bs) = member_at k bs

abbrev pub has_offset : ℤ → List Bool → Bool
has_offset (pos k) bs = member_at k bs
has_offset (negsuc k) bs = false

abbrev pub is_in : ValueTree → Option Bounds → ValueTree → Bool
is_in (number n) (Some b) (members bs) = has_offset (n -ℤ b.low) bs
is_in _ _ _ = false

abbrev pub member_bounds : Option FormTree → Option Bounds
member_bounds (Some (of_powerset m)) = bounds_of m
member_bounds _ = None

-- the value of an operator between two operands that fit it, the right one of a class
abbrev pub value_of_binary : Operator → ClassTree → ValueTree → ValueTree → Option ValueTree
value_of_binary ops.In c v w = Some (truth_value (is_in v (member_bounds (form_in c)) w))
value_of_binary op c (members as') (members bs) = Some (if is_on_sets op then members (zipped (logic op) as' bs) else truth_value (holds_between op (members as') (members bs)))
value_of_binary op c (number a) (number b) = if is_arithmetic op then arithmetic op a b else Some (truth_value (if is_logic op then logic op (is_true (number a)) (is_true (number b)) else holds_between op (number a) (number b)))
value_of_binary op c v w = Some (truth_value (holds_between op v w))

abbrev pub value_of_unary : Prefix → ValueTree → Option ValueTree
value_of_unary prefixes.Minus (number n) = in_int (neg_ℤ n)
value_of_unary prefixes.Not (number n) = Some (truth_value (not (truth_of n)))
value_of_unary prefixes.Not (members bs) = Some (members (map not bs))
value_of_unary _ v = None

abbrev pub count_true : List Bool → ℕ
count_true [] = 0
count_true (b ∷ bs) = (if b then 1 else 0) + count_true bs

-- the offset of the least member
abbrev pub least_of : List Bool → Option ℕ
least_of [] = None
least_of (true ∷ bs) = Some 0
least_of (false ∷ bs) = option_map suc (least_of bs)

abbrev pub later_or : Option ℕ → Bool → Option ℕ
later_or (Some k) b = Some (suc k)
later_or None b = if b then Some 0 else None

-- the offset of the greatest member
abbrev pub greatest_of : List Bool → Option ℕ
greatest_of [] = None
greatest_of (b ∷ bs) = later_or (greatest_of bs) b

abbrev pub at_offset : Option Bounds → Option ℕ → Option ValueTree
at_offset (Some b) (Some k) = Some (number (b.low +ℤ pos k))
at_offset _ _ = None

-- the next number, where it isn't past a bound
abbrev pub up_to : Option Bounds → ℤ → Option ValueTree
up_to (Some b) n = if int_le b.high n then None else Some (number (n +ℤ pos 1))
up_to None n = None

abbrev pub down_to : Option Bounds → ℤ → Option ValueTree
down_to (Some b) n = if int_le n b.low then None else Some (number (n -ℤ pos 1))
down_to None n = None

abbrev pub class_bounds : ClassTree → Option Bounds
class_bounds c = option_and_then bounds_of (mode_in c)

abbrev pub value_of_routine : Predefined → ClassTree → ValueTree → Option ValueTree
value_of_routine num c (number n) = Some (number n)
value_of_routine succ c (number n) = up_to (class_bounds c) n
value_of_routine pred c (number n) = down_to (class_bounds c) n
value_of_routine abs c (number n) = in_int (magnitude n)
value_of_routine card c (members bs) = Some (number (pos (count_true bs)))
value_of_routine min c (members bs) = at_offset (member_bounds (form_in c)) (least_of bs)
value_of_routine max c (members bs) = at_offset (member_bounds (form_in c)) (greatest_of bs)
value_of_routine _ c v = None

-- UPPER and LOWER of a mode: its bounds, or those of its indices. SIZE: the words that its scalars take
abbrev pub value_of_measure : Predefined → ModeTree → Option ValueTree
value_of_measure upper m = option_map (λ b. number b.high) (bounds_of (measured_mode m (form_of m)))
value_of_measure lower m = option_map (λ b. number b.low) (bounds_of (measured_mode m (form_of m)))
value_of_measure size m = Some (number (pos (words_of (spots_of m))))
value_of_measure _ m = None

-- The instructions of what holds no expression: scalars and copies, tests, operators and routines, contents and assignment.
use Rattle.std.specs.Prelude.{ℕ, zero, suc, ◌+◌, ◌-◌, ◌*◌, min, nat_lt, Bool, true, false, not, ◌&&◌, List, [], ◌∷◌, ◌++◌, ℤ, pos, ◌+ℤ◌, int_le, length, map, Option, Some, None, slice_get, if◌then◌else◌}
use Rattle.code_types.specs.declared.instr.Instr.{Instr}
use Rattle.code_types.specs.declared.instr.Instr.TheVariants as i
use Rattle.modes.specs.declared.mode.Bounds.{Bounds}
use Rattle.modes.specs.ModeTree.{int, boolean}
use Rattle.modes.specs.Bounds.{bounds_of}
use Rattle.modes.specs.Scalars.{lowest_of}
use Rattle.checked_program.specs.declared.expr.Base.{Base}
use Rattle.checked_program.specs.declared.expr.Base.TheVariants.{Shared, Local}
use Rattle.checked_program.specs.declared.expr.Binary.{Binary}
use Rattle.checked_program.specs.declared.expr.Binary.TheVariants.{Add, Subtract, Multiply, Divide, Modulo, Remainder, And, Or, Xor, AndIf, OrIf, Equal, NotEqual, Less, LessOrEqual, Greater, GreaterOrEqual, Union, Intersection, SymmetricDifference, Difference, Included, ProperlyIncluded, Includes, ProperlyIncludes, Member}
use Rattle.checked_program.specs.declared.expr.Prefix.{Prefix}
use Rattle.checked_program.specs.declared.expr.Prefix.TheVariants.{Minus, Not, Complement}
use Rattle.checked_program.specs.declared.expr.Routine.{Routine}
use Rattle.checked_program.specs.declared.expr.Routine.TheVariants.{Number, Absolute, Cardinality, Successor, Predecessor, Least, Greatest}
use Rattle.program_trees.specs.ExprTree.{ExprTree, expr, OperationTree, constant, ReceivedTree, received, PartNodes, no_parts, field, element, LocationTree, location, ArgumentNodes, no_arguments, in_argument, out_argument, inout_argument}
use Rattle.program_trees.specs.ProgramTree.{LocalRowTree, BodyRowTree, CheckedTree}

-- where an expression or a statement stands: the program, and the locals of the body
pub record Layout : Type 0 where
  pub program : CheckedTree
  pub rows : List LocalRowTree

abbrev pub layout_in : CheckedTree → BodyRowTree → Layout
layout_in program body = record { program = program; rows = body.locals }

-- a number of 32 bits: one that is greater is held as the greatest
abbrev pub capped : ℕ → ℕ
capped n = min n 4294967295

-- a number of 64 bits: one that is greater is held as the greatest
abbrev pub capped_number : ℤ → ℤ
capped_number x = if int_le x (pos 9223372036854775807) then x else pos 9223372036854775807

-- ---- scalars and copies

abbrev pub pushes : List ℤ → List Instr
pushes xs = map i.Push xs

-- copies of a value of n scalars until there are so many of it, each time of as many as are there or as are wanting: at most so
-- many times
abbrev pub copies_from : ℕ → ℕ → ℕ → ℕ → List Instr
copies_from zero there elements n = []
copies_from (suc k) there elements n =
    if nat_lt there elements
    then i.Copy (min there (elements - there) * n) ∷ copies_from k (there + min there (elements - there)) elements n
    else []

-- the copies of one value; a number of 32 bits is reached by 32 doublings
abbrev pub copies_code : ℕ → ℕ → List Instr
copies_code elements n = copies_from 32 1 elements n

-- a scalar so many times
abbrev pub run_code : ℤ → ℕ → List Instr
run_code x zero = []
run_code x (suc n) = i.Push x ∷ copies_code (suc n) 1

abbrev pub are_same : ℤ → ℤ → Bool
are_same x y = int_le x y && int_le y x

-- the run of a scalar that another one ends, and how often the other one stands there then
abbrev pub run_ended : ℤ → ℕ → ℤ → List Instr
run_ended x n y = if nat_lt 0 n && are_same x y then [] else run_code x n

abbrev pub run_behind : ℤ → ℕ → ℤ → ℕ
run_behind x n y = if nat_lt 0 n && are_same x y then suc n else 1

-- scalars behind so many equal ones
abbrev pub scalars_from : ℤ → ℕ → List ℤ → List Instr
scalars_from x n [] = run_code x n
scalars_from x n (y ∷ ys) = if nat_lt 0 n && are_same x y then scalars_from x (suc n) ys else run_code x n ++ scalars_from y 1 ys

-- Scalars in order. Of equal ones behind each other the first is pushed and the others are copied.
abbrev pub scalars_code : List ℤ → List Instr
scalars_code xs = scalars_from (pos 0) 0 xs

-- ---- tests

-- what lies in its own bounds is tested against those of what takes it, or not at all where its own lie in them
abbrev pub bounds_to_test : Option Bounds → Option Bounds → Option Bounds
bounds_to_test None own = None
bounds_to_test (Some b) None = Some b
bounds_to_test (Some b) (Some own) = if int_le b.low own.low && int_le own.high b.high then None else Some b

-- the bounds in which a constant lies: its number, where it is one
abbrev pub bounds_of_constant : List ℤ → Option Bounds
bounds_of_constant [] = None
bounds_of_constant (x ∷ []) = Some (record { low = x; high = x })
bounds_of_constant (x ∷ y ∷ ys) = None

-- the bounds in which a value lies by what it is: a constant's own number, else those of the root of its mode
abbrev pub bounds_of_operation : Option Bounds → OperationTree → Option Bounds
bounds_of_operation own (constant xs) = bounds_of_constant xs
bounds_of_operation own o = own

abbrev pub bounds_of_value : ExprTree → Option Bounds
bounds_of_value (expr n own o) = bounds_of_operation own o

-- the bounds in which the value of an operator lies: INT for those on numbers, 0 and 1 for those on Booleans
abbrev pub bounds_of_operator : Binary → Option Bounds
bounds_of_operator Add = bounds_of int
bounds_of_operator Subtract = bounds_of int
bounds_of_operator Multiply = bounds_of int
bounds_of_operator Divide = bounds_of int
bounds_of_operator Modulo = bounds_of int
bounds_of_operator Remainder = bounds_of int
bounds_of_operator And = bounds_of boolean
bounds_of_operator Or = bounds_of boolean
bounds_of_operator Xor = bounds_of boolean
bounds_of_operator o = None

-- the bounds that a received value is tested by, the contents of an INOUT argument, and what a parameter has that is copied out:
-- an OUT parameter's lies in INT, an INOUT parameter's in its own bounds
abbrev pub tested : ReceivedTree → Option Bounds
tested (received e bounds) = bounds_to_test bounds (bounds_of_value e)

abbrev pub tested_in : Option Bounds → Option Bounds → Option Bounds
tested_in taken bounds = bounds_to_test taken bounds

abbrev pub tested_out : Option Bounds → Option Bounds
tested_out bounds = bounds_to_test bounds (bounds_of int)

abbrev pub tested_back : Option Bounds → Option Bounds → Option Bounds
tested_back taken bounds = bounds_to_test bounds taken

abbrev pub check_code : Option Bounds → List Instr
check_code None = []
check_code (Some b) = i.Check b.low b.high ∷ []

-- ---- operators and routines

-- the member of the offset on top, where the least one is this number
abbrev pub member_code : ℤ → List Instr
member_code low = if are_same low (pos 0) then [] else i.Push low ∷ i.Add ∷ []

-- the offset of the member on top
abbrev pub offset_code : ℤ → List Instr
offset_code low = if are_same low (pos 0) then [] else i.Push low ∷ i.Sub ∷ []

-- The number on top, or 32 above the least member for one outside the bounds: no powerset has that offset.
abbrev pub member_or_none : Option Bounds → ℕ → List Instr
member_or_none None at = []
member_or_none (Some b) at =
    i.Copy 1 ∷ i.Push b.low ∷ i.Less 1 ∷ i.Copy 2 ∷ i.Pop 1 ∷ i.Push (capped_number (b.high +ℤ pos 1)) ∷ i.Less 1 ∷ i.Not ∷ i.Or ∷ i.Unless (at + 12) ∷ i.Pop 1 ∷ i.Push (capped_number (b.low +ℤ pos 32)) ∷ []

-- what stands between two operands, from a place on: the first lies in its own bounds, and the second has so many instructions
abbrev pub between_code : Binary → Option Bounds → ℕ → ℕ → List Instr
between_code AndIf own at second = i.Copy 1 ∷ i.Unless (at + (second + 3)) ∷ i.Pop 1 ∷ []
between_code OrIf own at second = i.Copy 1 ∷ i.Unless (at + 3) ∷ i.Jump (at + (second + 4)) ∷ i.Pop 1 ∷ []
between_code (Member b) own at second = member_or_none (bounds_to_test (Some b) own) at ++ offset_code b.low
between_code o own at second = []

-- how many instructions that are
abbrev pub between_size : Binary → Option Bounds → ℕ
between_size o own = length (between_code o own 0 0)

-- two values of n scalars change places
abbrev pub swap_code : ℕ → List Instr
swap_code n = i.Copy (2 * n) ∷ i.Part n (2 * n) (4 * n) ∷ []

-- whether the lower powerset is included in the upper and differs from it
abbrev pub properly_code : List Instr
properly_code = i.Copy 2 ∷ i.Within ∷ i.Copy 3 ∷ i.Part 2 3 6 ∷ i.Same 1 ∷ i.Not ∷ i.And ∷ []

-- what stands behind two operands of n scalars each
abbrev pub behind_code : Binary → ℕ → List Instr
behind_code Add n = i.Add ∷ []
behind_code Subtract n = i.Sub ∷ []
behind_code Multiply n = i.Mul ∷ []
behind_code Divide n = i.Div ∷ []
behind_code Modulo n = i.Mod ∷ []
behind_code Remainder n = i.Rem ∷ []
behind_code And n = i.And ∷ []
behind_code Or n = i.Or ∷ []
behind_code Xor n = i.Xor ∷ []
behind_code AndIf n = []
behind_code OrIf n = []
behind_code Equal n = i.Same n ∷ []
behind_code NotEqual n = i.Same n ∷ i.Not ∷ []
behind_code Less n = i.Less n ∷ []
behind_code GreaterOrEqual n = i.Less n ∷ i.Not ∷ []
behind_code Greater n = swap_code n ++ i.Less n ∷ []
behind_code LessOrEqual n = swap_code n ++ i.Less n ∷ i.Not ∷ []
behind_code Union n = i.BitOr ∷ []
behind_code Intersection n = i.BitAnd ∷ []
behind_code SymmetricDifference n = i.BitXor ∷ []
behind_code Difference n = i.BitMinus ∷ []
behind_code Included n = i.Within ∷ []
behind_code ProperlyIncluded n = properly_code
behind_code Includes n = swap_code 1 ++ i.Within ∷ []
behind_code ProperlyIncludes n = swap_code 1 ++ properly_code
behind_code (Member b) n = i.Has ∷ []

abbrev pub behind_size : Binary → ℕ
behind_size o = length (behind_code o 0)

abbrev pub prefix_code : Prefix → List Instr
prefix_code Minus = i.Neg ∷ []
prefix_code Not = i.Not ∷ []
prefix_code (Complement m) = i.BitNot m ∷ []

-- what stands behind the argument of a routine
abbrev pub routine_code : Routine → List Instr
routine_code Number = []
routine_code Absolute = i.Abs ∷ []
routine_code Cardinality = i.Card ∷ []
routine_code (Successor high) = i.Succ high ∷ []
routine_code (Predecessor low) = i.Pred low ∷ []
routine_code (Least low) = i.Least ∷ member_code low
routine_code (Greatest low) = i.Most ∷ member_code low

-- ---- conditions: a jump to a place where the Boolean on top has this value

abbrev pub branch_code : Bool → ℕ → ℕ → List Instr
branch_code false target at = i.Unless target ∷ []
branch_code true target at = i.Unless (at + 2) ∷ i.Jump target ∷ []

abbrev pub branch_size : Bool → ℕ
branch_size true = 2
branch_size false = 1

-- the value of a first operand that decides the whole
abbrev pub decided_by : Binary → Option Bool
decided_by AndIf = Some false
decided_by OrIf = Some true
decided_by o = None

-- the operator itself, or the one whose value it turns round
abbrev pub straight : Binary → Binary
straight NotEqual = Equal
straight GreaterOrEqual = Less
straight LessOrEqual = Greater
straight o = o

abbrev pub is_turned : Binary → Bool
is_turned NotEqual = true
is_turned GreaterOrEqual = true
is_turned LessOrEqual = true
is_turned o = false

-- the value for which a jump is made behind the straight operator
abbrev pub turned : Binary → Bool → Bool
turned o when = if is_turned o then not when else when

-- ---- locations

abbrev pub has_index : PartNodes → Bool
has_index no_parts = false
has_index (field first count ps) = has_index ps
has_index (element e b count ps) = true

-- the number of the first scalar that the fields lead to
abbrev pub first_of_parts : PartNodes → ℕ
first_of_parts no_parts = 0
first_of_parts (field first count ps) = first + first_of_parts ps
first_of_parts (element e b count ps) = first_of_parts ps

-- the place of every shared location is an offset on the stack, and that of a local with an index
abbrev pub needs_offset : Base → PartNodes → Bool
needs_offset (Shared l) ps = true
needs_offset (Local k) ps = has_index ps

abbrev pub has_offset : LocationTree → Bool
has_offset (location b ps n) = needs_offset b ps

abbrev pub first_in : Option LocalRowTree → ℕ
first_in None = 0
first_in (Some row) = row.first

-- the first scalar of a local's part, without its indices
abbrev pub first_at : Layout → ℕ → PartNodes → ℕ
first_at lay k ps = first_in (slice_get lay.rows k) + first_of_parts ps

-- the contents of a location, whose place stands on top
abbrev pub contents_at : Layout → Base → PartNodes → ℕ → List Instr
contents_at lay (Shared l) ps n = i.Read l (first_of_parts ps) n ∷ []
contents_at lay (Local k) ps n = if has_index ps then i.LocalAt (first_at lay k ps) n ∷ [] else i.Local (first_at lay k ps) n ∷ []

abbrev pub contents_code : Layout → LocationTree → List Instr
contents_code lay (location b ps n) = contents_at lay b ps n

-- the value on top is assigned to a location, whose place stands below it
abbrev pub store_at : Layout → Base → PartNodes → ℕ → List Instr
store_at lay (Shared l) ps n = i.Write l (first_of_parts ps) n ∷ []
store_at lay (Local k) ps n = if has_index ps then i.SetLocalAt (first_at lay k ps) n ∷ [] else i.SetLocal (first_at lay k ps) n ∷ []

abbrev pub store_code : Layout → LocationTree → List Instr
store_code lay (location b ps n) = store_at lay b ps n

-- these instructions, where the place of a location has an offset
abbrev pub where_offset : LocationTree → List Instr → List Instr
where_offset l is = if has_offset l then is else []

abbrev pub offsets_kept : LocationTree → ℕ
offsets_kept l = if has_offset l then 1 else 0

-- the place on top once more
abbrev pub again_code : LocationTree → List Instr
again_code l = where_offset l (i.Copy 1 ∷ [])

-- the place on top is kept in a scratch local, and is found there
abbrev pub keep_code : LocationTree → ℕ → List Instr
keep_code l kept = where_offset l (i.SetLocal kept 1 ∷ [])

abbrev pub kept_code : LocationTree → ℕ → List Instr
kept_code l kept = where_offset l (i.Local kept 1 ∷ [])

abbrev pub location_scalars : LocationTree → ℕ
location_scalars (location b ps n) = n

-- a place that is kept goes below the value on top, by way of the scratch locals from `free` on
abbrev pub under_code : LocationTree → ℕ → ℕ → List Instr
under_code l kept free = where_offset l (i.SetLocal free (location_scalars l) ∷ i.Local kept 1 ∷ i.Local free (location_scalars l) ∷ [])

-- ---- what a call copies out

-- the parameter on top is tested and assigned to the location of its argument
abbrev pub copy_out_code : Layout → LocationTree → Option Bounds → ℕ → ℕ → List Instr
copy_out_code lay l bounds kept free = check_code bounds ++ (under_code l kept free ++ store_code lay l)

-- places are kept from one scratch local on, up to another, which is free
abbrev pub copies_out : Layout → ArgumentNodes → ℕ → ℕ → List Instr
copies_out lay no_arguments kept free = []
copies_out lay (in_argument r as') kept free = copies_out lay as' kept free
copies_out lay (out_argument l bounds as') kept free = copy_out_code lay l (tested_out bounds) kept free ++ copies_out lay as' (kept + offsets_kept l) free
copies_out lay (inout_argument l taken bounds as') kept free = copy_out_code lay l (tested_back taken bounds) kept free ++ copies_out lay as' (kept + offsets_kept l) free

-- the scratch local behind the places that are kept from one on
abbrev pub kept_behind : ArgumentNodes → ℕ → ℕ
kept_behind no_arguments kept = kept
kept_behind (in_argument r as') kept = kept_behind as' kept
kept_behind (out_argument l bounds as') kept = kept_behind as' (kept + offsets_kept l)
kept_behind (inout_argument l taken bounds as') kept = kept_behind as' (kept + offsets_kept l)

-- the lowest value of a parameter
abbrev pub lowest_in_row : Option LocalRowTree → List ℤ
lowest_in_row None = []
lowest_in_row (Some row) = lowest_of row.mode

-- so many scalars: the first ones, and 0 behind them where there are fewer
abbrev pub fitted : ℕ → List ℤ → List ℤ
fitted zero xs = []
fitted (suc n) [] = pos 0 ∷ fitted n []
fitted (suc n) (x ∷ xs) = x ∷ fitted n xs

-- the lowest value of a parameter whose argument has so many scalars, as it has in each program that breaks no rule
abbrev pub lowest_as : ℕ → Option LocalRowTree → List ℤ
lowest_as n row = fitted n (lowest_in_row row)

abbrev pub rows_of : Option BodyRowTree → List LocalRowTree
rows_of None = []
rows_of (Some b) = b.locals

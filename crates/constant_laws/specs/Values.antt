-- Which value trees are values of a mode: those of its shape, within its bounds. Similar modes have one shape, so that their values
-- differ by bounds alone.
use Rattle.std.specs.Prelude.{◌≡◌, ℕ, suc, length, ℤ, pos, ◌≤ℤ◌, Option, Some, None}
use Rattle.modes.specs.declared.mode.Bounds.{Bounds}
use Rattle.modes.specs.ModeTree.{ModeTree, ClassTree, value, derived, null, nothing, char}
use Rattle.modes.specs.Bounds.{bounds_of, count_within}
use Rattle.modes.specs.Similar.{Shape, shape_of, like_int, like_boolean, like_char, like_instance, like_set, like_powerset, like_chars, like_array, like_structure, like_none, part, no_more, next_field}
use Rattle.checks_model.specs.OperatorValues.{class_bounds}
use Rattle.checks_model.specs.ValueTrees.{ValueTree, number, members, parts, ValueNodes, no_values, more_values}

-- within bounds; where there are none, an instance
abbrev pub IsBetween : Option Bounds → ℤ → Type 0
IsBetween None z = (pos 0 ≤ℤ z) × (z ≤ℤ pos 4294967295)
IsBetween (Some b) z = (b.low ≤ℤ z) × (z ≤ℤ b.high)

-- the bounds and the shape of a part
abbrev pub part_bounds : Shape → Option Bounds
part_bounds (part n r b s) = b
part_bounds s = None

abbrev pub part_shape : Shape → Shape
part_shape (part n r b s) = s
part_shape s = s

abbrev mutual
  -- a value of a shape; where the shape is one of numbers, within bounds
  pub IsOfShape : Option Bounds → Shape → ValueTree → Type 0
  IsOfShape b like_int (number z) = IsBetween b z
  IsOfShape b like_boolean (number z) = IsBetween b z
  IsOfShape b like_char (number z) = IsBetween b z
  IsOfShape b like_instance (number z) = IsBetween b z
  IsOfShape b (like_set d n) (number z) = IsBetween b z
  IsOfShape b (like_powerset m) (members bs) = length bs ≡ count_within (part_bounds m)
  IsOfShape b (like_chars n) (parts vs) = AreOfShape n (bounds_of char) like_char vs
  IsOfShape b (like_array i c e how) (parts vs) = AreOfShape (count_within c) (part_bounds e) (part_shape e) vs
  IsOfShape b (like_structure fs p) (parts vs) = AreFieldsOf fs vs
  IsOfShape b s v = ⊥

  -- so many values of one shape
  pub AreOfShape : ℕ → Option Bounds → Shape → ValueNodes → Type 0
  AreOfShape n b s no_values = n ≡ 0
  AreOfShape n b s (more_values v vs) = (k : ℕ) × ((n ≡ suc k) × (IsOfShape b s v × AreOfShape k b s vs))

  -- a value for each field
  pub AreFieldsOf : Shape → ValueNodes → Type 0
  AreFieldsOf no_more no_values = Unit {0}
  AreFieldsOf (next_field name at m fs) (more_values v vs) = IsOfShape (part_bounds m) (part_shape m) v × AreFieldsOf fs vs
  AreFieldsOf s vs = ⊥

abbrev pub IsOfMode : ModeTree → ValueTree → Type 0
IsOfMode m v = IsOfShape (bounds_of m) (shape_of m) v

-- the shape of a class's values; NULL is an instance
abbrev pub shape_in : ClassTree → Shape
shape_in (value m) = shape_of m
shape_in (derived m) = shape_of m
shape_in null = like_instance
shape_in nothing = like_none

-- a value of a class's mode
abbrev pub FitsClass : ClassTree → ValueTree → Type 0
FitsClass c v = IsOfShape (class_bounds c) (shape_in c) v

-- The modes that a text can give to a location.
use Rattle.std.specs.Prelude.{ℕ, zero, suc, ◌≤◌, ℤ, int_le, Bool, true, false, ◌&&◌, nat_le, is_some, Option, Some, None, IsTrue}
use Rattle.modes.specs.declared.mode.Bounds.{Bounds}
use Rattle.modes.specs.ModeTree.{ModeTree, int, boolean, char, instance, set_of, range, powerset, chars, array, structure, event, buffer, read, named, FieldNodes, no_fields, more_fields}
use Rattle.modes.specs.Bounds.{bounds_of, values_of}
use Rattle.modes.specs.Scalars.{leaves_of}

-- a number from `low` to `high`
abbrev pub is_from_to : ℕ → ℕ → ℕ → Bool
is_from_to low high n = nat_le low n && nat_le n high

-- the bounds are in order, and lie in those of the parent, which is discrete
abbrev pub lie_in : ℤ → ℤ → Option Bounds → Bool
lie_in low high None = false
lie_in low high (Some b) = int_le low high && (int_le b.low low && int_le high b.high)

-- there is a field
abbrev pub is_filled : FieldNodes → Bool
is_filled no_fields = false
is_filled (more_fields name m at fs) = true

abbrev mutual
  -- Bounds are in order and in their parent, members and indices are discrete, no event or buffer is in it, a structure
  -- has a field, and the numbers are within their limits: 1 to 4,096 elements of a SET and of an array, 1 to 32
  -- members of a powerset, at most 256 characters.
  pub parts_fit : ModeTree → Bool
  parts_fit int = true
  parts_fit boolean = true
  parts_fit char = true
  parts_fit instance = true
  parts_fit (set_of d n) = is_from_to 1 4096 n
  parts_fit (range p l h) = parts_fit p && lie_in l h (bounds_of p)
  parts_fit (powerset m) = parts_fit m && is_from_to 1 32 (values_of m)
  parts_fit (chars n) = nat_le n 256
  parts_fit (array i e how) = parts_fit i && (is_from_to 1 4096 (values_of i) && parts_fit e)
  parts_fit (structure fs p) = is_filled fs && fields_fit fs
  parts_fit (event l) = false
  parts_fit (buffer l e) = false
  parts_fit (read m) = parts_fit m
  parts_fit (named d n m) = parts_fit m

  -- each field fits
  pub fields_fit : FieldNodes → Bool
  fields_fit no_fields = true
  fields_fit (more_fields name m at fs) = parts_fit m && fields_fit fs

-- a mode that a text can give to a location
pub record IsOfLanguage (m : ModeTree) : Type 0 where
  pub parts : IsTrue (parts_fit m)
  pub size : leaves_of m ≤ 4096

-- Modes in which no place is impossible.
use Rattle.std.specs.Prelude.{ℕ, Bool, true, ◌&&◌, Option, Some, None}
use Rattle.modes.specs.ModeTree.{ModeTree, int, boolean, char, instance, set_of, range, powerset, chars, array, structure, event, buffer, read, named, FieldNodes, no_fields, more_fields, PlaceTree, SpreadTree, words, packed, step}
use Rattle.modes.specs.Bounds.{values_of}
use Rattle.layout_map.specs.Place.{is_possible, is_possible_step}

abbrev pub is_possible_spread : ℕ → ModeTree → SpreadTree → Bool
is_possible_spread n e words = true
is_possible_spread n e packed = true
is_possible_spread n e (step p d) = is_possible_step n e p d

abbrev pub is_possible_at : ModeTree → Option PlaceTree → Bool
is_possible_at m None = true
is_possible_at m (Some p) = is_possible m p

abbrev mutual
  pub are_possible : ModeTree → Bool
  are_possible int = true
  are_possible boolean = true
  are_possible char = true
  are_possible instance = true
  are_possible (set_of d n) = true
  are_possible (range p l h) = are_possible p
  are_possible (powerset m) = true
  are_possible (chars n) = true
  are_possible (array i e how) = is_possible_spread (values_of i) e how && are_possible e
  are_possible (structure fs p) = fields_are_possible fs
  are_possible (event l) = true
  are_possible (buffer l e) = true
  are_possible (read m) = are_possible m
  are_possible (named d n m) = are_possible m

  pub fields_are_possible : FieldNodes → Bool
  fields_are_possible no_fields = true
  fields_are_possible (more_fields name m at fs) = is_possible_at m at && (are_possible m && fields_are_possible fs)

-- The lowest value of a mode, as a tree.
use Rattle.std.specs.Prelude.{ℕ, min, pos, List, [], ◌∷◌, replicate}
use Rattle.kernel_base.specs.declared.value.Value.{Value}
use Rattle.kernel_base.specs.declared.value.Value.TheVariants.{Number, Members, Parts}
use Rattle.modes.specs.ModeTree.{ModeTree, int, boolean, char, instance, set_of, range, powerset, chars, array, structure, event, buffer, read, named, FieldNodes, no_fields, more_fields}
use Rattle.modes.specs.Bounds.{values_of}

-- a powerset without members, whose member mode has so many values; 2 ^ 32, which no text has, is held as 2 ^ 32 - 1
abbrev pub no_members : ℕ → Value
no_members values = Members (min values 4294967295) []

abbrev mutual
  -- 0 for INT, INSTANCE, BOOL, CHAR and a SET, the lower bound of a range, the empty powerset, blanks in a text, and part by part
  -- in arrays and structures
  pub lowest_value : ModeTree → Value
  lowest_value int = Number (pos 0)
  lowest_value boolean = Number (pos 0)
  lowest_value char = Number (pos 0)
  lowest_value instance = Number (pos 0)
  lowest_value (set_of d n) = Number (pos 0)
  lowest_value (range p l h) = Number l
  lowest_value (powerset m) = no_members (values_of m)
  lowest_value (chars n) = Parts (replicate n (Number (pos 32)))
  lowest_value (array i e how) = Parts (replicate (values_of i) (lowest_value e))
  lowest_value (structure fs p) = Parts (lowest_values fs)
  lowest_value (event l) = Parts []
  lowest_value (buffer l e) = Parts []
  lowest_value (read m) = lowest_value m
  lowest_value (named d n m) = lowest_value m

  -- those of the fields
  pub lowest_values : FieldNodes → List Value
  lowest_values no_fields = []
  lowest_values (more_fields name m at fs) = lowest_value m ∷ lowest_values fs

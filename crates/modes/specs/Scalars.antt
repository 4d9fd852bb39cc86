-- How many scalars a mode has, and its lowest value.
use Rattle.std.specs.Prelude.{◌≡◌, ℕ, zero, suc, ◌+◌, ◌*◌, ◌/◌, max, ℤ, pos, List, [], ◌∷◌, ◌++◌, replicate}
use Rattle.modes.specs.ModeTree.{ModeTree, int, boolean, char, instance, set_of, range, powerset, chars, array, structure, event, buffer, read, named, FieldNodes, no_fields, more_fields}
use Rattle.modes.specs.Bounds.{values_of}

-- how many numbers tell the members of a powerset whose member mode has so many values: 32 members each
abbrev pub numbers_of : ℕ → ℕ
numbers_of members = (members + 31) / 32

abbrev mutual
  -- How many scalars a mode has, where a text of no characters counts `none`: a discrete value and an instance are one, a
  -- powerset as many as its numbers, a text, an array or a structure those of its parts.
  pub scalars_with : ℕ → ModeTree → ℕ
  scalars_with none int = 1
  scalars_with none boolean = 1
  scalars_with none char = 1
  scalars_with none instance = 1
  scalars_with none (set_of d n) = 1
  scalars_with none (range p l h) = 1
  scalars_with none (powerset m) = numbers_of (values_of m)
  scalars_with none (chars n) = max none n
  scalars_with none (array i e how) = values_of i * scalars_with none e
  scalars_with none (structure fs p) = scalars_in_fields none fs
  scalars_with none (event l) = 0
  scalars_with none (buffer l e) = 0
  scalars_with none (read m) = scalars_with none m
  scalars_with none (named d n m) = scalars_with none m

  pub scalars_in_fields : ℕ → FieldNodes → ℕ
  scalars_in_fields none no_fields = 0
  scalars_in_fields none (more_fields name m at fs) = scalars_with none m + scalars_in_fields none fs

-- how many scalars a mode has
abbrev pub scalars_of : ModeTree → ℕ
scalars_of = scalars_with 0

-- the same, a text of no characters counting one
abbrev pub leaves_of : ModeTree → ℕ
leaves_of = scalars_with 1

-- The list begins with what it was: more may stand behind.
pub record Begins (old new : List ℤ) : Type 0 where
  pub more : List ℤ
  pub same : new ≡ old ++ more

-- the list so many times, one behind the other
abbrev pub repeated : {A : Type 0} → ℕ → List A → List A
repeated zero xs = []
repeated (suc n) xs = xs ++ repeated n xs

abbrev mutual
  -- The scalars of the lowest value: 0 for INT, INSTANCE, BOOL, CHAR and a SET, the lower bound of a range, the empty
  -- powerset, blanks in a text, and part by part in arrays and structures.
  pub lowest_of : ModeTree → List ℤ
  lowest_of int = pos 0 ∷ []
  lowest_of boolean = pos 0 ∷ []
  lowest_of char = pos 0 ∷ []
  lowest_of instance = pos 0 ∷ []
  lowest_of (set_of d n) = pos 0 ∷ []
  lowest_of (range p l h) = l ∷ []
  lowest_of (powerset m) = replicate (numbers_of (values_of m)) (pos 0)
  lowest_of (chars n) = replicate n (pos 32)
  lowest_of (array i e how) = repeated (values_of i) (lowest_of e)
  lowest_of (structure fs p) = lowest_of_fields fs
  lowest_of (event l) = []
  lowest_of (buffer l e) = []
  lowest_of (read m) = lowest_of m
  lowest_of (named d n m) = lowest_of m

  pub lowest_of_fields : FieldNodes → List ℤ
  lowest_of_fields no_fields = []
  lowest_of_fields (more_fields name m at fs) = lowest_of m ++ lowest_of_fields fs

-- The paths of the scalars of a mode, in their order.
use Rattle.std.specs.Prelude.{ℕ, zero, suc, List, [], ◌∷◌, ◌++◌, ℤ, pos, ◌+ℤ◌, replicate, codes, Option, Some, None}
use Rattle.std.specs.Fmt.{signed_decimal}
use Rattle.modes.specs.declared.mode.Bounds.{Bounds}
use Rattle.modes.specs.ModeTree.{ModeTree, int, boolean, char, instance, set_of, range, powerset, chars, array, structure, event, buffer, read, named, FieldNodes, no_fields, more_fields}
use Rattle.modes.specs.Bounds.{bounds_of, values_of}
use Rattle.modes.specs.Scalars.{numbers_of}

-- behind the path of what holds it
abbrev pub field_path : List ℕ → List ℕ → List ℕ
field_path path name = path ++ codes "." ++ name

abbrev pub element_path : List ℕ → ℤ → List ℕ
element_path path index = path ++ codes "(" ++ signed_decimal index ++ codes ")"

abbrev pub low_of : Option Bounds → ℤ
low_of None = pos 0
low_of (Some b) = b.low

-- the least index of an array
abbrev pub least_of : ModeTree → ℤ
least_of m = low_of (bounds_of m)

-- the paths in each of so many elements
abbrev pub in_elements : ℕ → (ℕ → List (List ℕ)) → List (List ℕ)
in_elements zero f = []
in_elements (suc n) f = in_elements n f ++ f n

-- the paths of so many characters
abbrev pub characters : ℕ → List ℕ → List (List ℕ)
characters length path = in_elements length (λ k. element_path path (pos k) ∷ [])

abbrev mutual
  -- The path of each scalar: behind that of what holds it `.field` or `(index)`. The numbers of a powerset have one path.
  pub paths_of : ModeTree → List ℕ → List (List ℕ)
  paths_of int path = path ∷ []
  paths_of boolean path = path ∷ []
  paths_of char path = path ∷ []
  paths_of instance path = path ∷ []
  paths_of (set_of d n) path = path ∷ []
  paths_of (range p l h) path = path ∷ []
  paths_of (powerset m) path = replicate (numbers_of (values_of m)) path
  paths_of (chars n) path = characters n path
  paths_of (array i e how) path = in_elements (values_of i) (λ k. paths_of e (element_path path (least_of i +ℤ pos k)))
  paths_of (structure fs p) path = paths_of_fields fs path
  paths_of (event l) path = []
  paths_of (buffer l e) path = []
  paths_of (read m) path = paths_of m path
  paths_of (named d n m) path = paths_of m path

  pub paths_of_fields : FieldNodes → List ℕ → List (List ℕ)
  paths_of_fields no_fields path = []
  paths_of_fields (more_fields name m at fs) path = paths_of m (field_path path name) ++ paths_of_fields fs path

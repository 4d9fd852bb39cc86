-- The values of a call's locals, and where a location lies once its indices are evaluated.
use Rattle.std.specs.Prelude.{ℕ, List, [], ◌∷◌, ℤ, Option, Some, None, slice_set, slice_index_or}
use Rattle.modes.specs.ModeTree.{ModeTree}
use Rattle.modes.specs.Scalars.{lowest_of}
use Rattle.checked_program.specs.declared.expr.Base.{Base}
use Rattle.checked_program.specs.declared.expr.Base.TheVariants.{Shared, Local}
use Rattle.program_trees.specs.ProgramTree.{LocalRowTree, BodyRowTree}
use Rattle.world_model.specs.Lists.{with_scalars}

-- the values of a call's locals by their numbers, each the flat list of its scalars, and the result so far
pub record Store : Type 0 where
  pub locals : List (List ℤ)
  pub result : List ℤ

-- a call that is open: the number of its body, and its store
pub record OpenCall : Type 0 where
  pub body : ℕ
  pub store : Store

-- the value of a local
abbrev pub local_value : Store → ℕ → List ℤ
local_value store i = slice_index_or store.locals i []

-- the store with another value of a local, with other scalars from one on in it, and with a result
abbrev pub with_local : Store → ℕ → List ℤ → Store
with_local store i xs = record store { locals = slice_set store.locals i xs }

abbrev pub with_part : Store → ℕ → ℕ → List ℤ → Store
with_part store i first xs = with_local store i (with_scalars (local_value store i) first xs)

abbrev pub with_result : Store → List ℤ → Store
with_result store xs = record store { result = xs }

-- where a location lies: from which scalar on, in which local or which shared location
pub data Address : Type 0 where
  in_local : ℕ → ℕ → Address
  in_shared : ℕ → ℕ → Address

abbrev pub address_of : Base → ℕ → Address
address_of (Local i) first = in_local i first
address_of (Shared l) first = in_shared l first

-- a result that was never set is the lowest value of its mode
abbrev pub lowest_result : Option ModeTree → List ℤ
lowest_result None = []
lowest_result (Some m) = lowest_of m

-- what a parameter begins with: a value that is copied in, or the lowest
pub data Taken : Type 0 where
  brings : List ℤ → Taken
  lowest : Taken

abbrev pub begins_with : LocalRowTree → Taken → List ℤ
begins_with row (brings xs) = xs
begins_with row lowest = lowest_of row.mode

-- the locals at the start of a call: the parameters, which come first, and the others with their lowest values
abbrev pub first_locals : List LocalRowTree → List Taken → List (List ℤ)
first_locals [] ts = []
first_locals (row ∷ rows) [] = lowest_of row.mode ∷ first_locals rows []
first_locals (row ∷ rows) (t ∷ ts) = begins_with row t ∷ first_locals rows ts

abbrev pub first_store : BodyRowTree → List Taken → Store
first_store body ts = record { locals = first_locals body.locals ts; result = lowest_result body.result }

-- how many scalars a local has
abbrev pub count_in : Option LocalRowTree → ℕ
count_in None = 0
count_in (Some row) = row.count

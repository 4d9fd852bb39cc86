-- Copies of a value, as one word: to compute them for any number opens 32 tests.
use Rattle.std.specs.Prelude.{ℕ, ◌+◌, ◌-◌, ◌*◌, min, nat_lt, List, [], ◌∷◌, if◌then◌else◌}
use Rattle.code_types.specs.declared.instr.Instr.{Instr}
use Rattle.code_types.specs.declared.instr.Instr.TheVariants.{Copy}
use Rattle.code_scheme.specs.Pieces.{copies_code}

-- the copies of a value of n scalars until there are so many of it
unfoldable pub copied : ℕ → ℕ → List Instr
copied elements n = copies_code elements n

-- One turn, where so many are there: as many are copied as are there or as are wanting.
abbrev pub turn_code : ℕ → ℕ → ℕ → List Instr
turn_code there elements n = if nat_lt there elements then Copy (min there (elements - there) * n) ∷ [] else []

abbrev pub turn_size : ℕ → ℕ → ℕ
turn_size there elements = if nat_lt there elements then 1 else 0

-- how many are there behind it
abbrev pub next_there : ℕ → ℕ → ℕ
next_there there elements = if nat_lt there elements then there + min there (elements - there) else there

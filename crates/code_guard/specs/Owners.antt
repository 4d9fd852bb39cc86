-- To which body a place belongs.
use Rattle.std.specs.Prelude.{◌≡◌, ℕ, ◌+◌, ◌<◌, ◌≤◌, List, length, slice_get, Some}
use Rattle.code_types.specs.declared.code.BodyRow.{BodyRow}
use Rattle.code_types.specs.declared.code.Code.{Code}
use Rattle.code_types.specs.Places.{end_of}

-- the place lies in the body
pub record Owns (code : Code) (body place : ℕ) : Type 0 where
  pub row : BodyRow
  pub is_body : slice_get code.bodies body ≡ Some row
  pub from : row.first ≤ place
  pub until : place < end_of code body

-- for each place of the code the body in which it lies
pub record IsOwned (code : Code) (owners : List ℕ) : Type 0 where
  pub count : length owners ≡ length code.instrs
  pub owns : (place body : ℕ) → slice_get owners place ≡ Some body → Owns code body place

-- a body's first instruction is in the code, and before the next body's
abbrev pub RisesAt : Code → ℕ → Type 0
RisesAt code body = (row : BodyRow) → slice_get code.bodies body ≡ Some row → (row.first < length code.instrs) × ((next : BodyRow) → slice_get code.bodies (body + 1) ≡ Some next → row.first < next.first)

-- the body begins at the place or before it, and ends there or behind it
pub record ReachesTo (code : Code) (body place : ℕ) : Type 0 where
  pub row : BodyRow
  pub is_body : slice_get code.bodies body ≡ Some row
  pub from : row.first ≤ place
  pub until : place ≤ end_of code body

-- for each place before this one the body in which it lies
pub record AreOwned (code : Code) (place : ℕ) (owners : List ℕ) : Type 0 where
  pub count : length owners ≡ place
  pub owns : (before body : ℕ) → slice_get owners before ≡ Some body → Owns code body before

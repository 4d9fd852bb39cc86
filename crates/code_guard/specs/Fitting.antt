-- What is asked of an instruction, whatever the heights.
use Rattle.std.specs.Prelude.{ℕ, ◌≤◌, slice_get, IsSomeAnd}
use Rattle.code_types.specs.declared.code.Handler.{Handler}
use Rattle.code_types.specs.declared.instr.Instr.{Instr}
use Rattle.code_types.specs.declared.code.BodyRow.{BodyRow}
use Rattle.code_types.specs.declared.code.Code.{Code}
use Rattle.code_types.specs.Agreement.{IsNamed, StaysInBody, LeadsForward, EndsThere}

-- an instruction at a place names what is there, stays in its body, and doesn't go on as the last of it
pub record FitsRow (code : Code) (body : ℕ) (row : BodyRow) (place : ℕ) (instr : Instr) : Type 0 where
  pub named : IsNamed code row instr
  pub stays : StaysInBody code body row instr
  pub forward : LeadsForward place instr
  pub ends : EndsThere code body place instr

abbrev pub FitsInstr : Code → ℕ → ℕ → Instr → Type 0
FitsInstr code body place instr = IsSomeAnd (slice_get code.bodies body) (λ row. FitsRow code body row place instr)

-- a body's first instruction, a handler's range and its target follow each other
pub record IsOrdered (first : ℕ) (handler : Handler) : Type 0 where
  pub from : first ≤ handler.from
  pub ordered : handler.from ≤ handler.until
  pub behind : handler.until ≤ handler.target

-- What statements append to a code while it is made.
use Rattle.std.specs.Prelude.{◌≡◌, ℕ, ◌+◌, List, ◌++◌, length}
use Rattle.code_types.specs.declared.code.Code.{Code}
use Rattle.code_types.specs.declared.code.Handler.{Handler}
use Rattle.code_types.specs.declared.instr.Instr.{Instr}
use Rattle.code_scheme.specs.StatementCode.{CodeAt}
use Rattle.code_scheme.specs.StatementRows.{RowsAt}

-- Instructions, so many, and handler rows are appended to the code as they are from its end on, and nothing else in it is
-- changed.
pub record AppendsAt (made : CodeAt) (size : ℕ) (rows : RowsAt) (old new : Code) : Type 0 where
  pub instrs : new.instrs ≡ old.instrs ++ made (length old.instrs)
  pub handlers : new.handlers ≡ old.handlers ++ rows (length old.instrs)
  pub bodies : new.bodies ≡ old.bodies
  pub length : length new.instrs ≡ length old.instrs + size

-- What is still to be appended to the code as it is now, if this is to be appended in all to what it was.
pub record StillTo (all : CodeAt) (size : ℕ) (rows : RowsAt) (left : CodeAt) (left_size : ℕ) (left_rows : RowsAt) (old now : Code) : Type 0 where
  pub instrs : now.instrs ++ left (length now.instrs) ≡ old.instrs ++ all (length old.instrs)
  pub handlers : now.handlers ++ left_rows (length now.instrs) ≡ old.handlers ++ rows (length old.instrs)
  pub bodies : now.bodies ≡ old.bodies
  pub length : length now.instrs + left_size ≡ length old.instrs + size

-- Handler rows are appended to the code, and nothing else in it is changed.
pub record AppendsRows (rows : List Handler) (old new : Code) : Type 0 where
  pub handlers : new.handlers ≡ old.handlers ++ rows
  pub instrs : new.instrs ≡ old.instrs
  pub bodies : new.bodies ≡ old.bodies

-- Instructions and handler rows are appended to the code, and nothing else in it is changed.
pub record AppendsBoth (made : List Instr) (rows : List Handler) (old new : Code) : Type 0 where
  pub instrs : new.instrs ≡ old.instrs ++ made
  pub handlers : new.handlers ≡ old.handlers ++ rows
  pub bodies : new.bodies ≡ old.bodies

-- What stood in the code stands there still. Instructions and handler rows may stand behind it, and nothing else in it is changed.
pub record KeepsFront (old new : Code) : Type 0 where
  pub more : List Instr
  pub rows : List Handler
  pub instrs : new.instrs ≡ old.instrs ++ more
  pub handlers : new.handlers ≡ old.handlers ++ rows
  pub bodies : new.bodies ≡ old.bodies

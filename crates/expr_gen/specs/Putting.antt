-- What is appended to a code while it is made.
use Rattle.std.specs.Prelude.{◌≡◌, ℕ, ◌+◌, List, [], ◌∷◌, ◌++◌, length}
use Rattle.code_types.specs.declared.code.Code.{Code}
use Rattle.code_types.specs.declared.instr.Instr.{Instr}
use Rattle.checked_program.specs.declared.program.Checked.{Checked}
use Rattle.checked_program.specs.declared.program.Body.{Body}
use Rattle.program_trees.specs.ProgramTree.{checked_tree, body_row_tree}
use Rattle.code_scheme.specs.Pieces.{Layout, layout_in}

-- These instructions, so many, are appended to the code, and nothing else in it is changed.
pub record Appends (made : List Instr) (size : ℕ) (old new : Code) : Type 0 where
  pub instrs : new.instrs ≡ old.instrs ++ made
  pub length : length new.instrs ≡ length old.instrs + size
  pub handlers : new.handlers ≡ old.handlers
  pub bodies : new.bodies ≡ old.bodies

-- What stood in the code stands there still. Instructions may stand behind it, and nothing else in it is changed.
pub record Keeps (old new : Code) : Type 0 where
  pub more : List Instr
  pub instrs : new.instrs ≡ old.instrs ++ more
  pub handlers : new.handlers ≡ old.handlers
  pub bodies : new.bodies ≡ old.bodies

-- One instruction is appended to the code, and nothing else in it is changed.
abbrev pub Puts : Instr → Code → Code → Type 0
Puts instr old new = Appends (instr ∷ []) 1 old new

-- where the parts of a body stand
abbrev pub layout_of : Checked → Body → Layout
layout_of program body = layout_in (checked_tree program) (body_row_tree body)

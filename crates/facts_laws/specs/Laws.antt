-- The facts that are made of a program, and those of its text.
use Rattle.std.specs.Prelude.{ℕ, ◌≤◌, List, length, Any}
use Rattle.checked_program.specs.declared.program.Checked.{Checked}
use Rattle.program_trees.specs.ProgramTree.{checked_tree}
use Rattle.code_gen.specs.Facts.{facts_of, HasNoLayout}
use Rattle.source_meaning.specs.Facts.{AreFactsOf}
use Rattle.source_meaning.specs.Typed.{IsTyped}

-- The program is typed, and each of its bodies has a number of 32 bits.
pub record IsTypedProgram (program : Checked) : Type 0 where
  pub typed : IsTyped (checked_tree program)
  pub few : length program.bodies ≤ 4294967295

-- The facts that are made of a typed program are those of its text, and each of its locations has a layout.
pub record FactsLaw : Type 0 where
  pub are : (program : Checked) (input : List ℕ) (units : ℕ)
      → IsTypedProgram program
      → AreFactsOf (checked_tree program) input units (facts_of program input units)
  pub laid : (program : Checked) → IsTypedProgram program → Any HasNoLayout program.locations → ⊥

-- The laws of programs that may be compiled: their numbers, and all that is asked of them.
use Rattle.std.specs.Prelude.{◌≡◌, ℕ, Some, slice_get}
use Rattle.checked_program.specs.declared.program.Checked.{Checked}
use Rattle.program_ranges.specs.ProgramRanges.{AreInRange}
use Rattle.program_trees.specs.ProgramTree.{BodyRowTree, CheckedTree, checked_tree}
use Rattle.source_meaning.specs.Typed.{IsTyped}
use Rattle.range_laws.specs.StatementInRange.{BodiesInRange}
use Rattle.code_laws.specs.StatementsInRange.{FitsProgram}
use Rattle.code_laws.specs.Talk.{IsWellMade, IsCompilable}
use Rattle.compilable_laws.specs.Few.{HasFew}

-- The numbers of a typed program in range are in range for its code, where it has few things.
abbrev pub FitsLaw : Type 0
FitsLaw = (p : CheckedTree) → IsTyped p → BodiesInRange p → HasFew p → FitsProgram p

-- What a program that may be compiled rests on. `in_range` is what `elaborate` gives; the others are owed of it.
pub record CompilableRests (p : Checked) : Type 0 where
  pub in_range : AreInRange p
  pub typed : IsTyped (checked_tree p)
  pub few : HasFew (checked_tree p)
  pub well_made : (k : ℕ) (b : BodyRowTree) → slice_get (checked_tree p).bodies k ≡ Some b → IsWellMade b

-- On these it may be compiled.
abbrev pub CompilableLaw : Type 0
CompilableLaw = (p : Checked) → CompilableRests p → IsCompilable (checked_tree p)

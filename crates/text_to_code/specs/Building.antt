-- The program of a tree and its code, and why there is none.
use Rattle.std.specs.Prelude.{◌≡◌, ℕ, ◌<◌, ◌≤◌, Some, slice_get}
use Rattle.checked_program.specs.declared.program.Checked.{Checked}
use Rattle.code_laws.specs.Talk.{IsCompilable, IsWellMade}
use Rattle.compilable_laws.specs.Few.{HasFew}
pub use Rattle.elaborate.specs.declared.program.Program.{Program}
use Rattle.facts_laws.specs.Laws.{IsTypedProgram}
use Rattle.program_ranges.specs.ProgramRanges.{AreInRange}
use Rattle.program_trees.specs.ProgramTree.{BodyRowTree, checked_tree}
use Rattle.code_types.specs.Agreement.{Agrees}
use Rattle.code_types.specs.declared.code.Code.{Code}
use Rattle.chill_tree.specs.ItemTree.{ProgramTree}
use Rattle.text_laws.specs.Laws.{HasFittingTalks}
use Rattle.text_to_code.specs.declared.build.BuildRefusal.{BuildRefusal}
use Rattle.text_to_code.specs.declared.build.BuildRefusal.TheVariants as refusals

-- A program for a tree: all that is said of it is that its numbers are in range. Nothing ties it to the tree yet.
abbrev pub IsElaborated : ProgramTree → Checked → Type 0
IsElaborated tree program = AreInRange program

-- The program says what its modes say, has few things, and its bodies are well made. No call gives this yet: it is owed of what
-- elaborates programs.
pub record IsWellElaborated (program : Checked) : Type 0 where
  pub typed : IsTypedProgram program
  pub few : HasFew (checked_tree program)
  pub well_made : (k : ℕ) (b : BodyRowTree) → slice_get (checked_tree program).bodies k ≡ Some b → IsWellMade b

-- The code that is compiled of a program, whose size, as it tells it, isn't too great. Where the program may be compiled the guard
-- takes the code, and it has the program's talks wherever arguments and answers fit.
pub record IsCompiled (program : Checked) (code : Code) : Type 0 where
  pub small : program.size ≤ 65536
  pub agrees : IsCompilable (checked_tree program) → Agrees code
  pub talks : IsCompilable (checked_tree program) → HasFittingTalks (checked_tree program) code

-- a program for a tree and the code that is compiled of it; the guard takes the code
pub record IsBuiltOf (tree : ProgramTree) (program : Checked) (code : Code) : Type 0 where
  pub elaborated : IsElaborated tree program
  pub compiled : IsCompiled program code
  pub guarded : Agrees code

-- the code disagrees, which comes of no program that is well elaborated
pub record IsUnguarded (program : Checked) (code : Code) : Type 0 where
  pub disagrees : Agrees code → ⊥
  pub not_of_well_elaborated : IsWellElaborated program → ⊥

-- Why a tree that breaks no rule has no code: each is a fault of this compiler, and none of the text.
pub data IsUnbuilt (tree : ProgramTree) : Type 0 where
  -- no program is elaborated of it; nothing is said of when
  unelaborated : IsUnbuilt tree
  -- no code is compiled of its program, whose size, as it tells it, is too great
  uncompiled : (program : Checked) → IsElaborated tree program → 65536 < program.size → IsUnbuilt tree
  -- the guard hands the code back
  unguarded : (program : Checked) (code : Code) → IsElaborated tree program → IsCompiled program code → IsUnguarded program code → IsUnbuilt tree

-- why the building of a tree was given up
abbrev pub IsGivenUp : ProgramTree → BuildRefusal → Type 0
IsGivenUp tree refusals.NotBuilt = IsUnbuilt tree
IsGivenUp tree refusals.Memory = Unit {0}

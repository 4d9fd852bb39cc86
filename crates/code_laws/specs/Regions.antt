-- The law of the rows that raise exceptions again behind the release of a region.
use Rattle.std.specs.Prelude.{◌≡◌, ℕ, ◌+◌, ◌<◌, ◌≤◌, List, length, Some, slice_get, true}
use Rattle.kernel_base.specs.declared.ends.Exc.{Exc}
use Rattle.program_trees.specs.ProgramTree.{CheckedTree}
use Rattle.code_types.specs.declared.instr.Instr.{Instr}
use Rattle.code_types.specs.declared.instr.Instr.TheVariants as i
use Rattle.code_types.specs.declared.code.Code.{Code}
use Rattle.code_types.specs.declared.code.Handler.{Handler}
use Rattle.code_types.specs.Exceptions.{exception_number}
use Rattle.code_types.specs.Places.{taker, listed_of, names_exception}
use Rattle.code_scheme.specs.BodyItems.{listed_in, raised_in, raised_and_listed, raise_again_code, raise_again_rows}
use Rattle.follow_laws.specs.Follows.{HasAt, CanArise}

-- the first of some rows that takes an exception at a place leads to where a region is left and the exception is raised again
pub record IsRaisedAgain (code : Code) (rows : List Handler) (region place : ℕ) (x : Exc) : Type 0 where
  pub row : Handler
  pub taken : taker rows place x ≡ Some row
  pub low : row.height ≡ 0
  pub leaves : slice_get code.instrs row.target ≡ Some (i.Leave region)
  pub raises : slice_get code.instrs (row.target + 1) ≡ Some (i.Raise (exception_number x))

-- an exception of the program that can arise at a place of some instructions, in a code whose bodies list what the program's list
pub record ArisesAmong (p : CheckedTree) (code : Code) (is : List Instr) (from place : ℕ) (x : Exc) : Type 0 where
  pub has : HasAt code.instrs from is
  pub low : from ≤ place
  pub high : place < from + length is
  pub listed : (b : ℕ) → listed_of (slice_get code.bodies b) ≡ listed_in (slice_get p.bodies b)
  pub arises : CanArise code place x
  pub there : exception_number x < 7 + length p.exceptions

-- The initialisations of a region raise each exception again, and a critical procedure each one that it lists.
pub record RaisedAgainLaw : Type 0 where
  pub initialising : (p : CheckedTree) (code : Code) (is : List Instr) (region from target place : ℕ) (x : Exc)
      → ArisesAmong p code is from place x → HasAt code.instrs target (raise_again_code region (raised_in p is))
      → IsRaisedAgain code (raise_again_rows from (from + length is) (raised_in p is) target) region place x
  pub critical : (p : CheckedTree) (code : Code) (is : List Instr) (listed : List ℕ) (region from target place : ℕ) (x : Exc)
      → ArisesAmong p code is from place x → names_exception listed x ≡ true
      → HasAt code.instrs target (raise_again_code region (raised_and_listed p is listed))
      → IsRaisedAgain code (raise_again_rows from (from + length is) (raised_and_listed p is listed) target) region place x

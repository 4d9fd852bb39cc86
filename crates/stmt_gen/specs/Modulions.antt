-- What modules, regions and statements append at their places, and what is raised again behind the release of a region.
use Rattle.std.specs.Prelude.{◌≡◌, ℕ, ◌+◌, ◌-◌, false, Bool, List, Option, length, take, drop}
use Rattle.std.specs.declared.alloc.Global.{Global}
use Rattle.std.specs.declared.boxed.Box.{Box}
use Rattle.code_types.specs.declared.code.Handler.{Handler}
use Rattle.code_types.specs.declared.instr.Instr.{Instr}
use Rattle.checked_program.specs.declared.statement.Handler.{Handler as CheckedHandler}
use Rattle.checked_program.specs.declared.statement.Statement.{Statement}
use Rattle.program_trees.specs.StatementTree.{statement_tree, module_at, statements_of, handler_of}
use Rattle.code_scheme.specs.StatementGoing.{leave_size}
use Rattle.code_scheme.specs.StatementSize.{handler_size}
use Rattle.code_scheme.specs.StatementCode.{CodeAt, handler_code}
use Rattle.code_scheme.specs.StatementRows.{RowsAt, handler_rows}
use Rattle.code_scheme.specs.BodyItems.{raise_again_code, raise_again_rows, items_code, items_rows, item_code, item_rows, item_action_code, item_action_rows, region_code, region_rows}
use Rattle.expr_gen.specs.declared.building.Draft.{Draft}
use Rattle.stmt_gen.specs.Appending.{AppendsAt, AppendsBoth}
use Rattle.stmt_gen.specs.Holding.{site_around}
use Rattle.action_gen.specs.Putting.{standing_of}
use Rattle.action_gen.specs.declared.around.Around.{Around}

-- instructions and rows behind what a draft has
abbrev pub PutsBoth : CodeAt → RowsAt → Draft → Draft → Type 0
PutsBoth made rows old new = AppendsBoth (made (length old.code.instrs)) (rows (length old.code.instrs)) old.code new.code

-- the instructions of a draft from one place up to another
abbrev pub instrs_between : ℕ → ℕ → Draft → List Instr
instrs_between from until draft = take (until - from) (drop from draft.code.instrs)

-- the release of a region for each of these exceptions that goes out from one place up to another
abbrev pub PutsReleases : ℕ → List ℕ → ℕ → ℕ → Draft → Draft → Type 0
PutsReleases region exceptions from until old new =
    PutsBoth (λ at. raise_again_code region exceptions) (raise_again_rows from until exceptions) old new

-- ---- items

pub record PutsItems (around : Around) (items : List Statement) (old new : Draft) : Type 0 where
  pub puts : PutsBoth (items_code (standing_of around) (statements_of items)) (items_rows (standing_of around) (statements_of items)) old new

pub record PutsItem (around : Around) (item : Statement) (old new : Draft) : Type 0 where
  pub puts : PutsBoth (item_code (standing_of around) (statement_tree item)) (item_rows (standing_of around) (statement_tree item)) old new

pub record PutsModule (around : Around) (items : List Statement) (h : Option (Box CheckedHandler Global)) (old new : Draft) : Type 0 where
  pub puts : PutsBoth (item_action_code (standing_of around) false (module_at (statements_of items)) (handler_of h))
      (item_action_rows (standing_of around) false (module_at (statements_of items)) (handler_of h)) old new

pub record PutsRegion (around : Around) (region : ℕ) (ss : List Statement) (h : Option (Box CheckedHandler Global)) (old new : Draft) : Type 0 where
  pub puts : PutsBoth (region_code (standing_of around) region (statements_of ss) (handler_of h))
      (region_rows (standing_of around) region (statements_of ss) (handler_of h)) old new

-- a handler of what stands from a place on, where there is one
pub record PutsSomeHandler (around : Around) (h : Option (Box CheckedHandler Global)) (from : ℕ) (comes : Bool) (old new : Draft) : Type 0 where
  pub puts : AppendsAt (handler_code (standing_of around) (handler_of h) comes)
      (leave_size comes (handler_size (site_around around) (handler_of h)) + handler_size (site_around around) (handler_of h))
      (handler_rows (site_around around) (handler_of h) comes from) old.code new.code

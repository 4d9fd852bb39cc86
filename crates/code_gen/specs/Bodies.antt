-- What the bodies of a program append to a code while it is made.
use Rattle.std.specs.Prelude.{◌≡◌, ℕ, List, [], ◌∷◌, ◌++◌, length, map, Option}
use Rattle.code_types.specs.declared.code.BodyRow.{BodyRow}
use Rattle.code_types.specs.declared.code.Code.{Code}
use Rattle.code_types.specs.declared.instr.Instr.{Instr}
use Rattle.checked_program.specs.declared.program.Body.{Body}
use Rattle.checked_program.specs.declared.program.Checked.{Checked}
use Rattle.program_trees.specs.ProgramTree.{CheckedTree, BodyRowTree, checked_tree, body_row_tree}
use Rattle.code_scheme.specs.StatementSite.{Site, parameter_scalars, first_free}
use Rattle.code_scheme.specs.BodyCode.{results_by, heads_of, greatest_height, most_locals, guarded_code, guarded_rows, doing_code, doing_rows, body_code, body_handlers, body_row, bodies_code, bodies_handlers, body_rows}
use Rattle.expr_gen.specs.declared.building.Draft.{Draft}
use Rattle.expr_gen.specs.declared.frames.Site.{Site as RustSite}
use Rattle.stmt_gen.specs.Modulions.{PutsBoth}
use Rattle.action_gen.specs.Putting.{site_tree}

-- the row of a body that has these instructions, the first of them at a place
abbrev pub row_with : Site → ℕ → List Instr → BodyRow
row_with site at is = record {
  first = at;
  params = parameter_scalars site.body;
  locals = most_locals (first_free site.body) is;
  results = results_by site.body.sort site.body;
  height = greatest_height (heads_of site.program) 0 0 is;
  listed = site.body.listed;
}

-- A body and its row.
pub record AppendsBody (site : Site) (old new : Code) : Type 0 where
  pub instrs : new.instrs ≡ old.instrs ++ body_code site (length old.instrs)
  pub handlers : new.handlers ≡ old.handlers ++ body_handlers site (length old.instrs)
  pub bodies : new.bodies ≡ old.bodies ++ body_row site (length old.instrs) ∷ []

-- Bodies and their rows.
pub record AppendsBodies (p : CheckedTree) (bs : List BodyRowTree) (old new : Code) : Type 0 where
  pub instrs : new.instrs ≡ old.instrs ++ bodies_code p bs (length old.instrs)
  pub handlers : new.handlers ≡ old.handlers ++ bodies_handlers p bs (length old.instrs)
  pub bodies : new.bodies ≡ old.bodies ++ body_rows p bs (length old.instrs)

-- ---- what functions append

-- bodies of a program
abbrev pub PutsBodies : Checked → List Body → Draft → Draft → Type 0
PutsBodies program bodies old new = AppendsBodies (checked_tree program) (map body_row_tree bodies) old.code new.code

-- all of them
abbrev pub PutsProgram : Checked → Draft → Draft → Type 0
PutsProgram program old new = PutsBodies program program.bodies old new

-- the statements of a body with its handler
abbrev pub PutsGuardedBody : RustSite → Draft → Draft → Type 0
PutsGuardedBody site old new = PutsBoth (guarded_code (site_tree site)) (guarded_rows (site_tree site)) old new

-- what a body does behind the lowest values, which enters this region
abbrev pub PutsDoing : Option ℕ → RustSite → Draft → Draft → Type 0
PutsDoing region site old new = PutsBoth (doing_code region (site_tree site)) (doing_rows region (site_tree site)) old new

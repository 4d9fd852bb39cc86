-- The rows of locals and bodies among the trees of a program.
use Rattle.std.proofs.Common.{◌≡◌, ℕ, List, [], Some, None, sym, ap, ◌∙◌}
use Rattle.std.specs.Prelude.{map, slice_get, option_map}
use Rattle.std.proofs.lemmas.Option.{slice_get-map}
use Rattle.modes.specs.Scalars.{lowest_of}
use Rattle.checked_program.specs.declared.program.Body.{Body}
use Rattle.checked_program.specs.declared.program.LocalRow.{LocalRow}
use Rattle.program_trees.specs.ProgramTree.{local_row_tree, body_row_tree, shared_mode}
use Rattle.code_scheme.specs.Pieces.{first_in, lowest_in_row, rows_of}

-- a local is found among the trees where it is among the rows
pub local_found : (rows : List LocalRow) (k : ℕ) (row : LocalRow) → slice_get rows k ≡ Some row → slice_get (map local_row_tree rows) k ≡ Some (local_row_tree row)
local_found rows k row e = slice_get-map local_row_tree rows k ∙ ap (option_map local_row_tree) e

pub body_found : (rows : List Body) (k : ℕ) (row : Body) → slice_get rows k ≡ Some row → slice_get (map body_row_tree rows) k ≡ Some (body_row_tree row)
body_found rows k row e = slice_get-map body_row_tree rows k ∙ ap (option_map body_row_tree) e

pub first_there : (rows : List LocalRow) (k : ℕ) (row : LocalRow) → slice_get rows k ≡ Some row → row.first ≡ first_in (slice_get (map local_row_tree rows) k)
first_there rows k row e = sym (ap first_in (local_found rows k row e))

pub first_nowhere : (rows : List LocalRow) (k : ℕ) → slice_get rows k ≡ None → 0 ≡ first_in (slice_get (map local_row_tree rows) k)
first_nowhere rows k e = sym (ap first_in (slice_get-map local_row_tree rows k ∙ ap (option_map local_row_tree) e))

pub lowest_there : (rows : List LocalRow) (k : ℕ) (row : LocalRow) → slice_get rows k ≡ Some row → lowest_of (shared_mode row.mode) ≡ lowest_in_row (slice_get (map local_row_tree rows) k)
lowest_there rows k row e = sym (ap lowest_in_row (local_found rows k row e))

pub lowest_nowhere : (rows : List LocalRow) (k : ℕ) → slice_get rows k ≡ None → [] ≡ lowest_in_row (slice_get (map local_row_tree rows) k)
lowest_nowhere rows k e = sym (ap lowest_in_row (slice_get-map local_row_tree rows k ∙ ap (option_map local_row_tree) e))

pub locals_there : (bodies : List Body) (k : ℕ) (row : Body) → slice_get bodies k ≡ Some row → map local_row_tree row.locals ≡ rows_of (slice_get (map body_row_tree bodies) k)
locals_there bodies k row e = sym (ap rows_of (body_found bodies k row e))

pub locals_nowhere : (bodies : List Body) (k : ℕ) → slice_get bodies k ≡ None → [] ≡ rows_of (slice_get (map body_row_tree bodies) k)
locals_nowhere bodies k e = sym (ap rows_of (slice_get-map body_row_tree bodies k ∙ ap (option_map body_row_tree) e))

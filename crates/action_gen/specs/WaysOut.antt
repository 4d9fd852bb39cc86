-- What the way out of a body appends.
use Rattle.std.specs.Prelude.{List}
use Rattle.checked_program.specs.declared.program.Body.{Body}
use Rattle.checked_program.specs.declared.program.LocalRow.{LocalRow}
use Rattle.checked_program.specs.declared.program.Parameter.{Parameter}
use Rattle.program_trees.specs.ProgramTree.{body_row_tree}
use Rattle.code_scheme.specs.StatementPlain.{result_code, end_of_call, way_out_code}
use Rattle.expr_gen.specs.declared.building.Draft.{Draft}
use Rattle.expr_gen.specs.Puts.{PutsAll}
use Rattle.action_gen.specs.Puts.{given_back}

abbrev pub PutsWayOut : Body → Draft → Draft → Type 0
PutsWayOut body old new = PutsAll (way_out_code (body_row_tree body)) old new

-- the end of a call
abbrev pub PutsEnd : Body → Draft → Draft → Type 0
PutsEnd body old new = PutsAll (end_of_call (body_row_tree body)) old new

-- the result, where it has scalars
abbrev pub PutsOwnResult : Body → Draft → Draft → Type 0
PutsOwnResult body old new = PutsAll (result_code (body_row_tree body)) old new

-- the OUT and INOUT parameters
abbrev pub PutsParameters : List Parameter → List LocalRow → Draft → Draft → Type 0
PutsParameters ps locals old new = PutsAll (given_back ps locals) old new

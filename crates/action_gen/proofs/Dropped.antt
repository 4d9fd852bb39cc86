-- The result of a called body, which a call as an action drops.
use Rattle.std.proofs.Common.{◌≡◌, Some, None, ap, ◌∙◌}
use Rattle.std.specs.Prelude.{slice_get, option_map}
use Rattle.std.proofs.lemmas.Option.{slice_get-map}
use Rattle.checked_program.specs.declared.expr.Call.{Call, out-Call}
use Rattle.checked_program.specs.declared.program.Body.{Body}
use Rattle.checked_program.specs.declared.program.Checked.{Checked}
use Rattle.program_trees.specs.ExprTree.{call_tree}
use Rattle.program_trees.specs.ProgramTree.{BodyRowTree, body_row_tree, checked_tree}
use Rattle.code_scheme.specs.StatementSite.{Site, result_scalars}
use Rattle.code_scheme.specs.StatementPlain.{dropped_by, dropped_scalars}
use Rattle.expr_gen.proofs.Rows.{body_found}
use Rattle.expr_gen.proofs.Views.{call_tree-out}

pub dropped_there : (program : Checked) (body : BodyRowTree) (c : Call) (row : Body) → slice_get program.bodies (out-Call c).body ≡ Some row
    → dropped_scalars (record { program = checked_tree program; body = body }) (call_tree c) ≡ result_scalars (body_row_tree row)
dropped_there program body c row e =
    ap (dropped_scalars (record { program = checked_tree program; body = body })) (call_tree-out c) ∙ ap dropped_by (body_found program.bodies (out-Call c).body row e)

pub dropped_nowhere : (program : Checked) (body : BodyRowTree) (c : Call) → slice_get program.bodies (out-Call c).body ≡ None
    → dropped_scalars (record { program = checked_tree program; body = body }) (call_tree c) ≡ 0
dropped_nowhere program body c e =
    ap (dropped_scalars (record { program = checked_tree program; body = body })) (call_tree-out c)
    ∙ ap dropped_by (slice_get-map body_row_tree program.bodies (out-Call c).body ∙ ap (option_map body_row_tree) e)

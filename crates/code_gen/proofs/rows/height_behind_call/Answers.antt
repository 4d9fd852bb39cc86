use Rattle.std.proofs.Common.{◌≡◌, ℕ, ◌+◌, ◌-◌, Some, None, List, length, ◌∙◌, refl, ap, sym}
use Rattle.std.specs.Prelude.{slice_get}
use Rattle.std.proofs.lemmas.Bool.{ltb-true, ltb-false}
use Rattle.std.proofs.lemmas.Option.{slice_get_read, slice_get_past}
use Rattle.std.proofs.lemmas.Result.{IfOk-weaker}
use Rattle.code_types.specs.declared.instr.Instr.TheVariants.{Call}
use Rattle.checked_program.specs.declared.program.Body.{Body}
use Rattle.program_trees.specs.ProgramTree.{checked_tree, body_row_tree}
use Rattle.code_scheme.specs.StatementSite.{parameter_scalars, call_results}
use Rattle.code_scheme.specs.BodyCode.{heads_of, height_behind}
use Rattle.code_gen.proofs.Heights.{call_height, no_call_height}
use Rattle.code_gen.proofs.rows.height_behind_call.Goals as goal

pub returns-in-Some : goal.returns-in-Some
returns-in-Some c =
    let bodies : List Body = c.as_slice.result.now in
    let at : slice_get c.args.program.now.bodies c.args.body ≡ Some c.in-Some.callee.now =
    ap (λ (xs : List Body). slice_get xs c.args.body) (sym c.as_slice.ensures)
    ∙ slice_get_read bodies (length bodies) c.args.body c.in-Some.callee.now refl (ltb-true c.args.body (length bodies) (sym c.in-Some.ensures.lookup.0)) c.in-Some.ensures.lookup.1 in
    let call = call_height c.args.program.now c.args.body c.in-Some.callee.now c.args.height _ _ at refl refl in
    IfOk-weaker c.height_over.result
    (λ (behind : ℕ). behind ≡ c.args.height - parameter_scalars (body_row_tree c.in-Some.callee.now) + call_results (body_row_tree c.in-Some.callee.now))
    (λ (behind : ℕ). behind ≡ height_behind (heads_of (checked_tree c.args.program.now)) (Call c.args.body) c.args.height)
    (λ behind e. e ∙ sym call) c.height_over.ensures

pub returns-in-None : goal.returns-in-None
returns-in-None c =
    let bodies : List Body = c.as_slice.result.now in
    sym (no_call_height c.args.program.now c.args.body c.args.height
    (ap (λ (xs : List Body). slice_get xs c.args.body) (sym c.as_slice.ensures)
    ∙ slice_get_past bodies c.args.body (ltb-false c.args.body (length bodies) (sym c.in-None.ensures.lookup.0))))

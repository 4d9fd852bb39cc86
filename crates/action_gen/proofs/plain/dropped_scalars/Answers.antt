use Rattle.std.proofs.Common.{◌≡◌, Some, None, List, length, refl, sym, ap, ◌∙◌}
use Rattle.std.specs.Prelude.{slice_get}
use Rattle.std.proofs.lemmas.Bool.{ltb-true, ltb-false}
use Rattle.std.proofs.lemmas.Option.{slice_get_read, slice_get_past}
use Rattle.checked_program.specs.declared.expr.Call.{out-Call}
use Rattle.checked_program.specs.declared.program.Body.{Body}
use Rattle.program_trees.specs.ProgramTree.{body_row_tree}
use Rattle.action_gen.proofs.Dropped.{dropped_there, dropped_nowhere}
use Rattle.action_gen.proofs.plain.dropped_scalars.Goals as goal

pub returns-in-Some : goal.returns-in-Some
returns-in-Some c =
    let bodies : List Body = c.as_slice.result.now in
    let at : slice_get c.args.site.now.program.now.bodies (out-Call c.args.call.now).body ≡ Some c.in-Some.callee.now =
    ap (λ (xs : List Body). slice_get xs (out-Call c.args.call.now).body) (sym c.as_slice.ensures)
    ∙ slice_get_read bodies (length bodies) (out-Call c.args.call.now).body c.in-Some.callee.now refl (ltb-true (out-Call c.args.call.now).body (length bodies) (sym c.in-Some.ensures.lookup.0)) c.in-Some.ensures.lookup.1 in
    c.result_scalars.ensures ∙ sym (dropped_there c.args.site.now.program.now (body_row_tree c.args.site.now.body.now) c.args.call.now c.in-Some.callee.now at)

pub returns-in-None : goal.returns-in-None
returns-in-None c =
    let bodies : List Body = c.as_slice.result.now in
    let none : slice_get c.args.site.now.program.now.bodies (out-Call c.args.call.now).body ≡ None =
    ap (λ (xs : List Body). slice_get xs (out-Call c.args.call.now).body) (sym c.as_slice.ensures)
    ∙ slice_get_past bodies (out-Call c.args.call.now).body (ltb-false (out-Call c.args.call.now).body (length bodies) (sym c.in-None.ensures.lookup.0)) in
    sym (dropped_nowhere c.args.site.now.program.now (body_row_tree c.args.site.now.body.now) c.args.call.now none)

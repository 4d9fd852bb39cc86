use Rattle.std.proofs.Common.{◌≡◌, Some, None, List, length, refl, sym, ap, ◌∙◌}
use Rattle.std.specs.Prelude.{slice_get}
use Rattle.std.proofs.lemmas.Bool.{ltb-true, ltb-false}
use Rattle.std.proofs.lemmas.Option.{slice_get_read, slice_get_past}
use Rattle.checked_program.specs.declared.program.LocalRow.{LocalRow}
use Rattle.expr_gen.proofs.Rows.{first_there, first_nowhere}
use Rattle.expr_gen.proofs.frames.first_of_local.Goals as goal

pub returns-in-Some : goal.returns-in-Some
returns-in-Some c =
    let locals : List LocalRow = c.as_slice.result.now in
    let at : slice_get c.args.body.now.locals c.args.number ≡ Some c.in-Some.local.now =
    ap (λ (xs : List LocalRow). slice_get xs c.args.number) (sym c.as_slice.ensures)
    ∙ slice_get_read locals (length locals) c.args.number c.in-Some.local.now refl (ltb-true c.args.number (length locals) (sym c.in-Some.ensures.lookup.0)) c.in-Some.ensures.lookup.1 in
    first_there c.args.body.now.locals c.args.number c.in-Some.local.now at

pub returns-in-None : goal.returns-in-None
returns-in-None c =
    let locals : List LocalRow = c.as_slice.result.now in
    first_nowhere c.args.body.now.locals c.args.number
    (ap (λ (xs : List LocalRow). slice_get xs c.args.number) (sym c.as_slice.ensures)
    ∙ slice_get_past locals c.args.number (ltb-false c.args.number (length locals) (sym c.in-None.ensures.lookup.0)))

use Rattle.std.proofs.Common.{◌≡◌, Some, None, List, map, length, refl, sym, ap, ◌∙◌}
use Rattle.std.specs.Prelude.{slice_get}
use Rattle.std.proofs.lemmas.Bool.{ltb-true, ltb-false}
use Rattle.std.proofs.lemmas.Option.{slice_get_read, slice_get_past}
use Rattle.checked_program.specs.declared.program.Body.{Body}
use Rattle.checked_program.specs.declared.program.LocalRow.{LocalRow}
use Rattle.program_trees.specs.ProgramTree.{local_row_tree}
use Rattle.expr_gen.proofs.Rows.{locals_there, locals_nowhere}
use Rattle.expr_gen.proofs.frames.locals_of.Goals as goal

pub returns-in-Some : goal.returns-in-Some
returns-in-Some c =
    let bodies : List Body = c.as_slice.result.now in
    let at : slice_get c.args.program.now.bodies c.args.number ≡ Some c.in-Some.body.now =
    ap (λ (xs : List Body). slice_get xs c.args.number) (sym c.as_slice.ensures)
    ∙ slice_get_read bodies (length bodies) c.args.number c.in-Some.body.now refl (ltb-true c.args.number (length bodies) (sym c.in-Some.ensures.lookup.0)) c.in-Some.ensures.lookup.1 in
    ap (λ (rows : List LocalRow). map local_row_tree rows) c.as_slice-in-Some.ensures ∙ locals_there c.args.program.now.bodies c.args.number c.in-Some.body.now at

pub returns-in-None : goal.returns-in-None
returns-in-None c =
    let bodies : List Body = c.as_slice.result.now in
    locals_nowhere c.args.program.now.bodies c.args.number
    (ap (λ (xs : List Body). slice_get xs c.args.number) (sym c.as_slice.ensures)
    ∙ slice_get_past bodies c.args.number (ltb-false c.args.number (length bodies) (sym c.in-None.ensures.lookup.0)))

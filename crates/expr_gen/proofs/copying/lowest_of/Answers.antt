use Rattle.std.proofs.Common.{◌≡◌, Some, None, List, ℤ, length, refl, sym, ap, ◌∙◌}
use Rattle.std.specs.Prelude.{slice_get}
use Rattle.std.proofs.lemmas.Bool.{ltb-true, ltb-false}
use Rattle.std.proofs.lemmas.Option.{slice_get_read, slice_get_past}
use Rattle.std.proofs.lemmas.Result.{IfOk-weaker}
use Rattle.modes.specs.declared.mode.Mode.{Mode}
use Rattle.modes.specs.ModeTree.{mode_tree}
use Rattle.modes.specs.Scalars.{lowest_of}
use Rattle.checked_program.specs.declared.program.LocalRow.{LocalRow}
use Rattle.expr_gen.proofs.Rows.{lowest_there, lowest_nowhere}
use Rattle.expr_gen.proofs.copying.lowest_of.Goals as goal

pub returns-in-Some : goal.returns-in-Some
returns-in-Some c =
    let locals : List LocalRow = c.args.locals.now in
    let at : slice_get locals c.args.number ≡ Some c.in-Some.local.now =
    slice_get_read locals (length locals) c.args.number c.in-Some.local.now refl (ltb-true c.args.number (length locals) (sym c.in-Some.ensures.lookup.0)) c.in-Some.ensures.lookup.1 in
    IfOk-weaker c.lowest_scalars.result _ _ (λ x p. p ∙ ap (λ (m : Mode). lowest_of (mode_tree m)) c.deref.ensures ∙ lowest_there locals c.args.number c.in-Some.local.now at) c.lowest_scalars.ensures

pub returns-in-None : goal.returns-in-None
returns-in-None c =
    let locals : List LocalRow = c.args.locals.now in
    c.new.ensures ∙ lowest_nowhere locals c.args.number (slice_get_past locals c.args.number (ltb-false c.args.number (length locals) (sym c.in-None.ensures.lookup.0)))

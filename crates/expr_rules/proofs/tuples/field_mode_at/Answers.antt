use Rattle.std.proofs.Common.{◌≡◌, ap, sym, ◌∙◌, Option, Some, None}
use Rattle.std.specs.Prelude.{option_map, slice_get}
use Rattle.modes.specs.declared.mode.Field.{Field}
use Rattle.modes.specs.ModeTree.{ModeTree, field_tree}
use Rattle.expr_rules.proofs.RangeViews.{field_found}
use Rattle.expr_rules.proofs.tuples.field_mode_at.Goals as goal

abbrev mode_in : Option Field → Option ModeTree
mode_in f = option_map (λ f. (field_tree f).mode) f

pub returns-in-None : goal.returns-in-None
returns-in-None c =
    let none : slice_get c.args.fields.now c.args.place ≡ None = sym c.in-None.ensures in
    sym (field_found c.args.fields.now c.args.place ∙ ap mode_in none)

pub returns-in-Some : goal.returns-in-Some
returns-in-Some c =
    let some : slice_get c.args.fields.now c.args.place ≡ Some c.in-Some.field.now = sym c.in-Some.ensures in
    ap Some c.mode_of_field.ensures ∙ sym (field_found c.args.fields.now c.args.place ∙ ap mode_in some)

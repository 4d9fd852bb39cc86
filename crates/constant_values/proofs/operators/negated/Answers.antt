use Rattle.std.proofs.Common.{◌∙◌, sym, ◌≡◌, ℤ, List, Option, subst}
use Rattle.std.specs.Prelude.{IfOk}
use Rattle.chill_tree.specs.declared.tree.expr.Prefix.TheVariants as prefixes
use Rattle.modes.specs.ModeTree.{class_tree, mode_tree}
use Rattle.checks_model.specs.Operations.{form_in}
use Rattle.checks_model.specs.OperatorValues.{value_of_unary}
use Rattle.constant_values.proofs.OperandValues.{set_form}
use Rattle.constant_values.proofs.RoutineValues.{complement_value, negated_number, single_scalars}
use Rattle.constant_values.proofs.operators.negated.Goals as goal

pub returns-in-Some : goal.returns-in-Some
returns-in-Some c = λ v a.
    complement_value (class_tree c.args.class.now) (mode_tree c.in-Some.member.now) v c.number_of_values.result c.args.operand.now c.in_ok-complement.field-0
    (set_form (form_in (class_tree c.args.class.now)) (mode_tree c.in-Some.member.now) (sym c.in-Some.ensures)) a c.number_of_values.ensures c.in_ok-complement.ensures

pub returns : goal.returns
returns c = λ v a.
    let own = negated_number (class_tree c.args.class.now) v c.args.operand.now a (sym c.in_default.ensures) in
    subst (λ (x : Option (List ℤ)). IfOk c.some_single.result (λ r. r ≡ x))
    (single_scalars c.opposite.result (value_of_unary prefixes.Not v) (c.opposite.ensures own.n (c.first.ensures ∙ own.first) ∙ sym own.value)) c.some_single.ensures

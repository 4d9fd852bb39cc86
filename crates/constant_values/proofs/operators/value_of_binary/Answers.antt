use Rattle.std.proofs.Common.{◌∙◌, ◌≡◌, ap, sym, Some, ℤ, List, [], ◌∷◌, Option, rules, to_z, of_z, w64, subst}
use Rattle.std.specs.Prelude.{IfOk, option_map}
use Rattle.modes.specs.ModeTree.{class_tree, mode_tree}
use Rattle.scalar_operators.specs.Numbers.{truth_number, comes_before, same_numbers}
use Rattle.checks_model.specs.Operations.{form_in}
use Rattle.checks_model.specs.ValueTrees.{scalars_in}
use Rattle.checks_model.specs.OperatorValues.{value_of_binary}
use Rattle.constant_values.specs.Comparisons.{compared}
use Rattle.constant_values.proofs.OperandValues.{set_form, parts_operands, number_operands}
use Rattle.constant_values.proofs.operators.value_of_binary.Goals as goal

pub returns-in-Some : goal.returns-in-Some
returns-in-Some c = λ c' v w a.
    c.value_with_set.ensures c' (class_tree c.args.class.now) v w (set_form (form_in (class_tree c.args.class.now)) (mode_tree c.in-Some.member.now) (sym c.in-Some.ensures)) a

pub returns-then-has_parts : goal.returns-then-has_parts
returns-then-has_parts c = λ c' v w a.
    let own = parts_operands c.tests_law.ensures.compatible c.args.operator c' (class_tree c.args.class.now) v w c.args.left.now c.args.right.now a (sym c.has_parts.ensures ∙ c.if-has_parts.true) in
    let same : to_z w64 (of_z w64 c.truth_from.result) ≡ c.truth_from.result = search rules in
    let told : c.truth_from.result ≡ truth_number (compared c.args.operator (comes_before c.args.left.now c.args.right.now) (same_numbers c.args.left.now c.args.right.now) (comes_before c.args.right.now c.args.left.now)) =
    c.truth_from.ensures ∙ ap truth_number (c.compared_parts-holds.ensures own.long) in
    let value : Some (to_z w64 (of_z w64 c.truth_from.result) ∷ []) ≡ option_map scalars_in (value_of_binary c.args.operator (class_tree c.args.class.now) v w) =
    ap (λ (x : ℤ). Some (x ∷ [])) (same ∙ told) ∙ ap (option_map scalars_in) own.value in
    subst (λ (x : Option (List ℤ)). IfOk c.some_single.result (λ r. r ≡ x)) value c.some_single.ensures

pub returns : goal.returns
returns c = λ c' v w a.
    let own = number_operands c.tests_law.ensures.compatible c.args.operator c' (class_tree c.args.class.now) v w c.args.left.now c.args.right.now a (sym c.in_default.ensures) (sym c.has_parts.ensures ∙ c.if-has_parts.false) in
    subst (λ (x : Option (List ℤ)). IfOk c.value_of_numbers.result (λ r. r ≡ x)) (ap (option_map scalars_in) own.value) (c.value_of_numbers.ensures own.a own.b own.one own.other)

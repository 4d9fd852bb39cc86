use Rattle.std.proofs.Common.{◌≡◌, ◌∙◌, ap, sym, Some, Option}
use Rattle.std.specs.Prelude.{option_map, is_some}
use Rattle.modes.specs.ModeTree.{ClassTree, class_tree}
use Rattle.class_operators.specs.Predefined.{predefined_tree}
use Rattle.checks_model.specs.Operations.{class_of_routine}
use Rattle.checks_model.specs.OperatorValues.{value_of_routine}
use Rattle.constant_values.proofs.RoutineValues.{single_scalars}
use Rattle.constant_operators.proofs.Computing.{one_operand, routine_result}
use Rattle.constant_operators.proofs.evaluation.Evaluation.computed_routine.Goals as goal

pub returns : goal.returns
returns c = λ c' v i is.
    let own' = predefined_tree c.args.own in
    let mine = class_tree c.in-Some.of in
    let own = class_tree c.in-Some-2.class in
    let one = one_operand c' v c.args.arg.now mine c.in-Some-value.value i (ap (option_map class_tree) c.in-Some.is) c.in-Some-value.is in
    let taken : class_of_routine own' mine ≡ Some own = sym c.in_ok-class.ensures ∙ ap (option_map class_tree) c.in-Some-2.is in
    let value = c.value_of_routine.ensures one.x (record { taken = ap (λ (x : Option ClassTree). is_some x) taken; operand = one.operand }) in
    routine_result own' c' v mine own c.in-Some-value.value c.in_ok-value.value c.with_value.result one is taken
    (c.in_ok-value.ensures ∙ single_scalars c.value_of_routine.result (value_of_routine own' mine one.x) value) c.with_value.ensures

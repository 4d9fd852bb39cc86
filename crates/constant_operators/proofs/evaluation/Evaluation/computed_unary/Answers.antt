use Rattle.std.proofs.Common.{◌≡◌, ◌∙◌, ap, sym, Some, Option}
use Rattle.std.specs.Prelude.{option_map, is_some}
use Rattle.modes.specs.ModeTree.{ClassTree, class_tree}
use Rattle.checks_model.specs.Operations.{class_of_unary}
use Rattle.constant_operators.proofs.Computing.{one_operand, unary_result}
use Rattle.constant_operators.proofs.evaluation.Evaluation.computed_unary.Goals as goal

pub returns : goal.returns
returns c = λ c' v i.
    let mine = class_tree c.in-Some.own in
    let own = class_tree c.in-Some-2.class in
    let one = one_operand c' v c.args.operand.now mine c.in-Some-value.value i (ap (option_map class_tree) c.in-Some.is) c.in-Some-value.is in
    let taken : class_of_unary c.args.operator mine ≡ Some own = sym c.in_ok-class.ensures ∙ ap (option_map class_tree) c.in-Some-2.is in
    unary_result c.args.operator c' v mine own c.in-Some-value.value c.in_ok-value.value c.with_value.result one taken
    (c.in_ok-value.ensures one.x (record { taken = ap (λ (x : Option ClassTree). is_some x) taken; operand = one.operand })) c.with_value.ensures

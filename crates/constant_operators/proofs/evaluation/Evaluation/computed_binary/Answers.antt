use Rattle.std.proofs.Common.{◌≡◌, ◌∙◌, ap, sym, Some}
use Rattle.std.specs.Prelude.{option_map}
use Rattle.modes.specs.ModeTree.{class_tree}
use Rattle.checks_model.specs.Operations.{class_of_binary}
use Rattle.constant_operators.proofs.Computing.{one_operand, both_operands, binary_result}
use Rattle.constant_operators.proofs.evaluation.Evaluation.computed_binary.Goals as goal

pub returns : goal.returns
returns c = λ c' d v w i j.
    let mine = class_tree c.in-Some.one in
    let theirs = class_tree c.in-Some-class.other in
    let own = class_tree c.in-Some-2.class in
    let one = one_operand c' v c.args.left.now mine c.in-Some-value.mine i (ap (option_map class_tree) c.in-Some.is) c.in-Some-value.is in
    let other = one_operand d w c.args.right.now theirs c.in-Some-value-2.theirs j (ap (option_map class_tree) c.in-Some-class.is) c.in-Some-value-2.is in
    let taken : class_of_binary c.args.operator mine theirs ≡ Some own = sym c.in_ok-class.ensures ∙ ap (option_map class_tree) c.in-Some-2.is in
    binary_result c.tests_law.ensures.compatible c.args.operator c' d v w mine theirs own c.in-Some-value.mine c.in-Some-value-2.theirs c.in_ok-value.value c.with_value.result one other taken
    (c.in_ok-value.ensures mine one.x other.x (both_operands c.args.operator mine theirs own one.x other.x c.in-Some-value.mine c.in-Some-value-2.theirs taken one.operand other.operand)) c.with_value.ensures

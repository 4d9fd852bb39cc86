use Rattle.std.proofs.Common.{◌≡◌, drop}
use Rattle.chill_tree.specs.ExprTree.{expr_nodes, expr_trees, range_nodes, range_trees}
use Rattle.checks_model.specs.Operations.{is_measuring}
use Rattle.checks_model.specs.Constants.{have_form, are_arguments}
use Rattle.class_operators.specs.Predefined.{predefined_tree}
use Rattle.constant_operators.specs.Grounds.{ground_of, HasGround}
use Rattle.constant_rules.proofs.forms.+form.Given as goal

abbrev pub invariant-have_form-loop-part : goal.invariant-have_form-loop-part
invariant-have_form-loop-part l = HasGround l.ground → have_form (ground_of l.ground) (range_nodes (range_trees (drop l.part-index l.parts))) ≡ have_form (ground_of l.ground) (range_nodes (range_trees l.parts))

abbrev pub invariant-are_arguments-loop-arg : goal.invariant-are_arguments-loop-arg
invariant-are_arguments-loop-arg l = HasGround l.ground → are_arguments (ground_of l.ground) (is_measuring (predefined_tree l.own)) (expr_nodes (expr_trees (drop l.arg-index l.args))) ≡ are_arguments (ground_of l.ground) (is_measuring (predefined_tree l.own)) (expr_nodes (expr_trees l.args))

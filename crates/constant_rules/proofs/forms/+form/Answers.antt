use Rattle.std.proofs.Common.{◌≡◌, Some, rules, ap, sym, ◌∙◌}
use Rattle.chill_tree.specs.ExprTree.{expr_tree, boxed_expr, expr_nodes, expr_trees, apply}
use Rattle.chill_tree.proofs.ExprViews.{tree-apply}
use Rattle.class_operators.specs.Predefined.{predefined_tree}
use Rattle.checks_model.specs.Constants.{has_form}
use Rattle.constant_operators.specs.Grounds.{ground_of, predefined_named}
use Rattle.constant_rules.specs.Walks.{routine_form}
use Rattle.constant_rules.proofs.OfExprs.{routine_has_form}
use Rattle.constant_rules.proofs.forms.+form.Goals as goal

pub has_form-returns-in-Some-routine_called : goal.has_form-returns-in-Some-routine_called
has_form-returns-in-Some-routine_called t c = λ ground.
    let g = ground_of c.args.ground.now in
    let e = boxed_expr c.in-Apply.of in
    let es = expr_nodes (expr_trees c.in-Apply.args) in
    let tree : expr_tree c.args.expr.now ≡ apply c.in-Apply.at e es = ap expr_tree c.in-Apply.is ∙ tree-apply c.in-Apply.at c.in-Apply.of c.in-Apply.args in
    let called : predefined_named g e ≡ Some (predefined_tree c.in-Some-routine_called.own) = search rules in
    let args : c.are_arguments.result ≡ routine_form g (predefined_tree c.in-Some-routine_called.own) es = search rules in
    args ∙ sym (ap (has_form g c.args.is_part) tree ∙ routine_has_form g c.args.is_part c.in-Apply.at e es (predefined_tree c.in-Some-routine_called.own) called)

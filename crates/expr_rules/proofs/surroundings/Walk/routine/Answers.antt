use Rattle.std.proofs.Common.{◌≡◌, ◌++◌, List, ap, sym, ◌∙◌, rules}
use Rattle.std.specs.Prelude.{true, false, ◌==◌, length}
use Rattle.chill_tree.specs.ExprTree.{expr_trees, expr_nodes}
use Rattle.diagnostics.specs.declared.diagnostic.Diagnostic.{Diagnostic}
use Rattle.class_operators.specs.Predefined.{predefined_tree}
use Rattle.checks_model.specs.Classes.{count_exprs, class_of_call, measured_first}
use Rattle.expr_rules.specs.Grounds.{ground_in}
use Rattle.expr_rules.specs.Views.{own_class}
use Rattle.expr_rules.specs.Steps.{told_of_routine}
use Rattle.expr_rules.proofs.RangeViews.{args_counted}
use Rattle.expr_rules.proofs.Turns.{routine_wrong, routine_broken, broken_known}
use Rattle.expr_rules.proofs.surroundings.Walk.routine.Goals as goal

pub returns-then-not-branch-clause-told : goal.returns-then-not-branch-clause-told
returns-then-not-branch-clause-told c = λ has.
    let es = expr_nodes (expr_trees c.args.args.now) in
    let wrong : c.in_ok-tell_wrong_number.field-0 ≡ false = search rules in
    c.in_ok-tell_wrong_number.ensures.told
    ∙ ap (λ (xs : List Diagnostic). c.args.told.now ++ xs) (routine_wrong (ground_in c.args.self.now) (predefined_tree c.args.own) es c.args.known.now.is_clean (own_class c.args.known.now.class) c.args.at (length c.args.args.now) c.number_of_arguments.result c.in_ok-tell_wrong_number.field-0 (sym (args_counted c.args.args.now)) c.number_of_arguments.ensures c.in_ok-tell_wrong_number.ensures.clean wrong)

pub returns-then-not-branch-clause-known : goal.returns-then-not-branch-clause-known
returns-then-not-branch-clause-known c = λ has clean.
    let g = ground_in c.args.self.now in
    let p = predefined_tree c.args.own in
    let es = expr_nodes (expr_trees c.args.args.now) in
    let k = own_class c.args.known.now.class in
    let wrong : c.in_ok-tell_wrong_number.field-0 ≡ false = search rules in
    broken_known (told_of_routine g p es true k c.args.at) (class_of_call p (measured_first g es) k) c.broken.result c.broken.ensures
    (routine_broken g p es true k c.args.at (length c.args.args.now) c.number_of_arguments.result c.in_ok-tell_wrong_number.field-0 (sym (args_counted c.args.args.now)) c.number_of_arguments.ensures c.in_ok-tell_wrong_number.ensures.clean wrong)

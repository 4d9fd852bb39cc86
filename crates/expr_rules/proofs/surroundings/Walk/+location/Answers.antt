use Rattle.std.proofs.Common.{◌≡◌, rules}
use Rattle.chill_tree.specs.ExprTree.{field, expr_tree}
use Rattle.chill_tree.proofs.ExprViews.{expr_built}
use Rattle.expr_rules.specs.Grounds.{ground_in}
use Rattle.expr_rules.proofs.Turns.{field_known}
use Rattle.expr_rules.proofs.surroundings.Walk.+location.Goals as goal

pub returns-in_ok-base-in-Field-clause-known : goal.returns-in_ok-base-in-Field-clause-known
returns-in_ok-base-in-Field-clause-known t c = λ has.
    let e = expr_tree c.deref-in-Field.result.now in
    let tree : expr_tree c.args.expr.now ≡ field c.in-Field.at e c.in-Field.field = search (rules, expr_built) in
    field_known c.field.result (ground_in c.args.self.now) (expr_tree c.args.expr.now) e c.in-Field.at c.in-Field.field c.in_ok-base-in-Field.base tree (c.in_ok-base-in-Field.ensures.known has) c.field.ensures.clean c.field.ensures.class

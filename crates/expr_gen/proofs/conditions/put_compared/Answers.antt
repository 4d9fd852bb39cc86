use Rattle.program_trees.specs.ExprTree.{expr_tree}
use Rattle.code_scheme.specs.ExprSizes.{expr_size}
use Rattle.std.proofs.lemmas.Result.{on_ok_weaker}
use Rattle.expr_gen.proofs.Made.{count_is, compared_made}
use Rattle.expr_gen.proofs.conditions.put_compared.Goals as goal

pub returns-clause-puts : goal.returns-clause-puts
returns-clause-puts c =
    let left = expr_tree c.args.operands.left.now in
    let right = expr_tree c.args.operands.right.now in
    let between = rw c.bounds_of_value.ensures at c.in_ok-put_between.ensures.puts (expr_size right) c.expr_size.ensures in
    let behind = rw (c.straight.ensures, count_is c.args.operands.left.now) at c.in_ok-put_behind.ensures.puts in
    let branch = rw (c.turned.ensures, c.is_turned.ensures) at c.put_branch.ensures.puts in
    on_ok_weaker c.put_branch.result
    (λ q. compared_made _ _ c.args.operands.operator left right c.args.branch.when c.args.branch.target c.in_ok-put_expr.ensures.puts between c.in_ok-put_expr-2.ensures.puts behind q)
    branch

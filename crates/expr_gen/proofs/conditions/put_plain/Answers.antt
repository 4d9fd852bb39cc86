use Rattle.std.proofs.lemmas.Result.{on_ok_weaker}
use Rattle.program_trees.specs.ExprTree.{expr_tree}
use Rattle.expr_gen.specs.Putting.{layout_of}
use Rattle.expr_gen.proofs.Made.{plain_made}
use Rattle.expr_gen.proofs.conditions.put_plain.Goals as goal

pub returns-clause-puts : goal.returns-clause-puts
returns-clause-puts c =
    on_ok_weaker c.put_branch.result
    (λ q. plain_made (layout_of c.args.site.now.program.now c.args.site.now.body.now) c.args.free (expr_tree c.args.condition.now) c.args.branch.when c.args.branch.target c.in_ok-put_expr.ensures.puts q)
    c.put_branch.ensures.puts

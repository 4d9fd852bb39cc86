use Rattle.std.proofs.lemmas.Result.{on_ok_weaker}
use Rattle.program_trees.specs.ExprTree.{expr_tree, location_tree}
use Rattle.code_scheme.specs.ExprSizes.{expr_size}
use Rattle.action_gen.specs.Putting.{standing_of}
use Rattle.action_gen.proofs.Assigned.{count_at, update_told}
use Rattle.action_gen.proofs.assigning.put_update.Goals as goal

pub returns-clause-puts : goal.returns-clause-puts
returns-clause-puts c =
    on_ok_weaker c.put_store.result
    (λ q. update_told (standing_of c.args.around.now) (location_tree c.args.target.now) c.args.change.operator (expr_tree c.args.change.value.now) c.args.change.bounds c.tested.result _ (count_at c.args.target.now) c.tested.ensures
    c.in_ok-put_read.ensures.puts (c.in_ok-put_between.ensures.puts (expr_size (expr_tree c.args.change.value.now)) c.expr_size.ensures) c.in_ok-put_expr.ensures.puts c.in_ok-put_behind.ensures.puts c.in_ok-put_check.ensures.puts q)
    c.put_store.ensures.puts

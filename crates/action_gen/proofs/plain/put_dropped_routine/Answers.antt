use Rattle.std.proofs.lemmas.Result.{on_ok_weaker}
use Rattle.action_gen.specs.Putting.{standing_of}
use Rattle.program_trees.specs.ExprTree.{expr_tree}
use Rattle.action_gen.proofs.Asked.{dropped_told}
use Rattle.action_gen.proofs.plain.put_dropped_routine.Goals as goal

pub returns-clause-puts : goal.returns-clause-puts
returns-clause-puts c =
    on_ok_weaker c.put.result (λ q. dropped_told (standing_of c.args.around.now) c.args.routine (expr_tree c.args.argument.now) c.in_ok-put_expr.ensures.puts c.in_ok-put_routine.ensures.puts q) c.put.ensures.puts

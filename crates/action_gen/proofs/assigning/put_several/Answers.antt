use Rattle.std.proofs.lemmas.Result.{on_ok_weaker}
use Rattle.expr_gen.proofs.Told.{uniform_count}
use Rattle.action_gen.specs.Putting.{standing_of}
use Rattle.program_trees.specs.ExprTree.{received_tree}
use Rattle.action_gen.proofs.Assigned.{several_told}
use Rattle.action_gen.proofs.assigning.put_several.Goals as goal

pub returns-clause-puts : goal.returns-clause-puts
returns-clause-puts c =
    on_ok_weaker c.put_names.result
    (λ q. several_told (standing_of c.args.around.now) c.args.names.now (received_tree c.args.value.now) _ (uniform_count c.args.value.now c.deref.result.now c.deref.ensures) c.in_ok-put_received.ensures.puts c.in_ok-put.ensures.puts q)
    c.put_names.ensures.puts

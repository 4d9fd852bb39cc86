use Rattle.std.proofs.lemmas.Result.{on_ok_weaker}
use Rattle.code_scheme.specs.StatementSite.{declared_scalars, result_scalars}
use Rattle.program_trees.specs.ProgramTree.{body_row_tree}
use Rattle.action_gen.specs.Putting.{standing_of}
use Rattle.program_trees.specs.ExprTree.{received_tree}
use Rattle.action_gen.proofs.Assigned.{result_told}
use Rattle.action_gen.proofs.assigning.put_result.Goals as goal

pub returns-clause-puts : goal.returns-clause-puts
returns-clause-puts c =
    let own = body_row_tree c.args.around.now.site.body.now in
    on_ok_weaker c.put.result
    (λ q. result_told (standing_of c.args.around.now) (received_tree c.args.value.now) c.in_ok-first.first c.result_scalars.result (declared_scalars own) (result_scalars own) (c.in_ok-first.ensures (declared_scalars own) c.declared_scalars.ensures) c.result_scalars.ensures c.in_ok-put_received.ensures.puts q)
    c.put.ensures.puts

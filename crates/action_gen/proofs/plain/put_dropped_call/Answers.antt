use Rattle.std.proofs.lemmas.Result.{on_ok_weaker}
use Rattle.action_gen.specs.Putting.{standing_of}
use Rattle.program_trees.specs.ExprTree.{call_tree}
use Rattle.action_gen.proofs.Asked.{perform_told}
use Rattle.action_gen.proofs.plain.put_dropped_call.Goals as goal

pub returns-clause-puts : goal.returns-clause-puts
returns-clause-puts c =
    on_ok_weaker c.put_drop.result (λ q. perform_told (standing_of c.args.around.now) (call_tree c.args.call.now) c.dropped_scalars.result c.dropped_scalars.ensures c.in_ok-put_call.ensures.puts q) c.put_drop.ensures.puts

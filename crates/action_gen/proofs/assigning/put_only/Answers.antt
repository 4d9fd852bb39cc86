use Rattle.std.proofs.lemmas.Result.{on_ok_weaker}
use Rattle.expr_gen.proofs.Told.{uniform_count}
use Rattle.action_gen.specs.Puts.{lay_around}
use Rattle.program_trees.specs.ExprTree.{received_tree}
use Rattle.action_gen.proofs.Assigned.{only_told}
use Rattle.action_gen.proofs.assigning.put_only.Goals as goal

pub returns-clause-puts : goal.returns-clause-puts
returns-clause-puts c =
    on_ok_weaker c.put_named.result
    (λ q. only_told (lay_around c.args.around.now) c.args.around.now.free c.args.name (received_tree c.args.value.now) _ (uniform_count c.args.value.now c.deref.result.now c.deref.ensures) c.in_ok-put_offset_of.ensures.puts c.in_ok-put_received.ensures.puts q)
    c.put_named.ensures.puts

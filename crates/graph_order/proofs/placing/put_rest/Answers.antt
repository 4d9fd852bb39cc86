use Rattle.std.proofs.Common.{arith}
use Rattle.graph_order.proofs.Rounds.{added_step}
use Rattle.graph_order.proofs.placing.put_rest.Goals as goal

pub loop-node-preserved : goal.loop-node-preserved
loop-node-preserved c = added_step c.args.placed.now c.loop-node.placed c.put_one.new.placed c.args.nodes.now c.loop-node.node-index (omega arith) c.loop-node.invariant c.in_ok-put_one.ensures

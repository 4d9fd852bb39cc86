use Rattle.std.proofs.Common.{arith}
use Rattle.graph_order.proofs.Rounds.{rounded_step}
use Rattle.graph_order.proofs.placing.round.Goals as goal

pub loop-node-preserved : goal.loop-node-preserved
loop-node-preserved c = rounded_step c.args.needs.now c.args.placed.now c.loop-node.placed c.step.new.placed c.args.nodes.now c.loop-node.later c.step.new.later c.loop-node.node-index (omega arith) c.loop-node.invariant c.in_ok-step.ensures

use Rattle.std.proofs.Common.{take}
use Rattle.graph_order.specs.Placing.{Rounded}
use Rattle.graph_order.proofs.placing.round.Given as goal

abbrev pub invariant-loop-node : goal.invariant-loop-node
invariant-loop-node l = Rounded l.needs l.fn.placed l.placed (take l.node-index l.nodes) l.later

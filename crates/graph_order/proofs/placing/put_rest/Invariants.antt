use Rattle.std.proofs.Common.{take}
use Rattle.graph_order.specs.Placing.{AreAdded}
use Rattle.graph_order.proofs.placing.put_rest.Given as goal

abbrev pub invariant-loop-node : goal.invariant-loop-node
invariant-loop-node l = AreAdded l.fn.placed l.placed (take l.node-index l.nodes)

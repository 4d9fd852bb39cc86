use Rattle.std.proofs.Common.{below_more, refl}
use Rattle.cycles.proofs.marks.nodes_pass.Goals as goal

pub loop-node-preserved : goal.loop-node-preserved
loop-node-preserved c = below_more _ _ c.loop-node.invariant (c.if-not-node_passes.ensures refl)

use Rattle.std.proofs.Common.{length}
use Rattle.graph_order.specs.Placing.{AreSorted}
use Rattle.graph_order.proofs.placing.rounds.Given as goal

abbrev pub invariant-loop-later : goal.invariant-loop-later
invariant-loop-later l = AreSorted l.needs l.placed l.waiting

abbrev pub decreases-loop-later : goal.decreases-loop-later
decreases-loop-later l = length l.waiting

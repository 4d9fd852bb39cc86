use Rattle.std.proofs.Common.{ℕ, ◌<◌}
use Rattle.cycles.specs.Marks.{NodePasses}
use Rattle.cycles.proofs.marks.nodes_pass.Given as goal

-- the nodes so far pass
abbrev pub invariant-loop-node : goal.invariant-loop-node
invariant-loop-node l = (v : ℕ) → v < l.node → NodePasses l.edges l.marks v

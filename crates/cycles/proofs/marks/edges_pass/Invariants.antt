use Rattle.std.proofs.Common.{ℕ, ◌<◌, slice_index_or}
use Rattle.cycles.specs.declared.edge.Edge.{Edge}
use Rattle.cycles.specs.Marks.{EdgePasses}
use Rattle.cycles.proofs.marks.edges_pass.Given as goal

-- the edges so far pass
abbrev pub invariant-loop-edge : goal.invariant-loop-edge
invariant-loop-edge l = (k : ℕ) (d : Edge) → k < l.edge-index → EdgePasses l.marks (slice_index_or l.edges k d)

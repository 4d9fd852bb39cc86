use Rattle.std.proofs.Common.{ℕ, ◌<◌, slice_index_or}
use Rattle.cycles.specs.declared.edge.Edge.{Edge}
use Rattle.cycles.specs.Depends.{IsSet}
use Rattle.cycles.specs.Following.{OnlyDepended, IsSource, Grown}
use Rattle.cycles.proofs.closure.Closure.follow.Given as goal

-- what the function ensures, as far as the edges out of the node have been followed
abbrev pub invariant-loop-edge : goal.invariant-loop-edge
invariant-loop-edge l = record {
  grown : Grown l.initial.self.reached.items l.self.reached.items l.initial.self.waiting.items l.self.waiting.items;
  sound : (start : ℕ) → OnlyDepended l.edges start l.initial.self.reached.items → IsSource start l.initial.self.reached.items l.node → OnlyDepended l.edges start l.self.reached.items;
  set : (k : ℕ) (d : Edge) → k < l.edge-index → IsSet l.self.reached.items (slice_index_or l.edge-items k d).to;
}

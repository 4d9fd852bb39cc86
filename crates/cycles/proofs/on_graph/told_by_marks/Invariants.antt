use Rattle.std.proofs.Common.{◌≡◌, ℕ, ◌<◌, false, slice_index_or}
use Rattle.std.specs.Vec.{vec_len}
use Rattle.cycles.specs.Marks.{mark}
use Rattle.cycles.proofs.on_graph.told_by_marks.Given as goal

-- the nodes so far have their answers
abbrev pub invariant-loop-node : goal.invariant-loop-node
invariant-loop-node l = record {
  len : vec_len l.cyclic ≡ l.node;
  exact : (v : ℕ) → v < l.node → slice_index_or l.cyclic.items v false ≡ (mark l.marks v).cyclic;
}

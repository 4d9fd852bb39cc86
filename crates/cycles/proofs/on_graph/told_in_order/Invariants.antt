use Rattle.std.proofs.Common.{◌≡◌, ℕ, ◌<◌, ◌↔◌}
use Rattle.std.specs.Vec.{vec_len}
use Rattle.cycles.specs.Depends.{Depends, IsSet}
use Rattle.cycles.proofs.on_graph.told_in_order.Given as goal

-- the nodes so far have their answers
abbrev pub invariant-loop-node : goal.invariant-loop-node
invariant-loop-node l = record {
  len : vec_len l.cyclic ≡ l.node;
  exact : (v : ℕ) → v < l.node → IsSet l.cyclic.items v ↔ Depends l.edges v v;
}

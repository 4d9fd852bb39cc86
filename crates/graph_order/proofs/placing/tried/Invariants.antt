use Rattle.std.proofs.Common.{◌<◌, ℕ}
use Rattle.std.specs.List.{All, Contains}
use Rattle.graph_order.proofs.placing.tried.Given as goal

abbrev pub invariant-first_tried : goal.invariant-first_tried
invariant-first_tried l = All (λ d. d < l.count) l.nodes

abbrev pub invariant-all_tried : goal.invariant-all_tried
invariant-all_tried l = record { below : All (λ d. d < l.count) l.nodes; each : (d : ℕ) → d < l.node → Contains l.nodes d }

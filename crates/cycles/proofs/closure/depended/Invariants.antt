use Rattle.std.proofs.Common.{◌≡◌, ℕ, ◌+◌, ◌-◌, ◌*◌, ◌⊎◌, Contains, count_by}
use Rattle.std.specs.Vec.{vec_len}
use Rattle.cycles.specs.Following.{OnlyDepended, IsSource, IsFollowed}
use Rattle.cycles.proofs.closure.depended.Given as goal

-- what has been reached is depended on, and waits or has been followed
abbrev pub invariant-nodes : goal.invariant-nodes
invariant-nodes l = record {
  size : vec_len l.closure.reached ≡ l.count;
  sound : OnlyDepended l.edges l.start l.closure.reached.items;
  sources : (v : ℕ) → Contains l.closure.waiting.items v → IsSource l.start l.closure.reached.items v;
  followed : (v : ℕ) → IsSource l.start l.closure.reached.items v → Contains l.closure.waiting.items v ⊎ IsFollowed l.edges l.closure.reached.items v;
}

-- a node that waits is taken out, and each that comes in is reached for the first time
abbrev pub decreases-nodes : goal.decreases-nodes
decreases-nodes l = vec_len l.closure.waiting + 2 * (l.count - count_by (λ b. b) l.closure.reached.items)

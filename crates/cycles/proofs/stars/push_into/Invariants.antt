use Rattle.std.proofs.Common.{◌≡◌, ◌++◌, map, take}
use Rattle.cycles.specs.Groups.{edge}
use Rattle.cycles.proofs.stars.push_into.Given as goal

-- the edges of the nodes so far are behind
abbrev pub invariant-loop-node : goal.invariant-loop-node
invariant-loop-node l = l.edges.items ≡ l.fn.edges.items ++ map (λ v. edge v l.middle) (take l.node-index l.nodes)

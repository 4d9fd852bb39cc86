use Rattle.std.proofs.Common.{◌≡◌, ◌+◌, ◌++◌, drop}
use Rattle.cycles.specs.Stars.{stars}
use Rattle.cycles.proofs.stars.star_edges.Given as goal

-- what is there and the edges of the other groups are the edges of all
abbrev pub invariant-loop-group : goal.invariant-loop-group
invariant-loop-group l = (l.middle ≡ l.fn.base + l.group-index) × (l.edges.items ++ stars l.middle (drop l.group-index l.groups) ≡ stars l.fn.base l.groups)

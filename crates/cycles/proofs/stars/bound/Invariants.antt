use Rattle.std.proofs.Common.{take}
use Rattle.std.specs.List.{All}
use Rattle.cycles.proofs.Bounds.{IsLow}
use Rattle.cycles.proofs.stars.bound.Given as goal

-- all nodes so far are at most the last
abbrev pub invariant-loop-group : goal.invariant-loop-group
invariant-loop-group l = All (IsLow l.last) (take l.group-index l.groups)

use Rattle.std.proofs.Common.{◌≡◌, [], replicate}
use Rattle.world_check.proofs.opening.empty_lists.Given as goal

abbrev pub invariant-loop : goal.invariant-loop
invariant-loop g l = l.all.items ≡ replicate l.counter []

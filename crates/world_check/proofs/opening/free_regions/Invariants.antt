use Rattle.std.proofs.Common.{◌≡◌, None, replicate}
use Rattle.world_check.proofs.opening.free_regions.Given as goal

abbrev pub invariant-loop : goal.invariant-loop
invariant-loop l = l.all.items ≡ replicate l.counter None

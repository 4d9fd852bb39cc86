use Rattle.std.proofs.Common.{◌≡◌, take}
use Rattle.world_check.proofs.requests.are_equal.Given as goal

abbrev pub invariant-loop-i : goal.invariant-loop-i
invariant-loop-i l = take l.i l.scalars ≡ take l.i l.others

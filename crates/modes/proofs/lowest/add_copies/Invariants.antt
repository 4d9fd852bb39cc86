use Rattle.std.proofs.Common.{◌≡◌, ◌++◌, replicate}
use Rattle.modes.proofs.lowest.add_copies.Given as goal

abbrev pub invariant-loop-i : goal.invariant-loop-i
invariant-loop-i l = l.out ≡ l.initial.out ++ replicate l._i l.number

use Rattle.std.proofs.Common.{◌≡◌, ◌++◌, drop}
use Rattle.scalar_operators.specs.Members.{complement_of}
use Rattle.constant_values.proofs.sets.complement.Given as goal

abbrev pub invariant-loop-own : goal.invariant-loop-own
invariant-loop-own l = complement_of l.size l.set ≡ l.found ++ complement_of l.left (drop l.own-index l.set)

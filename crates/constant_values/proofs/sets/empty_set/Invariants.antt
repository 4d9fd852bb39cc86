use Rattle.std.proofs.Common.{◌≡◌}
use Rattle.scalar_operators.specs.Members.{no_members}
use Rattle.constant_values.proofs.sets.empty_set.Given as goal

abbrev pub invariant-loop-i : goal.invariant-loop-i
invariant-loop-i l = l.found ≡ no_members l.i

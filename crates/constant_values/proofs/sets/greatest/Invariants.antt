use Rattle.std.proofs.Common.{◌≡◌}
use Rattle.scalar_operators.specs.Members.{has_member_at}
use Rattle.constant_values.specs.Sets.{greatest_below}
use Rattle.constant_values.proofs.sets.greatest.Given as goal

abbrev pub invariant-loop-k : goal.invariant-loop-k
invariant-loop-k l = l.found ≡ greatest_below (λ k. has_member_at k l.set) l.k

use Rattle.std.proofs.Common.{◌≡◌, None}
use Rattle.scalar_operators.specs.Members.{has_member_at}
use Rattle.constant_values.specs.Sets.{least_below}
use Rattle.constant_values.proofs.sets.least.Given as goal

abbrev pub invariant-loop-k : goal.invariant-loop-k
invariant-loop-k l = least_below (λ k. has_member_at k l.set) l.k ≡ None

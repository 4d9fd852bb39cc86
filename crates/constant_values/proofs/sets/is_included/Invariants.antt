use Rattle.std.proofs.Common.{◌≡◌, true}
use Rattle.scalar_operators.specs.Members.{has_member_at}
use Rattle.constant_values.specs.Sets.{included_below}
use Rattle.constant_values.proofs.sets.is_included.Given as goal

abbrev pub invariant-loop-k : goal.invariant-loop-k
invariant-loop-k l = included_below (λ k. has_member_at k l.one) (λ k. has_member_at k l.other) l.k ≡ true

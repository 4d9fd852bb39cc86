use Rattle.std.proofs.Common.{◌≡◌, ◌≤◌}
use Rattle.scalar_operators.specs.Members.{has_member_at}
use Rattle.constant_values.specs.Sets.{count_below}
use Rattle.constant_values.proofs.sets.count.Given as goal

abbrev pub invariant-loop-k : goal.invariant-loop-k
invariant-loop-k l = record { found : l.found ≡ count_below (λ k. has_member_at k l.set) l.k; few : l.found ≤ l.k }

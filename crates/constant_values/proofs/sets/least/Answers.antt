use Rattle.std.proofs.Common.{sym, ◌∙◌}
use Rattle.scalar_operators.specs.Members.{has_member_at}
use Rattle.constant_values.proofs.Below.{least_found}
use Rattle.constant_values.proofs.sets.least.Goals as goal

pub returns-then-has_member : goal.returns-then-has_member
returns-then-has_member c =
    sym (least_found (λ k. has_member_at k c.args.set.now) c.loop-k.k c.args.size c.loop-k.invariant (sym c.has_member.ensures ∙ c.if-has_member.true) c.loop-k-test.true)

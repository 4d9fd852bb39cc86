use Rattle.std.proofs.Common.{sym, ◌∙◌}
use Rattle.scalar_operators.specs.Members.{has_member_at}
use Rattle.constant_values.proofs.Below.{included_fails}
use Rattle.constant_values.proofs.sets.is_included.Goals as goal

pub returns-then-not-has_member : goal.returns-then-not-has_member
returns-then-not-has_member c =
    sym (included_fails (λ k. has_member_at k c.args.one.now) (λ k. has_member_at k c.args.other.now) c.loop-k.k c.args.size
    (sym c.has_member.ensures ∙ c.if-has_member.true) (sym c.has_member-then-has_member.ensures ∙ c.if-not-has_member.true) c.loop-k-test.true)

use Rattle.std.proofs.Common.{◌≡◌, ◌+◌, arith}
use Rattle.reach_tables.proofs.Elements.{numbers_on-on}
use Rattle.reach_tables.proofs.collect.push_on.Goals as goal

pub loop-step-preserved : goal.loop-step-preserved
loop-step-preserved c = λ h.
    let is : c.saturating_add.result ≡ c.args.first + c.loop-step.step = omega arith in
    numbers_on-on c.args.first c.loop-step.step _ _ _ _ is (c.loop-step.invariant h) c.in_ok-push.ensures.ok

use Rattle.std.proofs.Common.{◌≤◌, arith, subst}
use Rattle.std.specs.List.{All}
use Rattle.cycles.proofs.Bounds.{one_more_low, lie_below}
use Rattle.cycles.proofs.stars.bound.Goals as goal

pub loop-group-preserved : goal.loop-group-preserved
loop-group-preserved c =
    let first = c.greatest-last in
    let second = c.greatest-last-in-loop-group in
    let g = c.group-item.result in
    one_more_low c.args.groups.now c.loop-group.last second.result c.loop-group.group-index g c.loop-group-test.true c.group-item.is c.loop-group.invariant
    (omega (arith, first.ensures.least, second.ensures.least))
    (record {
      from = λ k d l. let a = subst (All (λ v. v ≤ first.result)) c.as_slice.ensures first.ensures.all k d l in omega (arith, a, second.ensures.least);
      to = subst (All (λ v. v ≤ second.result)) c.as_slice-in-loop-group.ensures second.ensures.all;
    })

pub returns-in_default : goal.returns-in_default
returns-in_default c = lie_below c.args.groups.now c.loop-group.last c.loop-group.group-index c.loop-group-test.false c.loop-group.invariant

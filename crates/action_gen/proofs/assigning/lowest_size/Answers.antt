use Rattle.std.proofs.Common.{arith}
use Rattle.action_gen.proofs.Extents.{lowest_at, lowest_end}
use Rattle.action_gen.proofs.assigning.lowest_size.Goals as goal

pub loop-local-preserved : goal.loop-local-preserved
loop-local-preserved c = record {
  counted = omega (arith, lowest_at c.args.locals.now c.loop-local._local-index c.args.value.now c.loop-local-test.true, c.scalars_size.ensures, c.saturating_add.ensures, c.saturating_add-size.ensures, c.loop-local.invariant.counted, c.loop-local.invariant.few);
  few = omega (arith, c.saturating_add-size.ensures);
}

pub returns : goal.returns
returns c = omega (arith, lowest_end c.args.locals.now c.loop-local._local-index c.args.value.now c.loop-local-test.false, c.loop-local.invariant.counted, c.loop-local.invariant.few)

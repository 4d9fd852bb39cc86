use Rattle.std.proofs.Common.{arith}
use Rattle.expr_gen.proofs.Items.{locals_end}
use Rattle.expr_gen.proofs.frames.scalars_in.Goals as goal

pub returns : goal.returns
returns c = omega (arith, locals_end c.args.locals.now c.loop-local.local-index c.loop-local-test.false, c.loop-local.invariant.counted, c.loop-local.invariant.few)

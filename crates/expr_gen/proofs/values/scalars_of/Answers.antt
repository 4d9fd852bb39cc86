use Rattle.std.proofs.Common.{arith}
use Rattle.expr_gen.proofs.Items.{count_end}
use Rattle.expr_gen.proofs.values.scalars_of.Goals as goal

pub returns : goal.returns
returns c = omega (arith, count_end c.args.all.now c.loop-received.received-index c.loop-received-test.false, c.loop-received.invariant.counted, c.loop-received.invariant.few)

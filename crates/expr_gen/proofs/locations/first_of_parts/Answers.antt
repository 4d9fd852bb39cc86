use Rattle.std.proofs.Common.{arith}
use Rattle.expr_gen.proofs.Items.{first_end}
use Rattle.expr_gen.proofs.locations.first_of_parts.Goals as goal

pub returns : goal.returns
returns c = omega (arith, first_end c.args.parts.now c.loop-part.part-index c.loop-part-test.false, c.loop-part.invariant.counted, c.loop-part.invariant.few)

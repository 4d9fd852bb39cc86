use Rattle.std.proofs.Common.{arith}
use Rattle.action_gen.proofs.Extents.{names_end}
use Rattle.action_gen.proofs.assigning.names_size.Goals as goal

pub returns : goal.returns
returns c = omega (arith, names_end c.args.names.now c.loop-name.name-index c.loop-name-test.false, c.loop-name.invariant.counted, c.loop-name.invariant.few)

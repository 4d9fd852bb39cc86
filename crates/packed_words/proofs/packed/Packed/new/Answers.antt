use Rattle.std.proofs.Common.{arith}
use Rattle.packed_words.proofs.Laid.{same_each}
use Rattle.packed_words.proofs.packed.Packed.new.Goals as goal

pub returns-clause-scalars : goal.returns-clause-scalars
returns-clause-scalars c = same_each c.loop-k.packed.scalars c.args.scalars.now (omega (arith, c.loop-k.invariant.count, c.requires.laid.count)) (λ k low. c.loop-k.invariant.done k (omega (arith, low, c.loop-k-test.false)))

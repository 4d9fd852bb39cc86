use Rattle.std.proofs.Common.{arith, rules, nat_abs, to_z, of_z, w64}
use Rattle.std.proofs.lemmas.Int.{ints}
use Rattle.number_operators.proofs.PowersetWords.{all_bits, bits_below}
use Rattle.number_operators.proofs.words.first_bits.Goals as goal

pub returns-then-count-ge32 : goal.returns-then-count-ge32
returns-then-count-ge32 c = all_bits c.args.count (omega (arith, ints))

pub returns-else-count-ge32 : goal.returns-else-count-ge32
returns-else-count-ge32 c = bits_below _ c.args.count (omega (arith, ints)) (omega (arith, ints))

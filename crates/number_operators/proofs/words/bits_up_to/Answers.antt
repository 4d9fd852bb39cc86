use Rattle.std.proofs.Common.{arith, rules, to_z, of_z, w64}
use Rattle.std.proofs.lemmas.Int.{ints, to_z-of_z}
use Rattle.number_operators.proofs.PowersetWords.{all_bits_to, bits_before}
use Rattle.number_operators.proofs.words.bits_up_to.Goals as goal

pub returns-then-last-ge31 : goal.returns-then-last-ge31
returns-then-last-ge31 c = all_bits_to c.args.last (omega (arith, ints))

pub returns-else-last-ge31 : goal.returns-else-last-ge31
returns-else-last-ge31 c = bits_before _ c.args.last _ (omega (arith, ints)) c.first_bits.ensures

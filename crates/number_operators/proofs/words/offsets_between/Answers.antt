use Rattle.std.proofs.Common.{◌≡◌, ◌^◌, ◌<◌, ap, sym, arith, pos, ℕ}
use Rattle.std.specs.Int.Bits.{and_lt}
use Rattle.std.proofs.lemmas.Nat.{xor_lt}
use Rattle.std.proofs.lemmas.Int.{ints, to_z-of_z}
use Rattle.number_operators.specs.Words.{HasFirstBits, HasBitsTo}
use Rattle.number_operators.proofs.PowersetWords.{span_word, minus_word, as_signed}
use Rattle.number_operators.proofs.words.offsets_between.Goals as goal

pub returns : goal.returns
returns c =
    let fits_a = c.ranges.a in
    let fits_b = c.ranges.b in
    let high : HasBitsTo c.bits_up_to-mask.result c.args.b = simp to_z-of_z at c.bits_up_to-mask.ensures in
    let low : HasFirstBits c.first_bits.result c.args.a = simp to_z-of_z at c.first_bits.ensures in
    let few : minus_word c.bits_up_to-mask.result c.first_bits.result < 2 ^ 32 = xor_lt 32 _ _ high.few (and_lt 32 _ _ high.few low.few) in
    as_signed _ _ few (span_word c.bits_up_to-mask.result c.first_bits.result c.args.a c.args.b high low few)

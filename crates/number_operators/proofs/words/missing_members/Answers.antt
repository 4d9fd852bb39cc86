use Rattle.std.proofs.Common.{◌≡◌, ◌^◌, ◌<◌, ◌+ℤ◌, int_lt, int_le, ap, sym, ◌∙◌, arith, pos, ℕ}
use Rattle.std.proofs.Common.{to_z, w64}
use Rattle.std.specs.Prelude.{bit_and, bit_or, bit_xor}
use Rattle.std.specs.Int.Bits.{and_lt}
use Rattle.std.proofs.lemmas.Nat.{xor_lt}
use Rattle.std.proofs.lemmas.Int.{ints, to_z-of_z}
use Rattle.scalar_operators.specs.Powersets.{low_word}
use Rattle.number_operators.specs.Words.{HasFirstBits}
use Rattle.number_operators.proofs.PowersetWords.{complement_word, minus_word, low_word_few, as_signed}
use Rattle.number_operators.proofs.words.missing_members.Goals as goal

pub returns : goal.returns
returns c =
    let fits = c.ranges.set in
    let same : to_z w64 c.args.count ≡ pos c.args.count = omega (arith, ints) in
    let first : HasFirstBits c.first_bits-mask.result (pos c.args.count) = rw same at c.first_bits-mask.ensures in
    let set : c.low_bits.result ≡ low_word c.args.set = simp to_z-of_z at c.low_bits.ensures in
    let few : minus_word c.first_bits-mask.result (low_word c.args.set) < 2 ^ 32 = xor_lt 32 _ _ first.few (and_lt 32 _ _ first.few (low_word_few c.args.set)) in
    rw set (as_signed _ _ few (complement_word c.first_bits-mask.result c.args.count c.args.set first few))

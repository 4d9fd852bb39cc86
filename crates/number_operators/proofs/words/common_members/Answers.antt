use Rattle.std.proofs.Common.{◌≡◌, ◌^◌, ◌<◌, ap, sym, ◌∙◌, arith, pos, subst, ℕ}
use Rattle.std.specs.Prelude.{bit_and, bit_or, bit_xor}
use Rattle.std.specs.Int.Bits.{and_lt}
use Rattle.std.proofs.lemmas.Int.{ints, to_z-of_z}
use Rattle.scalar_operators.specs.Powersets.{low_word}
use Rattle.number_operators.proofs.PowersetWords.{intersection_word, low_word_few, as_signed}
use Rattle.number_operators.proofs.words.common_members.Goals as goal

pub returns : goal.returns
returns c =
    let fits_a = c.ranges.a in
    let fits_b = c.ranges.b in
    let a : c.low_bits.result ≡ low_word c.args.a = simp to_z-of_z at c.low_bits.ensures in
    let b : c.low_bits-2.result ≡ low_word c.args.b = simp to_z-of_z at c.low_bits-2.ensures in
    let few : bit_and (low_word c.args.a) (low_word c.args.b) < 2 ^ 32 = and_lt 32 _ _ (low_word_few c.args.a) (low_word_few c.args.b) in
    rw (a, b) (as_signed _ _ few (intersection_word c.args.a c.args.b few))

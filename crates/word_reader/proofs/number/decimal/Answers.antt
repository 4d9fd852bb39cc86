use Rattle.std.proofs.Common.{ℕ, ◌<◌, ◌≤◌, ◌^◌, arith, lit<}
use Rattle.std.proofs.Math.Nat.{pow-le-pow_right}
use Rattle.word_reader.proofs.number.decimal.Goals as goal

few : (i n : ℕ) → i ≤ 7 → n < 10 ^ i → n < 10000000
few i n h p = let most : 10 ^ i ≤ 10 ^ 7 = pow-le-pow_right {n = 10} (lit< tt) {i = i} {j = 7} h in omega arith

pub overflow_mul-n : goal.overflow_mul-n
overflow_mul-n c =
    let at : c.loop-digit.digit-index ≤ 7 = omega (arith, c.requires, c.loop-digit-test.true) in
    let small : c.loop-digit.n < 10000000 = few _ _ at c.loop-digit.invariant.small in
    omega arith

pub overflow_add-n : goal.overflow_add-n
overflow_add-n c =
    let at : c.loop-digit.digit-index ≤ 7 = omega (arith, c.requires, c.loop-digit-test.true) in
    let small : c.loop-digit.n < 10000000 = few _ _ at c.loop-digit.invariant.small in
    grind (arith, small, c.is_ascii_digit.ensures.cases, c.if-not-is_ascii_digit.false)

-- Sums of scalars that are counted only as far as 4,097.
use Rattle.std.proofs.Common.{◌≡◌, ℕ, ◌+◌, arith, min}
use Rattle.std.specs.Prelude.{nat_lt, true, false}
use Rattle.std.proofs.lemmas.Bool.Decides.{nat_tests}

-- whether a sum passes 512 shows at the counted part
pub above : (sum n rest : ℕ) → nat_lt 512 (sum + min n 4097) ≡ true → nat_lt 512 (sum + (n + rest)) ≡ true
above sum n rest h = grind (arith, nat_tests)

-- as long as it doesn't, all is counted
pub below : (sum n : ℕ) → nat_lt 512 (sum + min n 4097) ≡ false → min n 4097 ≡ n
below sum n h = grind (arith, nat_tests)

pub ruleset sums = (above, below)

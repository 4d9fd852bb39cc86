-- Numbers at offsets from the least of a mode.
use Rattle.std.proofs.Common.{◌≡◌, ℕ, zero, suc, ◌<◌, ◌≤ℤ◌, ◌+ℤ◌, ℤ, pos, negsuc, Bool, true, false, Option, Some, None, refl, arith}
use Rattle.std.specs.Prelude.{◌-ℤ◌, if◌then◌else◌}
use Rattle.std.proofs.lemmas.Int.{ints}
use Rattle.modes.specs.Bounds.{natural_of, count_between}
use Rattle.constant_values.specs.Sets.{or_last, least_below, greatest_below}

below_natural : (z : ℤ) (k : ℕ) → k < natural_of z → (pos k +ℤ pos 1) ≤ℤ z
below_natural (pos n) k less = omega (arith, ints, less)
below_natural (negsuc n) k less = absurd (omega (arith, less))

pub below_high : (low high : ℤ) (k : ℕ) → k < count_between low high → (low +ℤ pos k) ≤ℤ high
below_high low high k less =
    let few : k < natural_of (high -ℤ low +ℤ pos 1) = omega (arith, less) in
    let above = below_natural (high -ℤ low +ℤ pos 1) k few in
    omega (arith, ints, above)

last_less : (n k : ℕ) (o : Option ℕ) (b : Bool) → ((j : ℕ) → o ≡ Some j → j < n) → or_last n o b ≡ Some k → k < suc n
last_less n k None true less e = let same : n ≡ k = cc in omega (arith, same)
last_less n k None false less e = absurd (cc)
last_less n k (Some j) b less e = let same : j ≡ k = cc in let few = less j refl in omega (arith, same, few)

pub least_less : (f : ℕ → Bool) (n k : ℕ) → least_below f n ≡ Some k → k < n
least_less f zero k e = absurd (cc)
least_less f (suc n) k e = last_less n k (least_below f n) (f n) (λ j. least_less f n j) e

here_less : (n k : ℕ) (o : Option ℕ) (b : Bool) → ((j : ℕ) → o ≡ Some j → j < n) → (if b then Some n else o) ≡ Some k → k < suc n
here_less n k o true less e = let same : n ≡ k = cc in omega (arith, same)
here_less n k o false less e = let few = less k e in omega (arith, few)

pub greatest_less : (f : ℕ → Bool) (n k : ℕ) → greatest_below f n ≡ Some k → k < n
greatest_less f zero k e = absurd (cc)
greatest_less f (suc n) k e = here_less n k (greatest_below f n) (f n) (λ j. greatest_less f n j) e

-- The line of a region that was entered.
use Rattle.std.proofs.Common.{◌≡◌, ◌<◌, ℕ, zero, suc, ◌++◌, refl, arith}
use Rattle.std.specs.Prelude.{codes}
use Rattle.std.specs.Fmt.{decimal}
use Rattle.watchers.specs.Counts.{region_line}

pub line_is : (region entries : ℕ) → 0 < entries → region_line region entries ≡ codes "region " ++ decimal region ++ codes " entered " ++ decimal entries ++ codes "\n"
line_is region zero low = absurd (omega (arith, low))
line_is region (suc n) low = refl

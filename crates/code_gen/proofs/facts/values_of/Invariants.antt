use Rattle.std.proofs.Common.{◌≡◌, take, map}
use Rattle.code_gen.specs.Facts.{mode_of}
use Rattle.code_gen.specs.Lowest.{lowest_value}
use Rattle.code_gen.proofs.facts.values_of.Given as goal

abbrev pub invariant-loop-location : goal.invariant-loop-location
invariant-loop-location l = l.values ≡ map (λ row. lowest_value (mode_of row)) (take l.location-index l.locations)

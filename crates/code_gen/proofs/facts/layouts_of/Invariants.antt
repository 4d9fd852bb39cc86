use Rattle.std.proofs.Common.{◌≡◌, take, map}
use Rattle.code_gen.specs.Facts.{mode_of}
use Rattle.layout_map.specs.Spots.{spots_of}
use Rattle.code_gen.proofs.facts.layouts_of.Given as goal

abbrev pub invariant-loop-location : goal.invariant-loop-location
invariant-loop-location l = l.layouts ≡ map (λ row. spots_of (mode_of row)) (take l.location-index l.locations)

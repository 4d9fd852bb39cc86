use Rattle.std.proofs.Common.{◌≡◌, drop}
use Rattle.program_ranges.specs.ProgramRanges.{locations_fit}
use Rattle.program_ranges.proofs.program.locations_fit.Given as goal

abbrev pub invariant-loop-location : goal.invariant-loop-location
invariant-loop-location l =
    locations_fit (drop l.location-index l.locations) l.program ≡ locations_fit l.locations l.program

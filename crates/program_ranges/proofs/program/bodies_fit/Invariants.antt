use Rattle.std.proofs.Common.{◌≡◌, drop}
use Rattle.program_ranges.specs.ProgramRanges.{bodies_fit}
use Rattle.program_ranges.proofs.program.bodies_fit.Given as goal

abbrev pub invariant-loop-body : goal.invariant-loop-body
invariant-loop-body l =
    bodies_fit (drop l.body-index l.bodies) l.program ≡ bodies_fit l.bodies l.program

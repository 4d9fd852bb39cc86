use Rattle.std.proofs.Common.{◌≡◌, drop}
use Rattle.program_ranges.specs.ProgramRanges.{locals_fit}
use Rattle.program_ranges.proofs.program.locals_fit.Given as goal

abbrev pub invariant-loop-local : goal.invariant-loop-local
invariant-loop-local l =
    locals_fit l.first (drop l.local-index l.locals) ≡ locals_fit 0 l.locals

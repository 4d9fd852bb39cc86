use Rattle.std.proofs.Common.{◌≡◌, drop}
use Rattle.program_ranges.specs.ProgramRanges.{signals_fit}
use Rattle.program_ranges.proofs.program.signals_fit.Given as goal

abbrev pub invariant-loop-signal : goal.invariant-loop-signal
invariant-loop-signal l =
    signals_fit (drop l.signal-index l.signals) l.program ≡ signals_fit l.signals l.program

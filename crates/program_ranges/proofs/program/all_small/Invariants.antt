use Rattle.std.proofs.Common.{◌≡◌, drop}
use Rattle.program_ranges.specs.ProgramRanges.{all_small}
use Rattle.program_ranges.proofs.program.all_small.Given as goal

abbrev pub invariant-loop-mode : goal.invariant-loop-mode
invariant-loop-mode l =
    all_small (drop l.mode-index l.modes) ≡ all_small l.modes

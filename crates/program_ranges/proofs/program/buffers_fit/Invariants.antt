use Rattle.std.proofs.Common.{◌≡◌, drop}
use Rattle.program_ranges.specs.ProgramRanges.{buffers_fit}
use Rattle.program_ranges.proofs.program.buffers_fit.Given as goal

abbrev pub invariant-loop-buffer : goal.invariant-loop-buffer
invariant-loop-buffer l =
    buffers_fit (drop l.buffer-index l.buffers) ≡ buffers_fit l.buffers

use Rattle.std.proofs.Common.{◌≡◌, take, map}
use Rattle.code_gen.proofs.facts.buffer_lengths.Given as goal

abbrev pub invariant-loop-buffer : goal.invariant-loop-buffer
invariant-loop-buffer l = l.lengths ≡ map (λ row. row.length) (take l.buffer-index l.buffers)

use Rattle.std.proofs.Common.{◌≡◌, ◌-◌}
use Rattle.journal_text.specs.Reading.{many_at, scalar_at}
use Rattle.journal_text.proofs.Loops.{with_front}
use Rattle.journal_text.proofs.lists_read.many_scalars.Given as goal

abbrev pub invariant-loop : goal.invariant-loop
invariant-loop l = with_front l.scalars.items (many_at scalar_at (l.count - l.counter) l.rest) ≡ many_at scalar_at l.count l.bytes

use Rattle.std.proofs.Common.{◌≡◌, length}
use Rattle.packed_words.proofs.packed.zeros.Given as goal

abbrev pub invariant-loop : goal.invariant-loop
invariant-loop l = length l.all.items ≡ l.counter

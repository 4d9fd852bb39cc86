use Rattle.std.proofs.Common.{◌≡◌, ◌++◌, pos, map, drop}
use Rattle.constant_operators.proofs.literals.numbers_in.Given as goal

abbrev pub invariant-loop-byte : goal.invariant-loop-byte
invariant-loop-byte l = map pos l.text ≡ l.scalars ++ map pos (drop l.byte-index l.text)

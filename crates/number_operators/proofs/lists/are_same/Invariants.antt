use Rattle.std.proofs.Common.{◌≡◌, drop}
use Rattle.scalar_operators.specs.Numbers.{same_numbers}
use Rattle.number_operators.proofs.lists.are_same.Given as goal

abbrev pub invariant-loop-i : goal.invariant-loop-i
invariant-loop-i l = same_numbers l.lower l.upper ≡ same_numbers (drop l.i l.lower) (drop l.i l.upper)

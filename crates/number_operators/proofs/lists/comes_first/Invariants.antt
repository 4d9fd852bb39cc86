use Rattle.std.proofs.Common.{◌≡◌, drop}
use Rattle.scalar_operators.specs.Numbers.{comes_before}
use Rattle.number_operators.proofs.lists.comes_first.Given as goal

abbrev pub invariant-loop-i : goal.invariant-loop-i
invariant-loop-i l = comes_before l.lower l.upper ≡ comes_before (drop l.i l.lower) (drop l.i l.upper)

use Rattle.std.proofs.Common.{◌≡◌, ◌-◌, ◌++◌}
use Rattle.kernel_base.specs.Value.{numbers_from, count_of_numbers}
use Rattle.world_check.proofs.flat.numbers.Given as goal

abbrev pub invariant-loop-j : goal.invariant-loop-j
invariant-loop-j l = l.numbers.items ++ numbers_from l.offsets l.j (count_of_numbers l.size - l.j) ≡ numbers_from l.offsets 0 (count_of_numbers l.size)

use Rattle.std.proofs.Common.{◌≡◌, ◌++◌, take}
use Rattle.reach_tables.proofs.entries.push_all.Given as goal

abbrev pub invariant-loop-number : goal.invariant-loop-number
invariant-loop-number l = l.out ≡ l.fn.out ++ take l.number-index l.numbers

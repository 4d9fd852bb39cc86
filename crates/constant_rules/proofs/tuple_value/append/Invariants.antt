use Rattle.std.proofs.Common.{◌≡◌, ◌++◌, drop}
use Rattle.constant_rules.proofs.tuple_value.append.Given as goal

abbrev pub invariant-loop-number : goal.invariant-loop-number
invariant-loop-number l = l.all ++ drop l.number-index l.part ≡ l.fn.all ++ l.part

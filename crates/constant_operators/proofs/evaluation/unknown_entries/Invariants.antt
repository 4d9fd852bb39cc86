use Rattle.std.proofs.Common.{◌≡◌, replicate}
use Rattle.constant_operators.specs.Grounds.{unknown_entry}
use Rattle.constant_operators.proofs.evaluation.unknown_entries.Given as goal

abbrev pub invariant-loop : goal.invariant-loop
invariant-loop l = l.found.items ≡ replicate l.counter unknown_entry

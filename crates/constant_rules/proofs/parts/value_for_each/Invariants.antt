use Rattle.std.proofs.Common.{◌≡◌}
use Rattle.constant_rules.specs.Parts.{times}
use Rattle.constant_rules.proofs.parts.value_for_each.Given as goal

abbrev pub invariant-loop : goal.invariant-loop
invariant-loop l = l.all ≡ times l.counter l.value

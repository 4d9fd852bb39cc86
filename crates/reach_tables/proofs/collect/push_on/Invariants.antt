use Rattle.std.proofs.Common.{◌≡◌, ◌+◌, ◌<◌, ◌^◌, ◌++◌}
use Rattle.names_model.specs.Definitions.{numbers_on}
use Rattle.reach_tables.proofs.collect.push_on.Given as goal

abbrev pub invariant-loop-step : goal.invariant-loop-step
invariant-loop-step l = l.fn.first + l.fn.count < 2 ^ 32 → l.out ≡ l.fn.out ++ numbers_on l.fn.first l.step

use Rattle.std.proofs.Common.{◌≡◌, ◌+◌, drop}
use Rattle.code_scheme.specs.StatementWaits.{scalars_received}
use Rattle.action_gen.specs.Puts.{rows_around}
use Rattle.action_gen.proofs.waits.scalars_received.Given as goal

abbrev pub invariant-loop-number : goal.invariant-loop-number
invariant-loop-number l = l.count + scalars_received (rows_around l.around) (drop l.number-index l.received) ≡ scalars_received (rows_around l.around) l.received

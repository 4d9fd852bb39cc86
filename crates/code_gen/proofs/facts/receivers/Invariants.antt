use Rattle.std.proofs.Common.{◌≡◌, take, map}
use Rattle.code_gen.proofs.facts.receivers.Given as goal

abbrev pub invariant-loop-signal : goal.invariant-loop-signal
invariant-loop-signal l = l.processes ≡ map (λ row. row.process) (take l.signal-index l.signals)

use Rattle.std.proofs.Common.{◌≡◌, drop}
use Rattle.std.specs.List.{find}
use Rattle.buffers_signals.specs.Signals.{takes_any}
use Rattle.buffers_signals.proofs.signals.first_of.Given as goal

abbrev pub invariant-loop-place : goal.invariant-loop-place
invariant-loop-place l = find (takes_any l.wanted l.signal l.receivers.receivers) (drop l.place l.waiters.waiters) ≡ find (takes_any l.wanted l.signal l.receivers.receivers) l.waiters.waiters

use Rattle.std.proofs.Common.{◌≡◌, drop}
use Rattle.std.specs.List.{find}
use Rattle.signal_queues.specs.Pending.{queue_of}
use Rattle.buffers_signals.specs.Pending.{may_take}
use Rattle.buffers_signals.proofs.signals.first_for.Given as goal

abbrev pub invariant-loop-place : goal.invariant-loop-place
invariant-loop-place l = find (may_take l.wanted l.who l.process) (drop l.place (queue_of l.pending.queues l.signal)) ≡ find (may_take l.wanted l.who l.process) (queue_of l.pending.queues l.signal)

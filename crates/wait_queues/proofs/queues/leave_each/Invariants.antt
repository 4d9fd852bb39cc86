use Rattle.std.proofs.Common.{take}
use Rattle.wait_queues.specs.Steps.{LeavesSeen}
use Rattle.wait_queues.proofs.queues.leave_each.Given as goal

abbrev pub invariant-loop-listed : goal.invariant-loop-listed
invariant-loop-listed l = LeavesSeen l.who (take l.listed l.places) l.initial.queues.items l.queues.items

use Rattle.std.proofs.Common.{take}
use Rattle.wait_queues.specs.Steps.{JoinsSeen}
use Rattle.wait_queues.proofs.queues.join_each.Given as goal

abbrev pub invariant-loop-listed : goal.invariant-loop-listed
invariant-loop-listed l = JoinsSeen l.who l.priority (take l.listed l.places) l.initial.queues.items l.queues.items

use Rattle.std.proofs.Common.{◌≡◌, [], replicate, map}
use Rattle.wait_queues.specs.Waiting.{those_of}
use Rattle.wait_queues.proofs.queues.WaitQueues.new.Given as goal

abbrev pub invariant-loop : goal.invariant-loop
invariant-loop l = map those_of l.queues.items ≡ replicate l.counter []

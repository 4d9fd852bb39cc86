use Rattle.std.proofs.Common.{◌≡◌}
use Rattle.worker_pool.specs.Gather.{machines_of}
use Rattle.worker_pool.proofs.gathering.machines.Given as goal

abbrev pub invariant-loop-log : goal.invariant-loop-log
invariant-loop-log l = l.machines.items ≡ machines_of l.yielded

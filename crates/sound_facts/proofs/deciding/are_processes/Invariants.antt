use Rattle.std.proofs.Common.{◌<◌, ℕ, take, IfSome, All}
use Rattle.sound_facts.proofs.deciding.are_processes.Given as goal

abbrev pub invariant-loop-process : goal.invariant-loop-process
invariant-loop-process l = All (λ to. IfSome to (λ process. process < l.count)) (take l.process-index l.processes)

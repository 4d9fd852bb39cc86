use Rattle.std.proofs.Common.{◌-◌}
use Rattle.machine_steps.specs.Views.{state_of}
use Rattle.code_machine.specs.Running.{IsUnderway}
use Rattle.code_machine.proofs.Weighing.{burst_weight}
use Rattle.code_machine.proofs.burst.make_steps.Given as goal

abbrev pub invariant-steps : goal.invariant-steps
invariant-steps l = IsUnderway l.code l.most (state_of l.initial.process) l.ticks l.process l.room

abbrev pub decreases-steps : goal.decreases-steps
decreases-steps l = burst_weight l.code (l.most - l.ticks) (state_of l.process)

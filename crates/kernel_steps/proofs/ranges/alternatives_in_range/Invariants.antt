use Rattle.std.proofs.Common.{take}
use Rattle.world_model.specs.Ranges.{AreAlternatives}
use Rattle.kernel_steps.proofs.ranges.alternatives_in_range.Given as goal

abbrev pub invariant-loop-i : goal.invariant-loop-i
invariant-loop-i l = AreAlternatives (take l.i l.alternatives)

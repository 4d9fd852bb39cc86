use Rattle.std.proofs.Common.{take}
use Rattle.world_model.specs.Ranges.{AreScalars}
use Rattle.kernel_steps.proofs.ranges.scalars_in_range.Given as goal

abbrev pub invariant-loop-i : goal.invariant-loop-i
invariant-loop-i l = AreScalars (take l.i l.scalars)

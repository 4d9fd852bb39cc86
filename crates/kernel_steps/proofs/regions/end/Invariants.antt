use Rattle.kernel_steps.proofs.Freeing.{FreesUpTo}
use Rattle.kernel_steps.proofs.regions.end.Given as goal

abbrev pub invariant-loop-region : goal.invariant-loop-region
invariant-loop-region l = FreesUpTo l.fn.s l.s l.fn.who l.fn.ticks l.fn.how l.region

use Rattle.std.proofs.Common.{take, All}
use Rattle.kernel_base.specs.Facts.{ShareNoBit}
use Rattle.sound_facts.proofs.layouts.is_apart.Given as goal

abbrev pub invariant-loop-other : goal.invariant-loop-other
invariant-loop-other l = All (ShareNoBit l.bits) (take l.other-index l.others)

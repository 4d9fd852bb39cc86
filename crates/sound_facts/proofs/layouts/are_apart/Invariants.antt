use Rattle.std.proofs.Common.{◌≤◌, length, drop}
use Rattle.std.specs.Prelude.{AllPairs}
use Rattle.kernel_base.specs.Facts.{ShareNoBit}
use Rattle.sound_facts.proofs.layouts.are_apart.Given as goal

-- those behind are apart
abbrev pub invariant-places : goal.invariant-places
invariant-places l = record {
  low : l.left ≤ length l.layout;
  apart : AllPairs ShareNoBit (drop l.left l.layout);
}

abbrev pub decreases-places : goal.decreases-places
decreases-places l = l.left

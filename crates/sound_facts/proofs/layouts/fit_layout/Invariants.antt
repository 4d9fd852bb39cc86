use Rattle.std.proofs.Common.{ℕ, ◌<◌}
use Rattle.sound_facts.specs.Layouts.{IsWithinAt}
use Rattle.sound_facts.proofs.layouts.fit_layout.Given as goal

abbrev pub invariant-loop-i : goal.invariant-loop-i
invariant-loop-i l = (k : ℕ) → k < l.i → IsWithinAt l.scalars l.layout k

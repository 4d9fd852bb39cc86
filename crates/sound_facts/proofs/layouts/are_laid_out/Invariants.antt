use Rattle.std.proofs.Common.{ℕ, ◌<◌}
use Rattle.sound_facts.specs.Layouts.{IsLaidOutAt}
use Rattle.sound_facts.proofs.layouts.are_laid_out.Given as goal

abbrev pub invariant-loop-i : goal.invariant-loop-i
invariant-loop-i l = (k : ℕ) → k < l.i → IsLaidOutAt l.values l.layouts k

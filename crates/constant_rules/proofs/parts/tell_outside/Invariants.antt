use Rattle.std.proofs.Common.{◌≡◌, ◌++◌, drop}
use Rattle.constant_rules.specs.Parts.{outside_of}
use Rattle.constant_rules.proofs.parts.tell_outside.Given as goal

abbrev pub invariant-loop-span : goal.invariant-loop-span
invariant-loop-span l = l.told ++ outside_of (drop l.span-index l.spans) ≡ l.fn.told ++ outside_of l.spans

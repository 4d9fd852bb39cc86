use Rattle.std.proofs.Common.{◌≡◌, drop}
use Rattle.constant_rules.specs.Parts.{firsts, joined}
use Rattle.constant_rules.proofs.parts.value_of_parts.Given as goal

abbrev pub invariant-loop-span : goal.invariant-loop-span
invariant-loop-span l = joined l.all (firsts (drop l.span-index l.spans)) ≡ firsts l.spans

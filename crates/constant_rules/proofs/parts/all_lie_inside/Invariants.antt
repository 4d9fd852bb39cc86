use Rattle.std.proofs.Common.{◌≡◌, drop}
use Rattle.constant_rules.specs.Parts.{all_pass, inside_part}
use Rattle.constant_rules.proofs.parts.all_lie_inside.Given as goal

abbrev pub invariant-loop-span : goal.invariant-loop-span
invariant-loop-span l = all_pass inside_part (drop l.span-index l.spans) ≡ all_pass inside_part l.spans

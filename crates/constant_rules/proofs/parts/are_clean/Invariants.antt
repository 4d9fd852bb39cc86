use Rattle.std.proofs.Common.{◌≡◌, drop}
use Rattle.constant_rules.specs.Parts.{all_pass, clean_part}
use Rattle.constant_rules.proofs.parts.are_clean.Given as goal

abbrev pub invariant-loop-span : goal.invariant-loop-span
invariant-loop-span l = all_pass clean_part (drop l.span-index l.spans) ≡ all_pass clean_part l.spans

use Rattle.std.proofs.Common.{◌≡◌, drop}
use Rattle.constant_rules.specs.Parts.{all_pass, going_part}
use Rattle.constant_rules.proofs.parts.all_go.Given as goal

abbrev pub invariant-loop-span : goal.invariant-loop-span
invariant-loop-span l = all_pass going_part (drop l.span-index l.spans) ≡ all_pass going_part l.spans

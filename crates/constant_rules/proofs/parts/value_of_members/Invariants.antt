use Rattle.std.proofs.Common.{◌≡◌, drop}
use Rattle.modes.specs.ModeTree.{mode_tree}
use Rattle.modes.specs.Bounds.{bounds_of}
use Rattle.constant_rules.specs.Parts.{all_widened, none_of}
use Rattle.constant_rules.proofs.parts.value_of_members.Given as goal

abbrev pub invariant-loop-span : goal.invariant-loop-span
invariant-loop-span l = all_widened (bounds_of (mode_tree l.member)) (drop l.span-index l.spans) l.all ≡ all_widened (bounds_of (mode_tree l.member)) l.spans (none_of (bounds_of (mode_tree l.member)))

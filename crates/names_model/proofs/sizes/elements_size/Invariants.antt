use Rattle.std.proofs.Common.{◌≡◌, ◌+◌, ◌≤◌, min, drop, length}
use Rattle.names_model.specs.Sizes.{elements_in}
use Rattle.names_model.proofs.sizes.elements_size.Given as goal

abbrev pub invariant-loop-mention : goal.invariant-loop-mention
invariant-loop-mention l = (l.size ≤ 4294967295) × (min (l.size + length (elements_in (drop l.mention-index l.text))) 4294967295 ≡ min (length (elements_in l.text)) 4294967295)

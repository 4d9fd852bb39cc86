use Rattle.std.proofs.Common.{◌≡◌, ◌+◌, ◌≤◌, min, drop}
use Rattle.names_model.specs.Sizes.{sizes_of}
use Rattle.names_model.specs.Parts.{nodes_of}
use Rattle.names_model.proofs.sizes.sizes_of.Given as goal

abbrev pub invariant-loop-part : goal.invariant-loop-part
invariant-loop-part l = (l.size ≤ 4294967295) × (min (l.size + sizes_of (nodes_of (drop l.part-index l.parts))) 4294967295 ≡ min (sizes_of (nodes_of l.parts)) 4294967295)

use Rattle.std.proofs.Common.{◌≡◌, drop, true, if◌then◌else◌}
use Rattle.code_scheme.specs.Pieces.{has_index}
use Rattle.expr_gen.specs.Trees.{parts_of}
use Rattle.expr_gen.proofs.locations.has_index.Given as goal

abbrev pub invariant-loop-part : goal.invariant-loop-part
invariant-loop-part l = (if l.found then true else has_index (parts_of (drop l.part-index l.parts))) ≡ has_index (parts_of l.parts)

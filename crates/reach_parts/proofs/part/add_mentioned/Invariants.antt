use Rattle.std.proofs.Common.{◌≡◌, ◌++◌}
use Rattle.names_model.specs.Parts.{part_trees}
use Rattle.names_model.specs.StatementParts.{mentioned}
use Rattle.reach_parts.proofs.part.add_mentioned.Given as goal

abbrev pub invariant-loop-mention : goal.invariant-loop-mention
invariant-loop-mention l = part_trees l.out ≡ part_trees l.fn.out ++ mentioned l.yielded

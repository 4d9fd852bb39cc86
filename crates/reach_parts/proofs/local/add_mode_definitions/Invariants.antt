use Rattle.std.proofs.Common.{◌≡◌, ◌++◌, drop, map}
use Rattle.chill_tree.specs.LocalTree.{mode_definition_tree}
use Rattle.names_model.specs.Parts.{part_trees}
use Rattle.names_model.specs.StatementParts.{mode_part}
use Rattle.reach_parts.proofs.local.add_mode_definitions.Given as goal

abbrev pub invariant-loop-definition : goal.invariant-loop-definition
invariant-loop-definition l = part_trees l.out ++ map mode_part (map mode_definition_tree (drop l.definition-index l.definitions)) ≡ part_trees l.fn.out ++ map mode_part (map mode_definition_tree l.definitions)

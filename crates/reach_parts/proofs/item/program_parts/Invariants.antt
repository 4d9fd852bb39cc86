use Rattle.std.proofs.Common.{◌≡◌, ◌++◌, drop, map}
use Rattle.std.specs.Prelude.{flat_map}
use Rattle.chill_tree.specs.ItemTree.{modulion_tree, modulion_item, program_tree}
use Rattle.names_model.specs.Parts.{part_trees}
use Rattle.names_model.specs.ItemParts.{item_parts, program_parts}
use Rattle.reach_parts.proofs.item.program_parts.Given as goal

abbrev pub invariant-loop-modulion : goal.invariant-loop-modulion
invariant-loop-modulion l = part_trees l.parts ++ flat_map (λ m. item_parts (modulion_item m)) (map modulion_tree (drop l.modulion-index l.modulion-items)) ≡ program_parts (program_tree l.tree)

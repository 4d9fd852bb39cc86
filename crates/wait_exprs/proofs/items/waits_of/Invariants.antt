use Rattle.std.proofs.Common.{◌≡◌, ◌++◌, drop, map}
use Rattle.std.specs.Prelude.{flat_map}
use Rattle.chill_tree.specs.ItemTree.{modulion_tree, modulion_item, program_tree}
use Rattle.wait_exprs.specs.Waits.{waits_in_item, waits_of}
use Rattle.wait_exprs.specs.Views.{wait_trees}
use Rattle.wait_exprs.proofs.items.waits_of.Given as goal

abbrev pub invariant-loop-modulion : goal.invariant-loop-modulion
invariant-loop-modulion l = wait_trees l.found ++ flat_map (λ m. waits_in_item (modulion_item m)) (map modulion_tree (drop l.modulion-index l.modulion-items)) ≡ waits_of (program_tree l.tree)

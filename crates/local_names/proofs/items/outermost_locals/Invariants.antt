use Rattle.std.proofs.Common.{◌≡◌, ◌++◌, drop, map}
use Rattle.std.specs.Prelude.{flat_map}
use Rattle.chill_tree.specs.ItemTree.{modulion_tree, modulion_item, program_tree}
use Rattle.checks_model.specs.Sites.{outermost_locals, items_of}
use Rattle.local_names.specs.Found.{names_found}
use Rattle.local_names.proofs.items.outermost_locals.Given as goal

abbrev pub invariant-loop-modulion : goal.invariant-loop-modulion
invariant-loop-modulion l = names_found l.found ++ flat_map outermost_locals (map modulion_item (map modulion_tree (drop l.modulion-index l.modulion-items))) ≡ flat_map outermost_locals (items_of (program_tree l.tree))

use Rattle.std.proofs.Common.{◌≡◌, ◌++◌, drop, map}
use Rattle.std.specs.Prelude.{flat_map}
use Rattle.chill_tree.specs.ItemTree.{modulion_tree, modulion_item}
use Rattle.process_names.specs.Walk.{inside_item}
use Rattle.process_names.proofs.items.tell_in_program.Given as goal

abbrev pub invariant-loop-modulion : goal.invariant-loop-modulion
invariant-loop-modulion l =
    l.told ++ flat_map (λ m. inside_item l.meetings (modulion_item m)) (map modulion_tree (drop l.modulion-index l.modulion-items)) ≡ l.fn.told ++ flat_map (λ m. inside_item l.meetings (modulion_item m)) (map modulion_tree l.modulion-items)

use Rattle.std.proofs.Common.{◌≡◌, ◌++◌, drop, map}
use Rattle.std.specs.Prelude.{flat_map}
use Rattle.chill_tree.specs.ItemTree.{formal_tree}
use Rattle.process_names.specs.Walk.{over_formal}
use Rattle.process_names.proofs.items.tell_in_formals.Given as goal

abbrev pub invariant-loop-formal : goal.invariant-loop-formal
invariant-loop-formal l =
    l.told ++ flat_map (over_formal l.meetings) (map formal_tree (drop l.formal-index l.formals)) ≡ l.fn.told ++ flat_map (over_formal l.meetings) (map formal_tree l.formals)

use Rattle.std.proofs.Common.{◌≡◌, ◌++◌, drop, map}
use Rattle.std.specs.Prelude.{flat_map}
use Rattle.chill_tree.specs.ItemTree.{formal_tree}
use Rattle.local_names.specs.Found.{names_found}
use Rattle.local_names.proofs.bodies.add_formals.Given as goal

abbrev pub invariant-loop-formal : goal.invariant-loop-formal
invariant-loop-formal l =
    names_found l.found ++ flat_map (λ q. q.names) (map formal_tree (drop l.formal-index l.formals)) ≡ names_found l.fn.found ++ flat_map (λ q. q.names) (map formal_tree l.formals)

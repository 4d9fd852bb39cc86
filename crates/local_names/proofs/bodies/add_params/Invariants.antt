use Rattle.std.proofs.Common.{◌≡◌, ◌++◌, drop, map}
use Rattle.std.specs.Prelude.{flat_map}
use Rattle.chill_tree.specs.ItemTree.{param_tree}
use Rattle.local_names.specs.Found.{names_found}
use Rattle.local_names.proofs.bodies.add_params.Given as goal

abbrev pub invariant-loop-param : goal.invariant-loop-param
invariant-loop-param l =
    names_found l.found ++ flat_map (λ q. q.names) (map param_tree (drop l.param-index l.params)) ≡ names_found l.fn.found ++ flat_map (λ q. q.names) (map param_tree l.params)

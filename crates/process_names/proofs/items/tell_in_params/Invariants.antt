use Rattle.std.proofs.Common.{◌≡◌, ◌++◌, drop, map}
use Rattle.std.specs.Prelude.{flat_map}
use Rattle.chill_tree.specs.ItemTree.{param_tree}
use Rattle.process_names.specs.Walk.{over_param}
use Rattle.process_names.proofs.items.tell_in_params.Given as goal

abbrev pub invariant-loop-param : goal.invariant-loop-param
invariant-loop-param l =
    l.told ++ flat_map (over_param l.meetings) (map param_tree (drop l.param-index l.params)) ≡ l.fn.told ++ flat_map (over_param l.meetings) (map param_tree l.params)

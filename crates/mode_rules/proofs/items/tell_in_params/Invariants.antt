use Rattle.std.proofs.Common.{◌≡◌, ◌++◌, drop, map}
use Rattle.std.specs.Prelude.{flat_map, option_map, false}
use Rattle.constant_operators.specs.Grounds.{ground_of}
use Rattle.mode_rules.specs.Ready.{IsReady}
use Rattle.chill_tree.specs.ItemTree.{param_tree}
use Rattle.mode_rules.specs.Walk.{over_param}
use Rattle.mode_rules.proofs.items.tell_in_params.Given as goal

abbrev pub invariant-loop-param : goal.invariant-loop-param
invariant-loop-param l = IsReady l.ground → l.told ++ flat_map (over_param (ground_of l.ground)) (map param_tree (drop l.param-index l.params)) ≡ l.fn.told ++ flat_map (over_param (ground_of l.ground)) (map param_tree l.params)

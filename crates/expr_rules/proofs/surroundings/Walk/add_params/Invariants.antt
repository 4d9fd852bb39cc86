use Rattle.std.proofs.Common.{◌≡◌, ◌++◌, drop, map}
use Rattle.std.specs.Prelude.{flat_map}
use Rattle.chill_tree.specs.ItemTree.{param_tree}
use Rattle.checks_model.specs.ValueRules.{receivers_of_param}
use Rattle.expr_rules.specs.Grounds.{ground_in, HasItsGround}
use Rattle.expr_rules.specs.Views.{formal_receiver}
use Rattle.expr_rules.proofs.surroundings.Walk.add_params.Given as goal

abbrev pub invariant-loop-param : goal.invariant-loop-param
invariant-loop-param l = HasItsGround l.self →
    map formal_receiver l.found.items ++ flat_map (receivers_of_param (ground_in l.self)) (map param_tree (drop l.param-index l.params))
    ≡ map formal_receiver l.fn.found.items ++ flat_map (receivers_of_param (ground_in l.self)) (map param_tree l.params)

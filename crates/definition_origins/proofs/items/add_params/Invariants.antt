use Rattle.std.proofs.Common.{◌≡◌, ◌++◌, drop, map}
use Rattle.std.specs.Prelude.{flat_map}
use Rattle.chill_tree.specs.ItemTree.{param_tree}
use Rattle.checks_model.specs.Origins.{origins_of_param}
use Rattle.definition_origins.specs.OriginTrees.{origin_trees}
use Rattle.definition_origins.proofs.items.add_params.Given as goal

abbrev pub invariant-loop-param : goal.invariant-loop-param
invariant-loop-param l = origin_trees l.found ++ flat_map origins_of_param (map param_tree (drop l.param-index l.params)) ≡ origin_trees l.fn.found ++ flat_map origins_of_param (map param_tree l.params)

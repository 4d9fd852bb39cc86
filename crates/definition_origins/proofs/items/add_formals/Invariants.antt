use Rattle.std.proofs.Common.{◌≡◌, ◌++◌, drop, map}
use Rattle.std.specs.Prelude.{flat_map}
use Rattle.chill_tree.specs.ItemTree.{formal_tree}
use Rattle.checks_model.specs.Origins.{origins_of_formal}
use Rattle.definition_origins.specs.OriginTrees.{origin_trees}
use Rattle.definition_origins.proofs.items.add_formals.Given as goal

abbrev pub invariant-loop-formal : goal.invariant-loop-formal
invariant-loop-formal l = origin_trees l.found ++ flat_map origins_of_formal (map formal_tree (drop l.formal-index l.formals)) ≡ origin_trees l.fn.found ++ flat_map origins_of_formal (map formal_tree l.formals)

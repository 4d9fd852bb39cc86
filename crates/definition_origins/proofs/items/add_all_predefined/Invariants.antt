use Rattle.std.proofs.Common.{◌≡◌, ◌++◌, drop, map}
use Rattle.std.specs.Prelude.{flat_map}
use Rattle.checks_model.specs.Origins.{in_both_cases}
use Rattle.class_operators.specs.Predefined.{predefined_tree}
use Rattle.definition_origins.specs.OriginTrees.{origin_trees}
use Rattle.definition_origins.proofs.items.add_all_predefined.Given as goal

abbrev pub invariant-loop-own : goal.invariant-loop-own
invariant-loop-own l = origin_trees l.found ++ flat_map in_both_cases (map predefined_tree (drop l.own-index l.all)) ≡ origin_trees l.fn.found ++ flat_map in_both_cases (map predefined_tree l.all)

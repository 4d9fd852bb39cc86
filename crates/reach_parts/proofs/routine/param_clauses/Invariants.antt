use Rattle.std.proofs.Common.{◌≡◌, ◌++◌, drop, map}
use Rattle.chill_tree.specs.ItemTree.{param_tree}
use Rattle.names_model.specs.ItemParts.{param_clause}
use Rattle.reach_parts.proofs.routine.param_clauses.Given as goal

abbrev pub invariant-loop-param : goal.invariant-loop-param
invariant-loop-param l = l.clauses ++ map param_clause (map param_tree (drop l.param-index l.params)) ≡ map param_clause (map param_tree l.params)

use Rattle.std.proofs.Common.{◌≡◌, ◌++◌, drop, map}
use Rattle.chill_tree.specs.ItemTree.{formal_tree}
use Rattle.names_model.specs.ItemParts.{formal_clause}
use Rattle.reach_parts.proofs.routine.formal_clauses.Given as goal

abbrev pub invariant-loop-formal : goal.invariant-loop-formal
invariant-loop-formal l = l.clauses ++ map formal_clause (map formal_tree (drop l.formal-index l.formals)) ≡ map formal_clause (map formal_tree l.formals)

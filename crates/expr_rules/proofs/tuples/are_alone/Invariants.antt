use Rattle.std.proofs.Common.{◌≡◌, drop}
use Rattle.chill_tree.specs.ExprTree.{range_nodes, range_trees}
use Rattle.checks_model.specs.Classes.{are_alone}
use Rattle.expr_rules.proofs.tuples.are_alone.Given as goal

abbrev pub invariant-loop-part : goal.invariant-loop-part
invariant-loop-part l = are_alone (range_nodes (range_trees (drop l.part-index l.parts))) ≡ are_alone (range_nodes (range_trees l.parts))

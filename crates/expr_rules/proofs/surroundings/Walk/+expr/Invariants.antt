use Rattle.std.proofs.Common.{◌≡◌, ◌++◌, drop, map}
use Rattle.std.specs.Prelude.{◌&&◌}
use Rattle.chill_tree.specs.ExprTree.{expr_nodes, expr_trees, range_nodes, range_trees}
use Rattle.checks_model.specs.Told.{is_none_told}
use Rattle.checks_model.specs.ValueRules.{told_in_args, told_inside_each}
use Rattle.statement_laws.specs.Steps.{told_in_all}
use Rattle.expr_rules.specs.Grounds.{ground_in, HasItsGround}
use Rattle.expr_rules.specs.Views.{receiver_tree, formal_receiver}
use Rattle.expr_rules.specs.Shapes.{told_in_shape}
use Rattle.expr_rules.proofs.surroundings.Walk.+expr.Given as goal

-- what is told, and what the rest tells, is what all tell; and so whether it is nothing
abbrev pub invariant-each_to_its_own-loop-arg : goal.invariant-each_to_its_own-loop-arg
invariant-each_to_its_own-loop-arg l = HasItsGround l.self →
    (l.told ++ told_in_args (ground_in l.self) (map formal_receiver l.rest) (expr_nodes (expr_trees (drop l.arg-index l.args))) ≡ l.fn.told ++ told_in_args (ground_in l.self) (map formal_receiver l.formals) (expr_nodes (expr_trees l.args)))
    × (l.is_clean && is_none_told (told_in_args (ground_in l.self) (map formal_receiver l.rest) (expr_nodes (expr_trees (drop l.arg-index l.args)))) ≡ is_none_told (told_in_args (ground_in l.self) (map formal_receiver l.formals) (expr_nodes (expr_trees l.args))))

abbrev pub invariant-all_to-loop-arg : goal.invariant-all_to-loop-arg
invariant-all_to-loop-arg l = HasItsGround l.self →
    (l.told ++ told_in_all (ground_in l.self) (receiver_tree l.receiver) (expr_nodes (expr_trees (drop l.arg-index l.args))) ≡ l.fn.told ++ told_in_all (ground_in l.self) (receiver_tree l.receiver) (expr_nodes (expr_trees l.args)))
    × (l.is_clean && is_none_told (told_in_all (ground_in l.self) (receiver_tree l.receiver) (expr_nodes (expr_trees (drop l.arg-index l.args)))) ≡ is_none_told (told_in_all (ground_in l.self) (receiver_tree l.receiver) (expr_nodes (expr_trees l.args))))

abbrev pub invariant-tell_inside-loop-arg : goal.invariant-tell_inside-loop-arg
invariant-tell_inside-loop-arg l = HasItsGround l.self →
    (l.told ++ told_inside_each (ground_in l.self) (expr_nodes (expr_trees (drop l.arg-index l.args))) ≡ l.fn.told ++ told_inside_each (ground_in l.self) (expr_nodes (expr_trees l.args)))
    × (l.is_clean && is_none_told (told_inside_each (ground_in l.self) (expr_nodes (expr_trees (drop l.arg-index l.args)))) ≡ is_none_told (told_inside_each (ground_in l.self) (expr_nodes (expr_trees l.args))))

abbrev pub invariant-tell_in_shape-loop-part : goal.invariant-tell_in_shape-loop-part
invariant-tell_in_shape-loop-part l = (l.place ≡ l.part-index) × (HasItsGround l.self →
    (l.told ++ told_in_shape (ground_in l.self) l.shape l.place (range_nodes (range_trees (drop l.part-index l.parts))) ≡ l.fn.told ++ told_in_shape (ground_in l.self) l.shape 0 (range_nodes (range_trees l.parts)))
    × (l.is_clean && is_none_told (told_in_shape (ground_in l.self) l.shape l.place (range_nodes (range_trees (drop l.part-index l.parts)))) ≡ is_none_told (told_in_shape (ground_in l.self) l.shape 0 (range_nodes (range_trees l.parts)))))

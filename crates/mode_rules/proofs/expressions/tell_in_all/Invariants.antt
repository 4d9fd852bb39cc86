use Rattle.std.proofs.Common.{◌≡◌, ◌++◌, drop, map}
use Rattle.std.specs.Prelude.{flat_map, option_map, false}
use Rattle.constant_operators.specs.Grounds.{ground_of}
use Rattle.mode_rules.specs.Ready.{IsReady}
use Rattle.chill_tree.specs.ExprTree.{expr_trees}
use Rattle.mode_rules.specs.Walk.{over_all}
use Rattle.mode_rules.proofs.expressions.tell_in_all.Given as goal

abbrev pub invariant-loop-expr : goal.invariant-loop-expr
invariant-loop-expr l = IsReady l.ground → l.told ++ over_all (ground_of l.ground) (expr_trees (drop l.expr-index l.exprs)) ≡ l.fn.told ++ over_all (ground_of l.ground) (expr_trees l.exprs)

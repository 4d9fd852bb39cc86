use Rattle.std.proofs.Common.{◌≡◌, ◌++◌, drop, map}
use Rattle.std.specs.Prelude.{flat_map, option_map, false}
use Rattle.constant_operators.specs.Grounds.{ground_of}
use Rattle.mode_rules.specs.Ready.{IsReady}
use Rattle.chill_tree.specs.ExprTree.{range_trees}
use Rattle.mode_rules.specs.Walk.{over_labels}
use Rattle.mode_rules.proofs.expressions.tell_in_labels.Given as goal

abbrev pub invariant-loop-label : goal.invariant-loop-label
invariant-loop-label l = IsReady l.ground → l.told ++ over_labels (ground_of l.ground) (range_trees (drop l.label-index l.labels)) ≡ l.fn.told ++ over_labels (ground_of l.ground) (range_trees l.labels)

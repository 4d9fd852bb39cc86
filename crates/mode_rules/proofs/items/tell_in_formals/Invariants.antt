use Rattle.std.proofs.Common.{◌≡◌, ◌++◌, drop, map}
use Rattle.std.specs.Prelude.{flat_map, option_map, false}
use Rattle.constant_operators.specs.Grounds.{ground_of}
use Rattle.mode_rules.specs.Ready.{IsReady}
use Rattle.chill_tree.specs.ItemTree.{formal_tree}
use Rattle.mode_rules.specs.Walk.{over_formal}
use Rattle.mode_rules.proofs.items.tell_in_formals.Given as goal

abbrev pub invariant-loop-formal : goal.invariant-loop-formal
invariant-loop-formal l = IsReady l.ground → l.told ++ flat_map (over_formal (ground_of l.ground)) (map formal_tree (drop l.formal-index l.formals)) ≡ l.fn.told ++ flat_map (over_formal (ground_of l.ground)) (map formal_tree l.formals)

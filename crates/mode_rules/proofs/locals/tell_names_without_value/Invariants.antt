use Rattle.std.proofs.Common.{◌≡◌, ◌++◌, drop, map}
use Rattle.std.specs.Prelude.{flat_map, option_map, false}
use Rattle.constant_operators.specs.Grounds.{ground_of}
use Rattle.mode_rules.specs.Ready.{IsReady}
use Rattle.chill_tree.specs.LocalTree.{initial_tree}
use Rattle.mode_rules.specs.Walk.{over_without_value}
use Rattle.mode_rules.proofs.locals.tell_names_without_value.Given as goal

abbrev pub invariant-loop-name : goal.invariant-loop-name
invariant-loop-name l = IsReady l.ground → l.told ++ over_without_value (ground_of l.ground) (option_map initial_tree l.given) (drop l.name-index l.names) ≡ l.fn.told ++ over_without_value (ground_of l.ground) (option_map initial_tree l.given) (l.names)

use Rattle.std.proofs.Common.{◌≡◌, ◌++◌, drop, map}
use Rattle.std.specs.Prelude.{flat_map, option_map, false}
use Rattle.constant_operators.specs.Grounds.{ground_of}
use Rattle.mode_rules.specs.Ready.{IsReady}
use Rattle.chill_tree.specs.LocalTree.{declaration_tree}
use Rattle.mode_rules.specs.Walk.{over_declaration}
use Rattle.mode_rules.proofs.locals.tell_in_declarations.Given as goal

abbrev pub invariant-loop-own : goal.invariant-loop-own
invariant-loop-own l = IsReady l.ground → l.told ++ flat_map (over_declaration (ground_of l.ground)) (map declaration_tree (drop l.own-index l.declarations)) ≡ l.fn.told ++ flat_map (over_declaration (ground_of l.ground)) (map declaration_tree l.declarations)

use Rattle.std.proofs.Common.{◌≡◌, ◌++◌, drop, map}
use Rattle.chill_tree.specs.LocalTree.{declaration_tree}
use Rattle.mode_rules.specs.Shared.{declared_places}
use Rattle.mode_rules.proofs.too_many.add_declarations.Given as goal

abbrev pub invariant-loop-own : goal.invariant-loop-own
invariant-loop-own l = l.found ++ declared_places (map declaration_tree (drop l.own-index l.declarations)) ≡ l.fn.found ++ declared_places (map declaration_tree l.declarations)

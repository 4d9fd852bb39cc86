use Rattle.std.proofs.Common.{◌≡◌, ◌++◌, drop, map}
use Rattle.std.specs.Prelude.{flat_map}
use Rattle.chill_tree.specs.LocalTree.{declaration_tree}
use Rattle.process_names.specs.Walk.{declared_names}
use Rattle.process_names.proofs.locals.tell_all_declared.Given as goal

abbrev pub invariant-loop-own : goal.invariant-loop-own
invariant-loop-own l =
    l.told ++ flat_map (λ d. declared_names l.meetings d.names) (map declaration_tree (drop l.own-index l.declarations)) ≡ l.fn.told ++ flat_map (λ d. declared_names l.meetings d.names) (map declaration_tree l.declarations)

use Rattle.std.proofs.Common.{◌≡◌, ◌++◌, drop, map}
use Rattle.std.specs.Prelude.{flat_map}
use Rattle.chill_tree.specs.LocalTree.{declaration_tree}
use Rattle.local_names.specs.Found.{names_found}
use Rattle.local_names.proofs.names.add_declarations.Given as goal

abbrev pub invariant-loop-declaration : goal.invariant-loop-declaration
invariant-loop-declaration l =
    names_found l.found ++ flat_map (λ q. q.names) (map declaration_tree (drop l.declaration-index l.declarations)) ≡ names_found l.fn.found ++ flat_map (λ q. q.names) (map declaration_tree l.declarations)

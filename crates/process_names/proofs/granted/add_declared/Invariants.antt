use Rattle.std.proofs.Common.{◌≡◌, ◌||◌, ℕ, List, drop, map}
use Rattle.std.specs.List.{list_any}
use Rattle.chill_tree.specs.LocalTree.{declaration_tree}
use Rattle.process_names.specs.Rules.{has, has_name}
use Rattle.process_names.proofs.granted.add_declared.Given as goal

abbrev pub invariant-loop-declaration : goal.invariant-loop-declaration
invariant-loop-declaration l = (n : List ℕ) → (has l.table n || list_any (λ d. has_name n d.names) (map declaration_tree (drop l.declaration-index l.declarations))) ≡ (has l.fn.table n || list_any (λ d. has_name n d.names) (map declaration_tree l.declarations))

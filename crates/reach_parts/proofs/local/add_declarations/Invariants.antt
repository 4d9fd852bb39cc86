use Rattle.std.proofs.Common.{◌≡◌, ◌++◌, drop, map}
use Rattle.std.specs.Prelude.{flat_map}
use Rattle.chill_tree.specs.LocalTree.{declaration_tree}
use Rattle.names_model.specs.Parts.{part_trees}
use Rattle.names_model.specs.StatementParts.{declaration_parts}
use Rattle.reach_parts.proofs.local.add_declarations.Given as goal

abbrev pub invariant-loop-declaration : goal.invariant-loop-declaration
invariant-loop-declaration l = part_trees l.out ++ flat_map declaration_parts (map declaration_tree (drop l.declaration-index l.declarations)) ≡ part_trees l.fn.out ++ flat_map declaration_parts (map declaration_tree l.declarations)

use Rattle.std.proofs.Common.{◌≡◌, ◌++◌, drop, map}
use Rattle.std.specs.Prelude.{flat_map}
use Rattle.chill_tree.specs.LocalTree.{declaration_tree}
use Rattle.checks_model.specs.Origins.{origins_of_declaration}
use Rattle.definition_origins.specs.OriginTrees.{origin_trees}
use Rattle.definition_origins.proofs.locals.add_declarations.Given as goal

abbrev pub invariant-loop-declaration : goal.invariant-loop-declaration
invariant-loop-declaration l = origin_trees l.found ++ flat_map origins_of_declaration (map declaration_tree (drop l.declaration-index l.declarations)) ≡ origin_trees l.fn.found ++ flat_map origins_of_declaration (map declaration_tree l.declarations)

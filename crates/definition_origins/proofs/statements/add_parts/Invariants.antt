use Rattle.std.proofs.Common.{◌≡◌, ◌++◌, map}
use Rattle.names_model.specs.Definitions.{numbers_on}
use Rattle.chill_tree.specs.StatementTree.{receive_tree}
use Rattle.definition_origins.specs.OriginTrees.{origin_trees, received_tree}
use Rattle.definition_origins.proofs.statements.add_parts.Given as goal

abbrev pub invariant-loop-part : goal.invariant-loop-part
invariant-loop-part l = origin_trees l.found ≡ origin_trees l.fn.found ++ map (received_tree (receive_tree l.alternative)) (numbers_on 0 l.part)

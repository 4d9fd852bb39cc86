use Rattle.std.proofs.Common.{◌≡◌, ◌++◌, map}
use Rattle.names_model.specs.Definitions.{numbers_on}
use Rattle.checks_model.specs.Ground.{an_element}
use Rattle.definition_origins.specs.OriginTrees.{origin_trees, owner_tree}
use Rattle.definition_origins.proofs.mode_elements.add_elements.Given as goal

abbrev pub invariant-loop-part : goal.invariant-loop-part
invariant-loop-part l = origin_trees l.found ≡ origin_trees l.fn.found ++ map (λ part. an_element l.names part (owner_tree l.owner)) (numbers_on 0 l.part)

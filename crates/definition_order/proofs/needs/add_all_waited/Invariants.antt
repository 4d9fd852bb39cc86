use Rattle.std.proofs.Common.{◌≡◌, ◌++◌, drop}
use Rattle.names_laws.specs.Rising.{Rise, use_places}
use Rattle.definition_origins.specs.OriginTrees.{origin_tree, origin_trees}
use Rattle.definition_order.specs.Needs.{numbers_waited}
use Rattle.definition_order.proofs.needs.add_all_waited.Given as goal

abbrev pub invariant-loop-at : goal.invariant-loop-at
invariant-loop-at l = Rise (use_places l.uses) → l.needs ++ numbers_waited l.uses (origin_trees l.origins) (origin_tree l.origin) (drop l.at-index l.places) ≡ l.fn.needs ++ numbers_waited l.uses (origin_trees l.origins) (origin_tree l.origin) l.places

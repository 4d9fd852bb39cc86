use Rattle.std.proofs.Common.{◌≡◌, ◌++◌, drop, length}
use Rattle.names_laws.specs.Rising.{Rise, use_places}
use Rattle.definition_origins.specs.OriginTrees.{origin_trees}
use Rattle.definition_order.specs.Needs.{needs_from, needs_in}
use Rattle.definition_order.proofs.needs.needs_of_all.Given as goal

abbrev pub invariant-loop-origin : goal.invariant-loop-origin
invariant-loop-origin l = record {
  len : length l.needs.items ≡ l.origin-index;
  list : Rise (use_places l.uses) → l.needs.items ++ needs_from l.uses (origin_trees l.origins) l.number (drop l.origin-index l.origins) ≡ needs_in l.uses l.origins;
}

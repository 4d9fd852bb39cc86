use Rattle.std.proofs.Common.{◌≡◌, length}
use Rattle.names_laws.specs.Rising.{Rise, use_places}
use Rattle.elaborated_laws.specs.Table.{AreDefined}
use Rattle.definition_origins.specs.OriginTrees.{origin_trees}
use Rattle.constant_operators.specs.Grounds.{ground_of}
use Rattle.constant_operators.specs.Plain.{IsPlain}
use Rattle.definition_table.specs.Entries.{AreSafe}
use Rattle.definition_table.proofs.given.given_entries.Given as goal

abbrev pub invariant-loop-origin : goal.invariant-loop-origin
invariant-loop-origin l = record {
  len : length l.found ≡ l.origin-index;
  safe : Rise (use_places l.ground.defined) → IsPlain l.ground.plain → AreDefined (ground_of l.ground) → AreSafe (origin_trees l.ground.origins) l.found;
}

use Rattle.std.proofs.Common.{◌≡◌, List, ◌++◌, drop}
use Rattle.std.specs.Prelude.{flat_map}
use Rattle.diagnostics.specs.Listing.{SameMembers}
use Rattle.names_model.specs.declared.definition.Definition.{Definition}
use Rattle.names_model.specs.Seeing.{Reach}
use Rattle.names_model.specs.NameRules.{told, nodes}
use Rattle.reach_walk.specs.Findings.{groups_at, uses_at}
use Rattle.reach_tables.specs.Givens.{given_trees, givens}
use Rattle.reach_tables.specs.Offsets.{Fits}
use Rattle.names_model.specs.Parts.{nodes_of}
use Rattle.reach_tables.specs.Scopes.{Shows}
use Rattle.reach_walk.specs.SameGroups.{SameGroups}
use Rattle.reach_walk.proofs.walk.+walk.Given as goal

abbrev pub invariant-walk-loop-part : goal.invariant-walk-loop-part
invariant-walk-loop-part l = (text : List Definition) (r : Reach) → Shows l.book l.scope text r → Fits l.fn.from (nodes_of l.fn.parts) → given_trees l.fn.given ≡ givens l.book.all.items l.fn.from (nodes_of l.fn.parts) → record {
  fits : Fits l.next (nodes_of (drop l.part-index l.parts));
  left : given_trees l.left ≡ givens l.book.all.items l.next (nodes_of (drop l.part-index l.parts));
  told : SameMembers (l.out.told.items ++ flat_map (told text) (nodes r l.next (nodes_of (drop l.part-index l.parts)))) (l.fn.out.told.items ++ flat_map (told text) (nodes r l.fn.from (nodes_of l.fn.parts)));
  groups : SameGroups (l.out.groups.items ++ flat_map (groups_at text) (nodes r l.next (nodes_of (drop l.part-index l.parts)))) (l.fn.out.groups.items ++ flat_map (groups_at text) (nodes r l.fn.from (nodes_of l.fn.parts)));
  uses : l.out.uses.items ++ flat_map (uses_at text) (nodes r l.next (nodes_of (drop l.part-index l.parts))) ≡ l.fn.out.uses.items ++ flat_map (uses_at text) (nodes r l.fn.from (nodes_of l.fn.parts));
}

-- What is found behind what was found before.
use Rattle.std.specs.Prelude.{◌≡◌, ℕ, List, ◌++◌, flat_map}
use Rattle.diagnostics.specs.declared.diagnostic.Diagnostic.{Diagnostic}
use Rattle.diagnostics.specs.Listing.{SameMembers}
use Rattle.cycles.specs.declared.group.Group.{Group}
use Rattle.names_model.specs.declared.definition.Definition.{Definition}
use Rattle.names_model.specs.declared.names.Resolved.{Resolved}
use Rattle.names_model.specs.Parts.{PartTree, PartNodes}
use Rattle.names_model.specs.Seeing.{Reach}
use Rattle.names_model.specs.NameRules.{Node, nodes_inside, told, told_here, told_in, twice_inside}
use Rattle.names_model.specs.Dependence.{groups_in, groups_of}
use Rattle.names_model.specs.Resolving.{resolved_here, resolved_in}
use Rattle.reach_walk.specs.declared.findings.Findings.{Findings}
use Rattle.reach_walk.specs.SameGroups.{SameGroups}

-- each vector has these behind what it had; what is told may be told once for many, and the groups are any
-- that say the same
pub record Adds (old new : Findings) (ds : List Diagnostic) (gs : List Group) (us : List Resolved) : Type 0 where
  pub told : SameMembers new.told.items (old.told.items ++ ds)
  pub groups : SameGroups new.groups.items (old.groups.items ++ gs)
  pub uses : new.uses.items ≡ old.uses.items ++ us

-- the groups and the uses of a part in its reach
abbrev pub groups_at : List Definition → Node → List Group
groups_at text k = groups_of text k.reach k.from k.part

abbrev pub uses_at : List Definition → Node → List Resolved
uses_at text k = resolved_here text k.reach k.part

-- what is found of a part alone is behind
abbrev pub AddsHere : (old new : Findings) → List Definition → Reach → ℕ → PartTree → Type 0
AddsHere old new text r from p = Adds old new (told_here text r p) (groups_of text r from p) (resolved_here text r p)

-- what is found of parts is behind
abbrev pub AddsNodes : (old new : Findings) → List Definition → List Node → Type 0
AddsNodes old new text ks = Adds old new (flat_map (told text) ks) (flat_map (groups_at text) ks) (flat_map (uses_at text) ks)

-- what is found in the reach that a part opens is behind
abbrev pub AddsInside : (old new : Findings) → List Definition → Reach → ℕ → PartTree → Type 0
AddsInside old new text r from p = Adds old new (twice_inside text r from p ++ flat_map (told text) (nodes_inside r from p)) (flat_map (groups_at text) (nodes_inside r from p)) (flat_map (uses_at text) (nodes_inside r from p))

-- what is found in a reach and in those inside it is behind
abbrev pub AddsReach : (old new : Findings) → List Definition → Reach → ℕ → PartNodes → Type 0
AddsReach old new text r from ps = Adds old new (told_in text r from ps) (groups_in text r from ps) (resolved_in text r from ps)

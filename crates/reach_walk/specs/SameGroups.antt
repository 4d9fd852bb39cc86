-- Groups that say the same.
use Rattle.std.specs.Prelude.{◌≡◌, List}
use Rattle.cycles.specs.declared.group.Group.{Group}
use Rattle.cycles.specs.Groups.{edges_of}
use Rattle.names_model.specs.declared.definition.Definition.{Definition}
use Rattle.names_model.specs.Dependence.{among_locations}

-- they have the same edges, and so have they among locations alone, whichever these are
pub record SameGroups (gs hs : List Group) : Type 0 where
  pub edges : edges_of gs ≡ edges_of hs
  pub among : (all : List Definition) → edges_of (among_locations all gs) ≡ edges_of (among_locations all hs)

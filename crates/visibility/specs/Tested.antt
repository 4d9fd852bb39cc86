-- Flags that tell what depends on itself.
use Rattle.std.specs.Prelude.{◌≡◌, ℕ, false, List, slice_index_or}
use Rattle.cycles.specs.declared.group.Group.{Group}
use Rattle.cycles.specs.Groups.{edges_of}
use Rattle.cycles.specs.Testing.{depends_on}
use Rattle.names_model.specs.declared.definition.Definition.{Definition}
use Rattle.names_model.specs.Dependence.{among_locations}
use Rattle.visibility.specs.declared.selves.Flags.{Flags}

-- the flags are those of these groups
pub record Tests (f : Flags) (all : List Definition) (gs : List Group) : Type 0 where
  pub through : (d : ℕ) → slice_index_or f.through.items d false ≡ depends_on (edges_of gs) d d
  pub among : (d : ℕ) → slice_index_or f.among.items d false ≡ depends_on (edges_of (among_locations all gs)) d d

-- The law that an order leads through definitions of which none needs itself.
use Rattle.std.specs.Prelude.{ℕ, List, [], ◌∷◌, flat_map, if◌then◌else◌, Option, Some, None, slice_get}
use Rattle.std.specs.List.{Contains}
use Rattle.chill_tree.specs.declared.tree.name.Name.{Name}
use Rattle.checks_model.specs.Ground.{Ground, Origin, a_received, origin_of, number_at}
use Rattle.table_laws.specs.Names.{names_needed}
use Rattle.table_laws.specs.Frames.{is_read}
use Rattle.table_laws.specs.OneTable.{IsOrder}

abbrev pub some_number : Option ℕ → List ℕ
some_number None = []
some_number (Some d) = d ∷ []

-- what a name stands for, where it stands for what constants and modes look up
abbrev pub read_number : Ground → Name → List ℕ
read_number g n = if is_read (origin_of g n) then some_number (number_at g.uses n.at) else []

-- the numbers of what something needs by what defines it; a received name needs what it is received from
abbrev pub needed_by : Ground → Option Origin → List ℕ
needed_by g None = []
needed_by g (Some (a_received n count part)) = some_number (number_at g.uses n.at)
needed_by g (Some o) = flat_map (read_number g) (names_needed o)

abbrev pub needs : Ground → ℕ → List ℕ
needs g d = needed_by g (slice_get g.origins d)

-- a definition needs another, or one that leads to it
pub data LeadsTo (g : Ground) : ℕ → ℕ → Type 0 where
  at_once : {d e : ℕ} → Contains (needs g d) e → LeadsTo g d e
  through : {d e f : ℕ} → Contains (needs g d) e → LeadsTo g e f → LeadsTo g d f

-- Where no definition leads to itself there is an order of all of them, each behind those that it needs.
abbrev pub OrderLaw : Type 0
OrderLaw = (g : Ground) → ((d : ℕ) → ¬ LeadsTo g d d) → (order : List ℕ) × IsOrder g order

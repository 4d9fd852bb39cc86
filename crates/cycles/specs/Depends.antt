-- What depends on what.
use Rattle.std.specs.Prelude.{◌≡◌, ℕ, ◌<◌, Bool, true, false, List, slice_index_or, All, Contains}
use Rattle.cycles.specs.declared.edge.Edge.{Edge}

-- v depends on w over one or more edges
pub data Depends (edges : List Edge) : ℕ → ℕ → Type 0 where
  directly : {v w : ℕ} → Contains edges (record { from = v; to = w }) → Depends edges v w
  through : {v w u : ℕ} → Contains edges (record { from = v; to = w }) → Depends edges w u → Depends edges v u

-- both ends of each edge are nodes
abbrev pub EndsBelow : ℕ → List Edge → Type 0
EndsBelow count = All (λ e. (e.from < count) × (e.to < count))

-- the flag of the node is set
abbrev pub IsSet : List Bool → ℕ → Type 0
IsSet flags v = slice_index_or flags v false ≡ true

-- Groups of nodes that depend on groups.
use Rattle.std.specs.Prelude.{ℕ, List, map, flat_map}
use Rattle.cycles.specs.declared.edge.Edge.{Edge}
use Rattle.cycles.specs.declared.group.Group.{Group}

abbrev pub edge : ℕ → ℕ → Edge
edge v w = record { from = v; to = w }

-- each of the first depends on each of the second
abbrev pub group_edges : Group → List Edge
group_edges g = flat_map (λ v. map (edge v) g.to) g.from

abbrev pub edges_of : List Group → List Edge
edges_of gs = flat_map group_edges gs

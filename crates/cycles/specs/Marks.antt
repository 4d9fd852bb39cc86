-- Marks on nodes that show which of them depend on themselves.
use Rattle.std.specs.Prelude.{◌≡◌, ℕ, ◌+◌, ◌-◌, ◌*◌, ◌^◌, ◌<◌, true, false, List, ◌⊎◌, slice_index_or, Contains}
use Rattle.cycles.specs.declared.edge.Edge.{Edge}
use Rattle.cycles.specs.declared.marks.Mark.{Mark}

-- the mark of a node of which nothing is known
abbrev pub unmarked : Mark
unmarked = record { component = 0; root = 0; cyclic = false; order = 0; lowest = 0; in_edge = 0; out_edge = 0 }

-- the mark of a node
abbrev pub mark : List Mark → ℕ → Mark
mark marks v = slice_index_or marks v unmarked

-- how far a node is from the root of its component: what reaches lower is nearer, and of those that reach alike what was found later
abbrev pub distance : Mark → ℕ
distance m = m.lowest * 2 ^ 32 + (2 ^ 32 - 1 - m.order)

-- an edge goes to a lower component, or stays in one that is cyclic
abbrev pub IsOrdered : Mark → Mark → Type 0
IsOrdered m n = (n.component < m.component) ⊎ ((n.component ≡ m.component) × (m.cyclic ≡ true))

-- n is the mark of a node that depends on itself and has the root of m
abbrev pub HasRootOf : Mark → Mark → Type 0
HasRootOf m n = (n.root ≡ m.root) × (n.cyclic ≡ true)

-- an edge leads from v to a node with its root, and v is the root, or that node is, or it is nearer to the root than v
abbrev pub LeadsOut : List Edge → List Mark → ℕ → Mark → Type 0
LeadsOut edges marks v m =
    (w : ℕ) × Contains edges (record { from = v; to = w }) × HasRootOf m (mark marks w)
    × ((v ≡ m.root) ⊎ ((w ≡ m.root) ⊎ (distance (mark marks w) < distance m)))

-- v is the root, or an edge leads to it from a node that was found earlier
abbrev pub LeadsIn : List Edge → List Mark → ℕ → Mark → Type 0
LeadsIn edges marks v m =
    (v ≡ m.root)
    ⊎ ((u : ℕ) × Contains edges (record { from = u; to = v }) × HasRootOf m (mark marks u) × ((mark marks u).order < m.order))

-- the ends of an edge have marks in order
abbrev pub EdgePasses : List Mark → Edge → Type 0
EdgePasses marks e = IsOrdered (mark marks e.from) (mark marks e.to)

-- if the mark of v tells that v depends on itself, edges lead from v to its root and from there to v
abbrev pub NodePasses : List Edge → List Mark → ℕ → Type 0
NodePasses edges marks v = (mark marks v).cyclic ≡ true → LeadsOut edges marks v (mark marks v) × LeadsIn edges marks v (mark marks v)

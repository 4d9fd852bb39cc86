-- What depends on what, as a test.
use Rattle.std.specs.Prelude.{ℕ, ◌==◌, Bool, false, ◌&&◌, ◌||◌, List, [], ◌∷◌}
use Rattle.std.specs.Bool.{Decides}
use Rattle.cycles.specs.declared.edge.Edge.{Edge}
use Rattle.cycles.specs.Depends.{Depends}

-- One node depends on another by some edges: by all but the first, or by the first, up to whose start and from whose end the
-- others lead.
abbrev pub depends_on : List Edge → ℕ → ℕ → Bool
depends_on [] v w = false
depends_on (e ∷ es) v w = depends_on es v w || ((v == e.from || depends_on es v e.from) && (e.to == w || depends_on es e.to w))

-- The test is the relation.
abbrev pub TestingLaw : Type 0
TestingLaw = (edges : List Edge) (v w : ℕ) → Decides (depends_on edges v w) (Depends edges v w)

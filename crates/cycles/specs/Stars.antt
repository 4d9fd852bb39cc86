-- Fewer edges that say the same: each group has a node of its own between its first nodes and its second.
use Rattle.std.specs.Prelude.{ℕ, suc, ◌<◌, List, [], ◌∷◌, ◌++◌, map, Contains}
use Rattle.cycles.specs.declared.edge.Edge.{Edge}
use Rattle.cycles.specs.declared.group.Group.{Group}
use Rattle.cycles.specs.Groups.{edge}

-- the edges of one group, whose own node is `middle`
abbrev pub star : ℕ → Group → List Edge
star middle g = map (λ v. edge v middle) g.from ++ map (edge middle) g.to

-- the edges of groups, whose own nodes are numbered on
abbrev pub stars : ℕ → List Group → List Edge
stars middle [] = []
stars middle (g ∷ gs) = star middle g ++ stars (suc middle) gs

-- all nodes of the groups are below a number
pub record LieBelow (bound : ℕ) (gs : List Group) : Type 0 where
  pub from : (g : Group) (v : ℕ) → Contains gs g → Contains g.from v → v < bound
  pub to : (g : Group) (v : ℕ) → Contains gs g → Contains g.to v → v < bound

-- Following edges from one node to all that it depends on.
use Rattle.std.specs.Prelude.{◌≡◌, ℕ, ◌+◌, ◌*◌, ◌≤◌, Bool, List, ◌⊎◌, Contains, length, count_by}
use Rattle.cycles.specs.declared.edge.Edge.{Edge}
use Rattle.cycles.specs.Depends.{Depends, IsSet}

-- only what the start depends on has been reached
abbrev pub OnlyDepended : List Edge → ℕ → List Bool → Type 0
OnlyDepended edges start reached = (v : ℕ) → IsSet reached v → Depends edges start v

-- the edges out of the node are to be followed: it is the start, or it has been reached
abbrev pub IsSource : ℕ → List Bool → ℕ → Type 0
IsSource start reached v = (v ≡ start) ⊎ IsSet reached v

-- all edges out of the node lead to what has been reached
abbrev pub IsFollowed : List Edge → List Bool → ℕ → Type 0
IsFollowed edges reached v = (e : Edge) → Contains edges e → e.from ≡ v → IsSet reached e.to

-- more has been reached, and all of it that is new waits
pub record Grown (reached new : List Bool) (waiting later : List ℕ) : Type 0 where
  pub size : length new ≡ length reached
  pub set : (v : ℕ) → IsSet reached v → IsSet new v
  pub waits : (v : ℕ) → Contains waiting v → Contains later v
  pub new_waits : (v : ℕ) → IsSet new v → IsSet reached v ⊎ Contains later v
  pub later_set : (v : ℕ) → Contains later v → Contains waiting v ⊎ IsSet new v
  pub counted : length later + 2 * count_by (λ b. b) reached ≤ length waiting + 2 * count_by (λ b. b) new

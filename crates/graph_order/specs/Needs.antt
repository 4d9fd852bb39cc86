-- Nodes in an order in which each stands behind those that it needs.
use Rattle.std.specs.Prelude.{◌≡◌, ◌<◌, ℕ, List, [], ◌∷◌, length, slice_index_or}
use Rattle.std.specs.List.{All, Contains}

-- the nodes that a node needs
abbrev pub needs_of : List (List ℕ) → ℕ → List ℕ
needs_of needs d = slice_index_or needs d []

-- nodes need nodes alone
abbrev pub AreInside : List (List ℕ) → Type 0
AreInside needs = (d e : ℕ) → Contains (needs_of needs d) e → e < length needs

-- each of the rest needs only what stands before it
abbrev pub NeedsBefore : List (List ℕ) → List ℕ → List ℕ → Type 0
NeedsBefore needs done [] = Unit {0}
NeedsBefore needs done (d ∷ ds) = All (Contains done) (needs_of needs d) × NeedsBefore needs (d ∷ done) ds

-- no node of the rest is there twice, or among what is done
abbrev pub EachOnce : List ℕ → List ℕ → Type 0
EachOnce done [] = Unit {0}
EachOnce done (d ∷ ds) = (¬ Contains done d) × EachOnce (d ∷ done) ds

-- one at least, and each needs one of them
pub record IsCircle (needs : List (List ℕ)) (ds : List ℕ) : Type 0 where
  pub some : ¬ (ds ≡ [])
  pub below : (d : ℕ) → Contains ds d → d < length needs
  pub each : (d : ℕ) → Contains ds d → (e : ℕ) × (Contains (needs_of needs d) e × Contains ds e)

abbrev pub HasCircle : List (List ℕ) → Type 0
HasCircle needs = (ds : List ℕ) × IsCircle needs ds

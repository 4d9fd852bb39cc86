-- Nodes that are put in order, one after the other, each where all that it needs has been put.
use Rattle.std.specs.Prelude.{◌≡◌, ◌<◌, ◌≤◌, ◌⊎◌, ℕ, Bool, true, false, List, [], ◌∷◌, ◌++◌, length, slice_index_or}
use Rattle.std.specs.List.{All, Contains}
use Rattle.graph_order.specs.Needs.{needs_of, NeedsBefore, EachOnce}

pub record Places : Type 0 where
  -- how many nodes there are
  pub count : ℕ
  pub order : List ℕ

abbrev pub with_node : Places → ℕ → Places
with_node p d = record { count = p.count; order = p.order ++ d ∷ [] }

-- the flag of a node is set where it has been put
pub record AreFlags (flags : List Bool) (order : List ℕ) : Type 0 where
  pub put : (d : ℕ) → slice_index_or flags d false ≡ true → Contains order d
  pub there : (d : ℕ) → Contains order d → slice_index_or flags d false ≡ true

-- so many nodes have flags, and the nodes in order are those that have been put, each once
pub record IsPlaced (flags : List Bool) (count : ℕ) (order : List ℕ) : Type 0 where
  pub counted : length flags ≡ count
  pub flagged : AreFlags flags order
  pub once : EachOnce [] order

-- something that a node needs hasn't been put
abbrev pub IsStuck : List (List ℕ) → List ℕ → ℕ → Type 0
IsStuck needs order d = (e : ℕ) × (Contains (needs_of needs d) e × (¬ Contains order e))

-- a node was there already
pub record WasThere (p q : Places) (later after : List ℕ) (d : ℕ) : Type 0 where
  pub placed : q ≡ p
  pub waiting : after ≡ later
  pub there : Contains p.order d

-- a node has been put behind all that it needs
pub record WasPut (needs : List (List ℕ)) (p q : Places) (later after : List ℕ) (d : ℕ) : Type 0 where
  pub placed : q ≡ with_node p d
  pub waiting : after ≡ later
  pub done : All (Contains p.order) (needs_of needs d)

-- a node waits
pub record Waits (needs : List (List ℕ)) (p q : Places) (later after : List ℕ) (d : ℕ) : Type 0 where
  pub placed : q ≡ p
  pub waiting : after ≡ later ++ d ∷ []
  pub stuck : IsStuck needs p.order d

abbrev pub Stepped : List (List ℕ) → Places → Places → List ℕ → List ℕ → ℕ → Type 0
Stepped needs p q later after d = WasThere p q later after d ⊎ (WasPut needs p q later after d ⊎ Waits needs p q later after d)

-- nodes have been put where all that they need was there; others wait
pub record Rounded (needs : List (List ℕ)) (p q : Places) (nodes later : List ℕ) : Type 0 where
  pub count : q.count ≡ p.count
  pub behind : NeedsBefore needs [] p.order → NeedsBefore needs [] q.order
  pub kept : (d : ℕ) → Contains p.order d → Contains q.order d
  pub each : (d : ℕ) → Contains nodes d → Contains q.order d ⊎ Contains later d
  pub from : (d : ℕ) → Contains later d → Contains nodes d
  pub less : length later ≤ length nodes
  pub stuck : length later ≡ length nodes → (q ≡ p) × ((d : ℕ) → Contains nodes d → IsStuck needs p.order d)

-- each node has been put behind all that it needs, or waits
pub record AreSorted (needs : List (List ℕ)) (p : Places) (waiting : List ℕ) : Type 0 where
  pub count : p.count ≡ length needs
  pub behind : NeedsBefore needs [] p.order
  pub each : (d : ℕ) → d < length needs → Contains p.order d ⊎ Contains waiting d
  pub below : (d : ℕ) → Contains waiting d → d < length needs

-- what waits is stuck
pub record AreStuck (needs : List (List ℕ)) (p : Places) (rest : List ℕ) : Type 0 where
  pub sorted : AreSorted needs p rest
  pub stuck : (d : ℕ) → Contains rest d → IsStuck needs p.order d

-- a node has been put, or was there
abbrev pub AddedOne : Places → Places → ℕ → Type 0
AddedOne p q d = ((q ≡ p) × Contains p.order d) ⊎ (q ≡ with_node p d)

-- more nodes have been put, these among them
pub record AreAdded (p q : Places) (nodes : List ℕ) : Type 0 where
  pub count : q.count ≡ p.count
  pub kept : (d : ℕ) → Contains p.order d → Contains q.order d
  pub each : (d : ℕ) → Contains nodes d → Contains q.order d
  pub none : nodes ≡ [] → q ≡ p

-- The laws of orders in a text that breaks no rule on names: that one leads through its definitions, since none of them needs itself; so
-- that the text has a ground, and one alone, and that this differs from the one that knows counters in counters alone.
use Rattle.std.specs.Prelude.{◌≡◌, ◌<◌, ℕ, Bool, true, false, List, Option, Some, slice_get}
use Rattle.std.specs.List.{Contains}
use Rattle.chill_tree.specs.declared.tree.name.Name.{Name}
use Rattle.chill_tree.specs.SimpleTree.{ControlTree}
use Rattle.chill_tree.specs.ItemTree.{ProgramTree}
use Rattle.checks_model.specs.Ground.{Ground, Origin, a_counter, number_at}
use Rattle.checks_model.specs.Table.{ground_with, IsGroundOf, IsStatementGroundOf}
use Rattle.checks_model.specs.Diagnoses.{HasNames}
use Rattle.table_laws.specs.Names.{names_bounding}
use Rattle.table_laws.specs.OneTable.{IsOrder}
use Rattle.order_laws.specs.Orders.{LeadsTo}

-- In a text that breaks no rule on names no definition leads to itself.
abbrev pub NoneItselfLaw : Type 0
NoneItselfLaw = (text : List ℕ) (t : ProgramTree) (g : Ground) → HasNames text t → g ≡ ground_with t g.entries → (d : ℕ) → ¬ LeadsTo g d d

-- So there is an order of its definitions.
abbrev pub TextOrderLaw : Type 0
TextOrderLaw = (text : List ℕ) (t : ProgramTree) (g : Ground) → HasNames text t → g ≡ ground_with t g.entries → (order : List ℕ) × IsOrder g order

-- It has a ground for the phase of modes and constants, and one alone.
abbrev pub GroundThereLaw : Type 0
GroundThereLaw = (text : List ℕ) (t : ProgramTree) → HasNames text t → (g : Ground) × IsGroundOf t g

abbrev pub OneGroundLaw : Type 0
OneGroundLaw = (text : List ℕ) (t : ProgramTree) (g h : Ground) → HasNames text t → IsGroundOf t g → IsGroundOf t h → g ≡ h

abbrev pub is_counter : Option Origin → Bool
is_counter (Some (a_counter c)) = true
is_counter _ = false

-- Of all but counters the same is known in the ground for the later phases.
abbrev pub TextCountersLaw : Type 0
TextCountersLaw = (text : List ℕ) (t : ProgramTree) (g h : Ground) → HasNames text t → IsGroundOf t g → IsStatementGroundOf t h
    → (d : ℕ) → is_counter (slice_get g.origins d) ≡ false → slice_get g.entries d ≡ slice_get h.entries d

-- Each definition has a depth such that the values around a counter's loop name only what stands less deep than the counter.
abbrev pub CountersDeepLaw : Type 0
CountersDeepLaw = (text : List ℕ) (t : ProgramTree) (g : Ground) → HasNames text t → g ≡ ground_with t g.entries
    → (depth : ℕ → ℕ) × ((d e : ℕ) (c : ControlTree) (n : Name) → slice_get g.origins d ≡ Some (a_counter c) → Contains (names_bounding c) n → number_at g.uses n.at ≡ Some e → depth e < depth d)

-- A counter that such a value names stands before the counter.
abbrev pub CountersRiseLaw : Type 0
CountersRiseLaw = (text : List ℕ) (t : ProgramTree) (g : Ground) → HasNames text t → g ≡ ground_with t g.entries
    → (d e : ℕ) (c k : ControlTree) (n : Name) → slice_get g.origins d ≡ Some (a_counter c) → Contains (names_bounding c) n → number_at g.uses n.at ≡ Some e → slice_get g.origins e ≡ Some (a_counter k) → e < d

-- The law of counters: in a text that breaks no rule each has a mode.
use Rattle.std.specs.Prelude.{◌≡◌, ℕ, List, Some, IsSome, slice_get}
use Rattle.chill_tree.specs.SimpleTree.{ControlTree}
use Rattle.chill_tree.specs.ItemTree.{ProgramTree}
use Rattle.checks_model.specs.Ground.{Ground, a_counter, mode_of_entry}
use Rattle.checks_model.specs.Diagnoses.{BreaksNoRule}

abbrev pub CountersThereLaw : Type 0
CountersThereLaw = (text : List ℕ) (t : ProgramTree) (h : Ground) → BreaksNoRule text t h → (d : ℕ) (c : ControlTree) → slice_get h.origins d ≡ Some (a_counter c) → IsSome (mode_of_entry (slice_get h.entries d))

-- The laws of what is known of definitions and names in the ground that knows counters.
use Rattle.std.specs.Prelude.{◌≡◌, ℕ, List, [], Some, IsSome, slice_get}
use Rattle.chill_tree.specs.declared.tree.name.Name.{Name}
use Rattle.chill_tree.specs.SimpleTree.{ControlTree}
use Rattle.chill_tree.specs.ItemTree.{ProgramTree, ProcedureTree, SignalTree}
use Rattle.checks_model.specs.ActionRules.{told_control}
use Rattle.checks_model.specs.Ground.{Ground, Entry, a_counter, a_received, a_procedure, a_signal, mode_of_entry}
use Rattle.checks_model.specs.Table.{IsStatementGroundOf}
use Rattle.checks_model.specs.Diagnoses.{HasModes, BreaksNoRule}
use Rattle.elaborated_laws.specs.Known.{IsKnownName}
use Rattle.elaborated_laws.specs.Classes as classes
use Rattle.written_laws.specs.Written.{Each}
use Rattle.there_laws.specs.Table.{IsThereBy}

-- Of each definition there is what constants and modes need.
abbrev pub NumbersThereLaw : Type 0
NumbersThereLaw = (text : List ℕ) (t : ProgramTree) (g h : Ground) → HasModes text t g → IsStatementGroundOf t h → (d : ℕ) → IsThereBy (slice_get h.entries d) (Some d) (slice_get h.origins d)

-- A constant has a class, and the mode that a name stands for is one that a location may have.
abbrev pub NamesKnownLaw : Type 0
NamesKnownLaw = (text : List ℕ) (t : ProgramTree) (g h : Ground) → HasModes text t g → IsStatementGroundOf t h → (n : Name) → IsKnownName h n

-- The modes of what a name stands for are such modes.
abbrev pub NameModesLaw : Type 0
NameModesLaw = (text : List ℕ) (t : ProgramTree) (g h : Ground) → HasModes text t g → IsStatementGroundOf t h → (n : Name) → classes.HasModes h n

-- A procedure that returns something has the mode of its result.
abbrev pub ResultsLaw : Type 0
ResultsLaw = (text : List ℕ) (t : ProgramTree) (g h : Ground) → HasModes text t g → IsStatementGroundOf t h
    → (d : ℕ) (p : ProcedureTree) → slice_get h.origins d ≡ Some (a_procedure p) → IsSome p.returns → IsSome (mode_of_entry (slice_get h.entries d))

-- A signal has the modes of its parts.
abbrev pub SignalsLaw : Type 0
SignalsLaw = (text : List ℕ) (t : ProgramTree) (g h : Ground) → HasModes text t g → IsStatementGroundOf t h
    → (d : ℕ) (s : SignalTree) (e : Entry) → slice_get h.origins d ≡ Some (a_signal s) → slice_get h.entries d ≡ Some e → Each (λ m. IsSome m) e.parts

-- ---- where no rule is broken

-- A received name has a mode.
abbrev pub ReceivedLaw : Type 0
ReceivedLaw = (text : List ℕ) (t : ProgramTree) (h : Ground) → BreaksNoRule text t h → (d : ℕ) (n : Name) (count part : ℕ) → slice_get h.origins d ≡ Some (a_received n count part) → IsSome (mode_of_entry (slice_get h.entries d))

-- Nothing is told of the loop of a counter.
abbrev pub ControlsLaw : Type 0
ControlsLaw = (text : List ℕ) (t : ProgramTree) (h : Ground) → BreaksNoRule text t h → (d : ℕ) (c : ControlTree) → slice_get h.origins d ≡ Some (a_counter c) → told_control h c ≡ []

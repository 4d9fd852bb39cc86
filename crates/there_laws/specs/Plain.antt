-- The law of the names of a text that breaks no rule on modes and constants.
use Rattle.std.specs.Prelude.{◌≡◌, ℕ, List, Some, slice_get}
use Rattle.chill_tree.specs.declared.tree.name.Name.{Name}
use Rattle.chill_tree.specs.ItemTree.{ProgramTree}
use Rattle.checks_model.specs.Ground.{Ground, Origin, a_synonym, a_mode, a_location, a_parameter, a_procedure, a_signal}
use Rattle.checks_model.specs.Table.{ground_with, IsStatementGroundOf}
use Rattle.checks_model.specs.Diagnoses.{HasNames, HasModes}
use Rattle.there_laws.specs.Table.{TuplesNamed, ModeNamed, SomeModeNamed, SomeModesNamed, IsNameThere}

-- the names in what defines something stand for modes where they have to
abbrev pub IsNamedSo : Ground → Origin → Type 0
IsNamedSo g (a_synonym s) = SomeModeNamed g s.mode × TuplesNamed g s.value
IsNamedSo g (a_mode novel w) = ModeNamed g w
IsNamedSo g (a_location d) = ModeNamed g d.mode
IsNamedSo g (a_parameter w) = ModeNamed g w
IsNamedSo g (a_procedure p) = SomeModeNamed g p.returns
IsNamedSo g (a_signal s) = SomeModesNamed g s.parts
IsNamedSo g o = Unit {0}

abbrev pub AllNamedSo : Ground → Type 0
AllNamedSo g = (d : ℕ) (o : Origin) → slice_get g.origins d ≡ Some o → IsNamedSo g o

-- They do in a text that breaks no rule on names.
abbrev pub NamedSoLaw : Type 0
NamedSoLaw = (text : List ℕ) (t : ProgramTree) (g : Ground) → HasNames text t → g ≡ ground_with t g.entries → AllNamedSo g

-- In a text that breaks no rule on names, modes and constants each name has what constants and modes need.
abbrev pub TextThereLaw : Type 0
TextThereLaw = (text : List ℕ) (t : ProgramTree) (g : Ground) → HasModes text t g → (n : Name) → IsNameThere g n

-- So it does where its ground knows counters.
abbrev pub CountersThereLaw : Type 0
CountersThereLaw = (text : List ℕ) (t : ProgramTree) (g h : Ground) → HasModes text t g → IsStatementGroundOf t h → (n : Name) → IsNameThere h n

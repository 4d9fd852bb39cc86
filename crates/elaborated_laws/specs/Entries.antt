-- The law that the modes of a table are modes that a location may have.
use Rattle.std.specs.Prelude.{◌≡◌, ◌≤◌, ℕ, List, [], ◌∷◌, length, Option, Some, None, slice_get}
use Rattle.chill_tree.specs.declared.tree.name.Name.{Name}
use Rattle.chill_tree.specs.ModeTree as written
use Rattle.checks_model.specs.Ground.{Ground, Origin, a_synonym, an_element, a_location, a_parameter, a_procedure, a_signal}
use Rattle.table_laws.specs.OneTable.{IsEvaluated, IsOrder}
use Rattle.elaborated_laws.specs.Modes.{IsWritten}
use Rattle.elaborated_laws.specs.Table.{AreDefined}
use Rattle.elaborated_laws.specs.Classes.{HasModes, HasShortTexts}

abbrev pub IsSomeWritten : Option written.ModeTree → Type 0
IsSomeWritten None = Unit {0}
IsSomeWritten (Some w) = IsWritten w

abbrev pub AllWritten : List written.ModeTree → Type 0
AllWritten [] = Unit {0}
AllWritten (w ∷ ws) = IsWritten w × AllWritten ws

abbrev pub AreSomeWritten : Option (List written.ModeTree) → Type 0
AreSomeWritten None = Unit {0}
AreSomeWritten (Some ws) = AllWritten ws

-- what defines something is written as the grammar, the tokens and the number of definitions allow it
abbrev pub IsWrittenSo : Origin → Type 0
IsWrittenSo (a_synonym s) = IsSomeWritten s.mode × HasShortTexts s.value
IsWrittenSo (an_element names part owner) = length names ≤ 4096
IsWrittenSo (a_location d) = IsWritten d.mode
IsWrittenSo (a_parameter w) = IsWritten w
IsWrittenSo (a_procedure p) = IsSomeWritten p.returns
IsWrittenSo (a_signal s) = AreSomeWritten s.parts
IsWrittenSo o = Unit {0}

abbrev pub AllWrittenSo : Ground → Type 0
AllWrittenSo g = (d : ℕ) (o : Origin) → slice_get g.origins d ≡ Some o → IsWrittenSo o

abbrev pub TableModesLaw : Type 0
TableModesLaw = (g : Ground) (order : List ℕ) → IsEvaluated g → IsOrder g order → AreDefined g → AllWrittenSo g → (n : Name) → HasModes g n

-- The law that what constants and modes need of names is known of each name of a table.
use Rattle.std.specs.Prelude.{◌≡◌, ℕ, Bool, List, Option, Some, IsSome, slice_get}
use Rattle.chill_tree.specs.declared.tree.name.Name.{Name}
use Rattle.chill_tree.specs.ModeTree as written
use Rattle.modes.specs.Language.{IsOfLanguage}
use Rattle.checks_model.specs.Ground.{Ground, Origin, of_mode, a_mode, an_element, a_predefined}
use Rattle.checks_model.specs.Table.{set_mode}
use Rattle.table_laws.specs.OneTable.{IsEvaluated, IsOrder}
use Rattle.elaborated_laws.specs.Known.{IsKnownName}
use Rattle.elaborated_laws.specs.Modes.{IsWritten}

-- A definition as a text has it: a mode is as it is written, a predefined one is of the language, and of a SET's element the SET, and
-- what that is the whole mode of, are defined.
abbrev pub IsDefinedSo : Ground → Origin → Type 0
IsDefinedSo g (a_mode novel w) = IsWritten w
IsDefinedSo g (an_element names part owner) = IsSome (set_mode g names owner)
IsDefinedSo g (a_predefined (of_mode m)) = IsOfLanguage m
IsDefinedSo g o = Unit {0}

-- so is each
abbrev pub AreDefined : Ground → Type 0
AreDefined g = (d : ℕ) (o : Origin) → slice_get g.origins d ≡ Some o → IsDefinedSo g o

abbrev pub KnownTableLaw : Type 0
KnownTableLaw = (g : Ground) (order : List ℕ) → IsEvaluated g → IsOrder g order → AreDefined g → (n : Name) → IsKnownName g n

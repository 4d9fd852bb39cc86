-- What is known of names: constants have classes, and modes are those that a location may have.
use Rattle.std.specs.Prelude.{◌≡◌, Bool, true, false, List, [], ◌∷◌, Some, IsSome}
use Rattle.chill_tree.specs.declared.tree.name.Name.{Name}
use Rattle.modes.specs.ModeTree.{ModeTree, event, buffer, named}
use Rattle.modes.specs.Language.{IsOfLanguage}
use Rattle.checks_model.specs.Ground.{Ground, origin_of, entry_of, mode_of_name}
use Rattle.checks_model.specs.Classes.{class_of_name}
use Rattle.checks_model.specs.Constants.{value_of_name}

-- a mode of values of the language, an event, or a buffer of such values, under any names
abbrev pub IsDeclarable : ModeTree → Type 0
IsDeclarable (event l) = Unit {0}
IsDeclarable (buffer l e) = IsOfLanguage e
IsDeclarable (named d n m) = IsDeclarable m
IsDeclarable m = IsOfLanguage m

-- events and buffers are the whole mode of a location alone
abbrev pub IsModeFor : Bool → ModeTree → Type 0
IsModeFor true m = IsDeclarable m
IsModeFor false m = IsOfLanguage m

-- a name that has a value has a class, and the mode that it stands for is one that a location may have
pub record IsKnownName (g : Ground) (n : Name) : Type 0 where
  pub class : IsSome (value_of_name (entry_of g n) (origin_of g n)) → IsSome (class_of_name g n)
  pub mode : (m : ModeTree) → mode_of_name g n ≡ Some m → IsDeclarable m

abbrev pub AreKnown : Ground → List Name → Type 0
AreKnown g [] = Unit {0}
AreKnown g (n ∷ ns) = IsKnownName g n × AreKnown g ns

-- The law that the modes that a text writes are modes that a location may have.
use Rattle.std.specs.Prelude.{◌≡◌, ◌≤◌, ℕ, Bool, true, false, List, [], ◌∷◌, length, Some}
use Rattle.chill_tree.specs.ModeTree as written
use Rattle.modes.specs.ModeTree.{ModeTree}
use Rattle.checks_model.specs.Ground.{Ground}
use Rattle.checks_model.specs.WrittenModes.{mode_of}
use Rattle.table_laws.specs.Names.{names_in_mode}
use Rattle.elaborated_laws.specs.Known.{IsModeFor, AreKnown}

-- ---- what a text writes, as the grammar and the number of definitions allow it

-- a set has at most 4,096 elements
abbrev pub IsWrittenDiscrete : written.DiscreteTree → Type 0
IsWrittenDiscrete (written.named n) = Unit {0}
IsWrittenDiscrete (written.bounded n l h) = Unit {0}
IsWrittenDiscrete (written.set_of at ns) = length ns ≤ 4096

-- some field has a name
abbrev pub has_name : written.FieldNodes → Bool
has_name written.no_fields = false
has_name (written.more_fields [] b p fs) = has_name fs
has_name (written.more_fields (n ∷ ns) b p fs) = true

abbrev mutual
  -- and a structure has a field
  pub IsWrittenBase : written.BaseTree → Type 0
  IsWrittenBase (written.discrete d) = IsWrittenDiscrete d
  IsWrittenBase (written.powerset at d) = IsWrittenDiscrete d
  IsWrittenBase (written.chars at e) = Unit {0}
  IsWrittenBase (written.structure at fs p) = (has_name fs ≡ true) × AreWritten fs
  IsWrittenBase (written.array at i b s) = IsWrittenBase b

  pub AreWritten : written.FieldNodes → Type 0
  AreWritten written.no_fields = Unit {0}
  AreWritten (written.more_fields ns b p fs) = IsWrittenBase b × AreWritten fs

abbrev pub IsWritten : written.ModeTree → Type 0
IsWritten (written.base_mode b) = IsWrittenBase b
IsWritten (written.read_mode at b) = IsWrittenBase b
IsWritten (written.event_mode at l) = Unit {0}
IsWritten (written.buffer_mode at l b) = IsWrittenBase b

-- ---- the law

abbrev pub WrittenModeLaw : Type 0
WrittenModeLaw = (g : Ground) (whole : Bool) (w : written.ModeTree) (m : ModeTree) → AreKnown g (names_in_mode w) → IsWritten w → mode_of g whole w ≡ Some m → IsModeFor whole m

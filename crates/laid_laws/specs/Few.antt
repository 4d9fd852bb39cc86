-- Modes that have no more scalars than a mode may have.
use Rattle.std.specs.Prelude.{◌≡◌, ℕ, true, false, Option, Some, None, slice_get}
use Rattle.modes.specs.ModeTree.{ModeTree}
use Rattle.checks_model.specs.Ground.{Ground, Entry}
use Rattle.checks_model.specs.WrittenModes.{is_large}
use Rattle.constant_operators.specs.Grounds.{is_measured_origin}

abbrev pub HasFewScalars : Option Entry → Type 0
HasFewScalars None = Unit {0}
HasFewScalars (Some e) = (m : ModeTree) → e.mode ≡ Some m → is_large m ≡ false

-- each mode that can be measured has no more
abbrev pub AreFew : Ground → Type 0
AreFew g = (d : ℕ) → is_measured_origin (slice_get g.origins d) ≡ true → HasFewScalars (slice_get g.entries d)

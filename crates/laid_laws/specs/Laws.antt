-- What holds of every mode that a text writes.
use Rattle.std.specs.Prelude.{◌≡◌, Bool, false, Some, IsTrue}
use Rattle.chill_tree.specs.ModeTree as written
use Rattle.modes.specs.ModeTree.{ModeTree}
use Rattle.checks_model.specs.WrittenModes.{mode_of, is_large}
use Rattle.constant_operators.specs.Grounds.{ground_of, HasGround}
use Rattle.constant_operators.specs.Laid.{is_laid}
use Rattle.constant_operators.specs.declared.evaluation.Evaluation.{Evaluation}
use Rattle.laid_laws.specs.Few.{AreFew}

-- it has places for its scalars, where each mode that is known has
abbrev pub AreAllLaid : Type 0
AreAllLaid =
    (e : Evaluation) → HasGround e →
    (whole : Bool) (w : written.ModeTree) (m : ModeTree) → mode_of (ground_of e) whole w ≡ Some m → IsTrue (is_laid m)

-- it has no more scalars than a mode may have, where no mode that is known has more
abbrev pub IsNoneLarge : Type 0
IsNoneLarge =
    (e : Evaluation) → AreFew (ground_of e) →
    (whole : Bool) (w : written.ModeTree) (m : ModeTree) → mode_of (ground_of e) whole w ≡ Some m → is_large m ≡ false

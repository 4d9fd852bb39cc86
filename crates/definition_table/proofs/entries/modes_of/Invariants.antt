use Rattle.std.proofs.Common.{◌≡◌, ◌++◌, false, drop, map}
use Rattle.chill_tree.specs.ModeTree as written
use Rattle.checks_model.specs.WrittenModes.{mode_of}
use Rattle.constant_operators.specs.Grounds.{ground_of, HasGround}
use Rattle.laid_laws.specs.Few.{AreFew}
use Rattle.written_modes.specs.Wholes.{tree_there}
use Rattle.definition_table.proofs.entries.modes_of.Given as goal

abbrev pub invariant-loop-mode : goal.invariant-loop-mode
invariant-loop-mode l = HasGround l.ground → AreFew (ground_of l.ground)
    → map tree_there l.found ++ map (mode_of (ground_of l.ground) false) (map written.mode_tree (drop l.mode-index l.parts)) ≡ map (mode_of (ground_of l.ground) false) (map written.mode_tree l.parts)

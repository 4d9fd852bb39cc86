use Rattle.std.proofs.Common.{◌≡◌, ◌++◌, drop, map}
use Rattle.chill_tree.specs.ModeTree.{mode_tree}
use Rattle.checks_model.specs.Sites.{at_mode}
use Rattle.statement_laws.specs.Steps.{told_at_all}
use Rattle.statement_rules.specs.Grounds.{ground_at, IsGrounded}
use Rattle.statement_rules.proofs.walk.Statements.tell_in_modes.Given as goal

abbrev pub invariant-loop-mode : goal.invariant-loop-mode
invariant-loop-mode l = IsGrounded l.self →
    l.told ++ told_at_all (ground_at l.self) (map at_mode (map mode_tree (drop l.mode-index l.modes))) ≡ l.fn.told ++ told_at_all (ground_at l.self) (map at_mode (map mode_tree l.modes))

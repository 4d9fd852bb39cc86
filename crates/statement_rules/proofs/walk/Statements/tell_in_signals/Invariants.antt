use Rattle.std.proofs.Common.{◌≡◌, ◌++◌, drop, map}
use Rattle.std.specs.Prelude.{flat_map}
use Rattle.chill_tree.specs.ItemTree.{signal_tree}
use Rattle.checks_model.specs.Sites.{sites_of_modes}
use Rattle.statement_laws.specs.Steps.{told_at_all}
use Rattle.statement_rules.specs.Grounds.{ground_at, IsGrounded}
use Rattle.statement_rules.proofs.walk.Statements.tell_in_signals.Given as goal

abbrev pub invariant-loop-signal : goal.invariant-loop-signal
invariant-loop-signal l = IsGrounded l.self →
    l.told ++ told_at_all (ground_at l.self) (flat_map (λ s. sites_of_modes s.parts) (map signal_tree (drop l.signal-index l.signals))) ≡ l.fn.told ++ told_at_all (ground_at l.self) (flat_map (λ s. sites_of_modes s.parts) (map signal_tree l.signals))

use Rattle.std.proofs.Common.{◌≡◌, ◌++◌, drop, map}
use Rattle.chill_tree.specs.LocalTree.{mode_definition_tree}
use Rattle.checks_model.specs.Sites.{at_mode_definition}
use Rattle.statement_laws.specs.Steps.{told_at_all}
use Rattle.statement_rules.specs.Grounds.{ground_at, IsGrounded}
use Rattle.statement_rules.proofs.walk.Statements.tell_in_definitions.Given as goal

abbrev pub invariant-loop-own : goal.invariant-loop-own
invariant-loop-own l = IsGrounded l.self →
    l.told ++ told_at_all (ground_at l.self) (map at_mode_definition (map mode_definition_tree (drop l.own-index l.modes))) ≡ l.fn.told ++ told_at_all (ground_at l.self) (map at_mode_definition (map mode_definition_tree l.modes))

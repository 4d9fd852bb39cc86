use Rattle.std.proofs.Common.{◌≡◌, ◌++◌, drop, map}
use Rattle.chill_tree.specs.ItemTree.{formal_tree}
use Rattle.checks_model.specs.Sites.{at_mode}
use Rattle.statement_laws.specs.Steps.{told_at_all}
use Rattle.statement_rules.specs.Grounds.{ground_at, IsGrounded}
use Rattle.statement_rules.proofs.walk.Statements.tell_in_formals.Given as goal

abbrev pub invariant-loop-formal : goal.invariant-loop-formal
invariant-loop-formal l = IsGrounded l.self →
    l.told ++ told_at_all (ground_at l.self) (map (λ q. at_mode q.mode) (map formal_tree (drop l.formal-index l.formals))) ≡ l.fn.told ++ told_at_all (ground_at l.self) (map (λ q. at_mode q.mode) (map formal_tree l.formals))

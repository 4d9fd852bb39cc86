use Rattle.std.proofs.Common.{◌≡◌, ◌++◌, drop, map}
use Rattle.std.specs.Prelude.{flat_map}
use Rattle.chill_tree.specs.ItemTree.{modulion_tree, modulion_item}
use Rattle.checks_model.specs.Sites.{sites_of_item}
use Rattle.statement_laws.specs.Steps.{told_at_all}
use Rattle.statement_rules.specs.Grounds.{ground_at, IsGrounded}
use Rattle.statement_rules.proofs.walk.Statements.tell_in_modulions.Given as goal

abbrev pub invariant-loop-modulion : goal.invariant-loop-modulion
invariant-loop-modulion l = IsGrounded l.self →
    l.told ++ told_at_all (ground_at l.self) (flat_map sites_of_item (map modulion_item (map modulion_tree (drop l.modulion-index l.modulions)))) ≡ l.fn.told ++ told_at_all (ground_at l.self) (flat_map sites_of_item (map modulion_item (map modulion_tree l.modulions)))

use Rattle.std.proofs.Common.{◌≡◌, ◌++◌, drop}
use Rattle.chill_tree.specs.ItemTree.{item_nodes, item_trees}
use Rattle.statement_rules.specs.Steps.{told_in_items}
use Rattle.statement_rules.specs.Grounds.{ground_at, IsGrounded}
use Rattle.statement_rules.proofs.walk.Statements.+item.Given as goal

abbrev pub invariant-tell_in_items-loop-item : goal.invariant-tell_in_items-loop-item
invariant-tell_in_items-loop-item l = IsGrounded l.self →
    l.told ++ told_in_items (ground_at l.self) (item_nodes (item_trees (drop l.item-index l.items))) ≡ l.fn.told ++ told_in_items (ground_at l.self) (item_nodes (item_trees l.items))

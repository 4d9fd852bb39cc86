use Rattle.std.proofs.Common.{◌≡◌, ◌||◌, ℕ, List, drop}
use Rattle.std.specs.List.{list_any}
use Rattle.chill_tree.specs.ItemTree.{item_trees}
use Rattle.process_names.specs.Rules.{has, declares_text}
use Rattle.process_names.proofs.granted.add_items.Given as goal

abbrev pub invariant-loop-item : goal.invariant-loop-item
invariant-loop-item l = (n : List ℕ) → (has l.table n || list_any (declares_text n) (item_trees (drop l.item-index l.items))) ≡ (has l.fn.table n || list_any (declares_text n) (item_trees l.items))
